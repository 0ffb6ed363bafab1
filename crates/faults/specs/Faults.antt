-- The fault that a layer answers, and what is printed of it.
use Rattle.std.specs.Prelude.{ℕ, List, ◌++◌, codes, decimal}
use Rattle.faults.specs.declared.fault.Fault.{Fault}
use Rattle.faults.specs.declared.layer.Layer.{Layer}
use Rattle.faults.specs.declared.reason.Reason.{Reason}
use Rattle.faults.specs.Layers.{layer_number, layer_words}
use Rattle.faults.specs.Rules.{layer_of, rule_of}

-- a fault that a reader met at a place, before anyone knows the object
abbrev pub met : Reason → Layer → ℕ → Fault
met r l p = record { reason = r; layer = l; place = p; object = 0 }

-- the same fault with the number of the object that was checked or named
abbrev pub of_object : ℕ → Fault → Fault
of_object n f = record { reason = f.reason; layer = f.layer; place = f.place; object = n }

-- what the state of the book or of its store refuses: at place 0, by the layer of the reason, for the object that the call named
abbrev pub refused : Reason → ℕ → Fault
refused r n = record { reason = r; layer = layer_of r; place = 0; object = n }

-- `fault 54: the store has too little space; layer 6 store, place 0, object 0`
abbrev pub fault_words : Fault → List ℕ
fault_words f =
    codes "fault "
    ++ (decimal (rule_of f.reason).number
    ++ (codes ": "
    ++ ((rule_of f.reason).words
    ++ (codes "; layer "
    ++ (decimal (layer_number f.layer)
    ++ (codes " "
    ++ (layer_words f.layer
    ++ (codes ", place " ++ (decimal f.place ++ (codes ", object " ++ decimal f.object))))))))))
