-- The line that answers a refusal.
use Rattle.std.specs.Prelude.{ℕ, List, ◌++◌, codes, decimal}
use Rattle.faults.specs.declared.fault.Fault.{Fault}
use Rattle.faults.specs.Layers.{layer_number}
use Rattle.faults.specs.Rules.{rule_of}

-- `fault 54 layer 6 place 0 object 0`
abbrev pub refusal_words : Fault → List ℕ
refusal_words f =
    codes "fault "
    ++ (decimal (rule_of f.reason).number
    ++ (codes " layer "
    ++ (decimal (layer_number f.layer)
    ++ (codes " place " ++ (decimal f.place ++ (codes " object " ++ decimal f.object))))))
