-- The faults that the readers of each layer answer. Their numbers and words are the faults' own (`rule_of`).
use Rattle.std.specs.Prelude.{ℕ}
use Rattle.faults.specs.declared.fault.Fault.{Fault}
use Rattle.faults.specs.declared.layer.Layer.TheVariants.{Token, Object, Section, Chain}
use Rattle.faults.specs.declared.reason.Reason.{Reason}
use Rattle.faults.specs.Faults.{met, of_object}

abbrev pub token_fault : Reason → ℕ → Fault
token_fault r p = met r Token p

abbrev pub object_fault : Reason → ℕ → Fault
object_fault r p = met r Object p

abbrev pub section_fault : Reason → ℕ → Fault
section_fault r p = met r Section p

-- the chain knows the object whose entry it checks, 0 if none
abbrev pub chain_fault : Reason → ℕ → ℕ → Fault
chain_fault r p n = of_object n (met r Chain p)
