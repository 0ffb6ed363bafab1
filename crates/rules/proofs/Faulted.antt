-- An answer that is a fault.
use Rattle.std.proofs.Common.{◌≡◌, ℕ, Ok, Err, arith}
use Rattle.faults.specs.declared.fault.Fault.{Fault}
use Rattle.format.specs.Chain.{Answer}

-- what is answered is no fault
pub never_fault : {A P : Type 0} {x : A} {f : Fault} → ◌≡◌ {A = Answer A} (Ok x) (Err f) → P
never_fault e = let z : ◌≡◌ {A = ℕ} 0 1 = cc in absurd (omega arith)

-- the fault of a refusal
pub faulted : {A : Type 0} {f g : Fault} → ◌≡◌ {A = Answer A} (Err f) (Err g) → f ≡ g
faulted e = cc
