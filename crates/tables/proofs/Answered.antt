-- What an accepted chain of rules says of its parts. Assumes nothing.
use Rattle.std.proofs.Common.{◌≡◌, ℕ, Bool, true, false, Ok, Err, refl, arith}
use Rattle.faults.specs.declared.fault.Fault.{Fault}
use Rattle.format.specs.Chain.{Answer, also, must}

-- a refusal is no answer
pub err_ok : {A B : Type 0} {f : Fault} {a : A} → ◌≡◌ {A = Answer A} (Err f) (Ok a) → B
err_ok e = let z : ◌≡◌ {A = ℕ} 0 1 = cc in absurd (omega arith)

-- both parts of an accepted sequence are accepted
pub also_ok : {A B : Type 0} (a : Answer A) (k : A → Answer B) (b : B) → also a k ≡ Ok b → (x : A) × (a ≡ Ok x) × (k x ≡ Ok b)
also_ok (Ok x) k b e = (x, refl, e)
also_ok (Err f) k b e = err_ok e

-- a rule that had to hold holds
pub must_ok : {A : Type 0} (t : Bool) (f : Fault) (k : Unit {0} → Answer A) (a : A) → must t f k ≡ Ok a → (t ≡ true) × (k tt ≡ Ok a)
must_ok true f k a e = (refl, e)
must_ok false f k a e = err_ok e
