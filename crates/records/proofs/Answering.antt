-- One answer after another.
use Rattle.std.proofs.Common.{◌≡◌, Ok, Err, Result, refl, ap}
use Rattle.std.specs.Result.{IsErrAnd}
use Rattle.faults.specs.declared.fault.Fault.{Fault}
use Rattle.format.specs.Chain.{Answer, also}

-- a refusal that is handed up
pub handed : {T : Type 0} (r : Result T Fault) (f : Fault) → IsErrAnd r (λ g. g ≡ f) → r ≡ Err f
handed (Ok x) f h = absurd h
handed (Err g) f h = ap Err h

-- an answer, and nothing more
pub also_same : {A : Type 0} (a : Answer A) → a ≡ also a (λ x. Ok x)
also_same (Ok x) = refl
also_same (Err f) = refl

-- a value made in two steps is made in one
pub also_made : {A B C : Type 0} (a : Answer A) (k : A → B) (l : B → C) (m : A → C) → ((x : A) → l (k x) ≡ m x) → also (also a (λ x. Ok (k x))) (λ y. Ok (l y)) ≡ also a (λ x. Ok (m x))
also_made (Ok x) k l m h = ap Ok (h x)
also_made (Err f) k l m h = refl
