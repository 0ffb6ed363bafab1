-- Cases of a test or of an answer, with the equation.
use Rattle.std.proofs.Common.{◌≡◌, Bool, true, false, Some, None, Ok, Err, Option, Result, refl, ap}
use Rattle.std.specs.Result.{IsErrAnd}

pub cases : {P : Type 0} (b : Bool) → (b ≡ true → P) → (b ≡ false → P) → P
cases true f g = f refl
cases false f g = g refl

pub either_some : {A P : Type 0} (o : Option A) → ((a : A) → o ≡ Some a → P) → (o ≡ None → P) → P
either_some (Some a) f g = f a refl
either_some None f g = g refl

-- an error that is handed on
pub handed : {T E : Type 0} (r : Result T E) (f : E) → IsErrAnd r (λ g. g ≡ f) → r ≡ Err f
handed (Ok x) f h = absurd h
handed (Err g) f h = ap Err h
