-- Ways to go by the value of a term, with the equation at hand.
use Rattle.std.proofs.Common.{◌≡◌, ℕ, zero, suc, Bool, true, false, Some, None, Option, refl, arith}

-- by a test
pub cases : {P : Type 0} (b : Bool) → (b ≡ true → P) → (b ≡ false → P) → P
cases true f g = f refl
cases false f g = g refl

-- by a number
pub casesℕ : {P : Type 0} (n : ℕ) → (n ≡ zero → P) → ((k : ℕ) → n ≡ suc k → P) → P
casesℕ zero f g = f refl
casesℕ (suc k) f g = g k refl

-- by an option
pub cases_o : {A P : Type 0} (o : Option A) → (o ≡ None → P) → ((a : A) → o ≡ Some a → P) → P
cases_o None f g = f refl
cases_o (Some a) f g = g a refl

-- a test is not both
pub not_both : {P : Type 0} (b : Bool) → b ≡ true → b ≡ false → P
not_both b e f = absurd (let z : ◌≡◌ {A = ℕ} 0 1 = cc in omega arith)
