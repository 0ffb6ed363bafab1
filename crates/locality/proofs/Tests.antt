-- What follows of tests, and what cannot be.
use Rattle.std.proofs.Common.{◌≡◌, ℕ, Bool, true, false, ◌&&◌, ◌||◌, eqb, refl, arith}
use borrow.Author.Tests.{eqb-false}
use Rattle.locality.proofs.Cases.{cases}

-- what cannot be
pub clash : {B : Type 0} → ◌≡◌ {A = ℕ} 0 1 → B
clash e = absurd (omega arith)

-- a test that fails does not pass
pub not_no : {B : Type 0} (b : Bool) → b ≡ false → b ≡ true → B
not_no b e f = clash (cc)

-- both pass: the first
pub and_left : (a b : Bool) → a && b ≡ true → a ≡ true
and_left true b e = refl
and_left false b e = e

-- both pass: the second
pub and_right : (a b : Bool) → a && b ≡ true → b ≡ true
and_right true b e = e
and_right false b e = clash (cc)

-- neither passes
pub or_none : (a b : Bool) → a || b ≡ false → (a ≡ false) × (b ≡ false)
or_none true b e = clash (cc)
or_none false b e = (refl, e)

-- a number is itself
pub equal : (m : ℕ) → eqb m m ≡ true
equal m = cases (eqb m m) (λ e. e) (λ e. absurd (eqb-false m m e refl))
