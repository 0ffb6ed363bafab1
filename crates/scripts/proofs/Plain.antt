-- Bytes without LF.
use Rattle.std.proofs.Common.{◌≡◌, ℕ, zero, suc, Bool, true, false, not, eqb, [], ◌∷◌, refl, arith}
use Rattle.std.proofs.lemmas.Bool.{eqb-false, ne_eqb, not-true, and_parts}
use Rattle.format.specs.Bytes.{Bytes, is_digit, every}
use Rattle.opening.proofs.Digits.{digit_range}
use Rattle.scripts.proofs.Cut.{Unbroken}

unfoldable pub is_plain : ℕ → Bool
is_plain x = not (eqb x 10)

pub plain_unbroken : (w : Bytes) → every is_plain w ≡ true → Unbroken w
unfolding every is_plain
plain_unbroken [] e i h q = absurd (omega arith)
plain_unbroken (x ∷ w) e zero h q = eqb-false x 10 (not-true (eqb x 10) (and_parts (not (eqb x 10)) (every is_plain w) e).0) q
plain_unbroken (x ∷ w) e (suc i) h q = plain_unbroken w (and_parts (not (eqb x 10)) (every is_plain w) e).1 i (omega arith) q

-- digits are plain
pub digits_plain : (ds : Bytes) → every is_digit ds ≡ true → every is_plain ds ≡ true
unfolding every is_plain
digits_plain [] e = refl
digits_plain (d ∷ ds) e =
    let p = and_parts (is_digit d) (every is_digit ds) e in
    let r = digit_range d p.0 in
    let no_lf : eqb d 10 ≡ false = ne_eqb d 10 (λ q. omega arith) in
    rw no_lf (digits_plain ds p.1)
