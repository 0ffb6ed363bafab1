-- Numbers in decimal.
use Rattle.std.specs.Prelude.{◌≡◌, ℕ, ◌+◌, ◌^◌, ◌<◌, false, ◌∷◌, ◌++◌, length}
use Rattle.format.specs.Bytes.{Bytes, is_digit}
use Rattle.format.specs.Lines.{took, digits}
use Rattle.format.specs.Writing.{decimal}

-- A number below 10,000,000,000 in decimal is read again, before any byte that is no digit.
abbrev pub DigitsReadBack : Type 0
DigitsReadBack =
    (p n c : ℕ) (ys : Bytes) → n < 10 ^ 10 → is_digit c ≡ false →
    digits p (decimal n ++ (c ∷ ys)) ≡ took n (p + length (decimal n)) (c ∷ ys)
