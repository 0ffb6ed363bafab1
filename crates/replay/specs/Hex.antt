-- Bytes as text, two lower-case hex digits each.
use Rattle.std.specs.Prelude.{◌≡◌, ℕ, ◌/◌, ◌%◌, ◌<◌, ◌⊎◌, List, [], ◌∷◌, length, slice_index}
use Rattle.std.specs.Int.{IsInRange}
use Rattle.numerals.specs.Numbers.{hex_digit}

-- the digit that writes a number below 16, in lower case
abbrev pub digit_of : ℕ → ℕ
digit_of = hex_digit 97

-- the two digits of each byte, in their order
abbrev pub hex_of : List ℕ → List ℕ
hex_of [] = []
hex_of (b ∷ bs) = digit_of (b / 16) ∷ (digit_of (b % 16) ∷ hex_of bs)

-- `0` to `9` or `a` to `f`
abbrev pub HexDigit : ℕ → Type 0
HexDigit c = IsInRange 48 57 c ⊎ IsInRange 97 102 c

-- an even number of hex digits
pub record HexText (text : List ℕ) : Type 0 where
  pub even : length text % 2 ≡ 0
  pub digits : (k : ℕ) → k < length text → HexDigit (slice_index text k)
