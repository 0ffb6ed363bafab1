-- Numbers as a command writes them, and as bytes are shown.
use Rattle.std.specs.Prelude.{◌≡◌, ℕ, ◌+◌, ◌-◌, ◌<◌, ◌≤◌, cond, List, length, nat_lt}
use Rattle.std.specs.Str.Parse.{AllDigits, digits_value}

-- one to 19 decimal digits, so that the number is below 2 ^ 64
pub record Decimal (text : List ℕ) : Type 0 where
  pub some : 0 < length text
  pub short : length text ≤ 19
  pub digits : AllDigits 10 text

-- the word writes the number
abbrev pub NumberIn : ℕ → List ℕ → Type 0
NumberIn n word = Decimal word × (n ≡ digits_value 10 word)

-- the hex digit of a number below 16, where this letter stands for ten
abbrev pub hex_digit : (ten n : ℕ) → ℕ
hex_digit ten n = cond (nat_lt n 10) (48 + n) (ten - 10 + n)
