-- The bytes around a place, and how a byte is shown to a person.
use Rattle.std.specs.Prelude.{ℕ, ◌-◌, ◌/◌, ◌%◌, min, Bool, cond, not, ◌&&◌, List, [], ◌∷◌, length, take, drop, ◌==◌, nat_le, nat_lt}
use Rattle.reports.specs.Numbers.{hex_digit}

-- how many bytes are shown on either side
abbrev pub reach : ℕ
reach = 24

-- a place past the end is taken for the end
abbrev pub place_in : List ℕ → ℕ → ℕ
place_in bytes place = min place (length bytes)

abbrev pub before_place : List ℕ → ℕ → List ℕ
before_place bytes place = drop (place_in bytes place - reach) (take (place_in bytes place) bytes)

abbrev pub behind_place : List ℕ → ℕ → List ℕ
behind_place bytes place = take reach (drop (place_in bytes place) bytes)

-- printable characters but the backslash
abbrev pub is_plain : ℕ → Bool
is_plain b = nat_le 32 b && (nat_lt b 127 && not (b == 92))

-- the digit of a number below 16, in capitals
abbrev pub digit_of : ℕ → ℕ
digit_of = hex_digit 65

-- a byte as a person reads it: as it is, or `\x` and two hex digits
abbrev pub spelled : ℕ → List ℕ
spelled b = cond (is_plain b) (b ∷ []) (92 ∷ (120 ∷ (digit_of (b / 16) ∷ (digit_of (b % 16) ∷ []))))
