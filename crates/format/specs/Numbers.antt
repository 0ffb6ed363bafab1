-- Numbers (ISO 32000-1, 7.3.3).
use Rattle.std.specs.Prelude.{ℕ, zero, suc, Bool, true, false, ◌||◌, [], ◌∷◌, ℤ, pos, negsuc, Some, None, Option, ◌==◌, nat_eq, nat_le}
use Rattle.format.specs.Bytes.{Bytes, end_of, is_digit, some, value}

-- what regular bytes that start like a number are
pub data Numeral : Type 0 where
  -- an integer, and whether it has no sign
  whole : (unsigned : Bool) → ℤ → Numeral
  -- a real: exactly one period and at least one digit
  fraction : Numeral
  -- an integer past its bound
  past_bound : Numeral
  -- no number: the first byte that cannot continue one, else the end
  no_number : (at : ℕ) → Numeral

-- a digit, a sign or a period
unfoldable pub starts_number : ℕ → Bool
starts_number c = is_digit c || (c == 43 || (c == 45 || c == 46))

-- behind the sign: the first byte that is neither a digit nor the first period
unfoldable pub stops_at : (period : Bool) → ℕ → Bytes → Option ℕ
stops_at b p [] = None
stops_at b p (x ∷ xs) =
    elim (is_digit x) [
      | true ↦ stops_at b (suc p) xs
      | false ↦ elim (x == 46) [ true ↦ elim b [ true ↦ Some p | false ↦ stops_at true (suc p) xs ] | false ↦ Some p ]
    ]

unfoldable pub negated : ℕ → ℤ
negated zero = pos zero
negated (suc n) = negsuc n

-- an integer of that size, from -2147483648 to 2147483647
unfoldable pub bounded : (unsigned minus : Bool) → ℕ → Numeral
bounded u true n = elim (nat_le n 2147483648) [ true ↦ whole u (negated n) | false ↦ past_bound ]
bounded u false n = elim (nat_le n 2147483647) [ true ↦ whole u (pos n) | false ↦ past_bound ]

-- the bytes behind the sign, from the place p
unfoldable pub unsigned_part : (unsigned minus : Bool) → ℕ → Bytes → Numeral
unsigned_part u m p ds =
    elim (stops_at false p ds) [
      | Some q ↦ no_number q
      | None ↦
          elim (some is_digit ds) [
            | true ↦ elim (some (λ c. nat_eq c 46) ds) [ true ↦ fraction | false ↦ bounded u m (value ds) ]
            | false ↦ no_number (end_of p ds)
          ]
    ]

-- regular bytes that start at p like a number
unfoldable pub numeral : ℕ → Bytes → Numeral
numeral p [] = no_number p
numeral p (x ∷ xs) =
    elim (x == 45) [
      | true ↦ unsigned_part false true (suc p) xs
      | false ↦ elim (x == 43) [ true ↦ unsigned_part false false (suc p) xs | false ↦ unsigned_part true false p (x ∷ xs) ]
    ]

-- what a proof by computation unfolds
unfoldable pub computes_numbers : Unit {0}
unfolding starts_number stops_at negated bounded unsigned_part numeral
computes_numbers = tt
