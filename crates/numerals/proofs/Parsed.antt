-- What `parse` answers at a numeral.
use Rattle.std.proofs.Common.{◌≡◌, ℕ, ◌^◌, ◌<◌, ◌≤◌, Bool, true, false, List, length, get_or, Ok, Err, Option, Result, arith, MatchOption}
use Rattle.std.proofs.lemmas.Str.Parse.{IsNumeralModel, parse_plain, numerals_by_value, tells_digits, digits_value_short}
use Rattle.std.specs.Str.Parse.{AllDigits, digits_value, ParsesUnsigned}
use Rattle.std.specs.Result.{result_ok}
use Rattle.numerals.specs.Numbers.{Decimal, NumberIn}

-- a text that was tested for a sign and has none
pub plain : ◌≡◌ {A = Bool} true false → ⊥
plain e = let z : ◌≡◌ {A = ℕ} 0 1 = cc in omega arith

own : IsNumeralModel (AllDigits 10) (digits_value 10)
own = numerals_by_value _ tells_digits

fits : (bs : List ℕ) → Decimal bs → digits_value 10 bs < 2 ^ 64
fits bs d = omega (arith, digits_value_short own bs 19 d.digits d.short)

pub parsed : {E : Type 0} (bs : List ℕ) (r : Result ℕ E) (o : Option ℕ) → o ≡ result_ok r → ParsesUnsigned 64 10 bs r → length bs ≤ 19 → (get_or bs 0 0 ≡ 43 → ⊥) → MatchOption o (Decimal bs → ⊥) (λ n. NumberIn n bs)
parsed {E} bs (Ok n) o e h short plain =
    let q = parse_plain own {E = E} 64 bs (Ok n) h plain in
    rw e (record { some = q.0.1; short = short; digits = q.0.0 }, q.1)
parsed {E} bs (Err x) o e h short plain =
    let q = parse_plain own {E = E} 64 bs (Err x) h plain in
    rw e (λ d. q (d.digits, d.some, fits bs d))
