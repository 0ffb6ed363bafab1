-- Numbers as the code reads them, in one walk.
use Rattle.std.specs.Prelude.{ℕ, suc, ◌+◌, ◌-◌, ◌*◌, min, Bool, true, false, not, ◌&&◌, [], ◌∷◌, Some, None, Ok, Err, Option, Result, pos, ◌==◌}
use Rattle.format.specs.Bytes.{Bytes, is_digit}
use Rattle.format.specs.Numbers.{bounded}
use Rattle.format.specs.Tokens.{Kind, int, real, flawed, numeral_kind}
use Rattle.lexer.specs.declared.flaw.Flaw.{Flaw}
use Rattle.lexer.specs.declared.flaw.Flaw.TheVariants.{BadNumber}
use Rattle.lexer.specs.declared.number.Numeral.{Numeral as Read}
use Rattle.lexer.specs.declared.number.Numeral.TheVariants as reads
use Rattle.lexer.specs.declared.number.Sign.{Sign}
use Rattle.lexer.specs.declared.number.Sign.TheVariants.{Absent, Plus, Minus}
use Rattle.lexer.specs.Flaws.{flaw_shown}

-- what the code answers of the bytes w, as the definitions say it
abbrev pub number_shown : Bytes → Result Read Flaw → Kind
number_shown w (Ok (reads.Unsigned n)) = int true (pos n)
number_shown w (Ok (reads.Signed z)) = int false z
number_shown w (Ok reads.Fraction) = real w
number_shown w (Err f) = flawed (flaw_shown f)

abbrev pub is_absent : Sign → Bool
is_absent Absent = true
is_absent Plus = false
is_absent Minus = false

abbrev pub is_minus : Sign → Bool
is_minus Absent = false
is_minus Plus = false
is_minus Minus = true

-- a size with its sign
abbrev pub size_shown : (unsigned minus : Bool) → Bytes → Result (Option ℕ) Flaw → Kind
size_shown u m w (Ok (Some n)) = numeral_kind w (bounded u m n)
size_shown u m w (Ok None) = real w
size_shown u m w (Err f) = flawed (flaw_shown f)

-- a size that stays past every bound once it is there
unfoldable pub capped : ℕ → ℕ
capped n = min n 2147483649

-- where the bytes end: whether a period and a digit came
abbrev pub finish : (period digit : Bool) → ℕ → ℕ → Result (Option ℕ) Flaw
finish b false n p = Err (BadNumber p)
finish true true n p = Ok None
finish false true n p = Ok (Some n)

-- the bytes behind the sign, byte by byte
unfoldable pub walk : (period digit : Bool) → ℕ → ℕ → Bytes → Result (Option ℕ) Flaw
walk b d n p [] = finish b d n p
walk b d n p (x ∷ xs) =
    elim (is_digit x) [
      | true ↦ walk b true (capped (n * 10 + (x - 48))) (suc p) xs
      | false ↦ elim (x == 46 && not b) [ true ↦ walk true d n (suc p) xs | false ↦ Err (BadNumber p) ]
    ]
