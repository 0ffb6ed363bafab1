-- Ends of line and fixed words: what is taken, and what stands there where something is taken.
use Rattle.std.proofs.Common.{◌≡◌, ℕ, suc, ◌+◌, true, false, eqb, [], ◌∷◌, ◌++◌, length, refl, ◌∙◌, arith}
use Rattle.std.proofs.lemmas.Bool.{eqb-true, eq-eqb, and_parts}
use Rattle.format.specs.Bytes.{Bytes, is_digit, every}
use Rattle.format.specs.Space.{eol_at, after_cr}
use Rattle.format.specs.Lines.{took, exact, eol_piece, eol, exact_line, number_line}
use Rattle.format.specs.Sections.{begins_digit}
use Rattle.sections.specs.Reading.{begins_lf, LfAsBefore}
use Rattle.sections.proofs.Tests.{clash}
use Rattle.sections.proofs.Digits.{took_at, Spells, digits_taken}
use Rattle.locality.proofs.Cases.{cases}

-- the three ends of line
pub data End : Type 0 where
  lf : End
  cr : End
  crlf : End

-- the bytes of an end of line
abbrev pub end_bytes : End → Bytes
end_bytes lf = 10 ∷ []
end_bytes cr = 13 ∷ []
end_bytes crlf = 13 ∷ 10 ∷ []

-- an end of line ends before these bytes: no LF follows a CR
abbrev pub Closes : End → Bytes → Type 0
Closes lf ys = Unit {0}
Closes cr ys = begins_lf ys ≡ false
Closes crlf ys = Unit {0}

-- each end of line ends before bytes that do not begin with LF
pub closes : (e : End) (ys : Bytes) → begins_lf ys ≡ false → Closes e ys
closes lf ys h = tt
closes cr ys h = h
closes crlf ys h = tt

-- an end of line that ended before some bytes ends before others, unless LF stands first in these alone
pub closes_again : (e : End) (rest ys : Bytes) → Closes e rest → LfAsBefore rest ys → Closes e ys
closes_again lf rest ys c h = tt
closes_again cr rest ys c h = cases (begins_lf ys) (λ t. clash (h t) c) (λ f. f)
closes_again crlf rest ys c h = tt

-- an end of line is taken whole
pub eol_taken : (e : End) (p : ℕ) (ys : Bytes) → Closes e ys → eol p (end_bytes e ++ ys) ≡ took tt (p + length (end_bytes e)) ys
unfolding eol eol_piece eol_at after_cr begins_lf
eol_taken lf p ys h = took_at (omega arith)
eol_taken cr p [] h = took_at (omega arith)
eol_taken cr p (y ∷ ys) h = rw (h, after_cr) (took_at (omega arith))
eol_taken crlf p ys h = took_at (omega arith)

-- an end of line begins with no digit
pub end_begins : (e : End) (ys : Bytes) → begins_digit (end_bytes e ++ ys) ≡ false
unfolding begins_digit is_digit
end_begins lf ys = refl
end_begins cr ys = refl
end_begins crlf ys = refl

-- a word is taken where it stands
pub exact_taken : (w : Bytes) (p : ℕ) (ys : Bytes) → exact w p (w ++ ys) ≡ took tt (p + length w) ys
unfolding exact
exact_taken [] p ys = took_at (omega arith)
exact_taken (x ∷ w) p ys = rw (eq-eqb x x refl, exact) (exact_taken w (suc p) ys ∙ took_at (omega arith))

-- a word and an end of line are taken where they stand
pub exact_line_taken : (w : Bytes) (e : End) (p : ℕ) (ys : Bytes) → Closes e ys → exact_line w p (w ++ (end_bytes e ++ ys)) ≡ took tt (p + (length w + length (end_bytes e))) ys
unfolding exact_line
exact_line_taken w e p ys h = rw (exact_taken w p (end_bytes e ++ ys)) (eol_taken e (p + length w) ys h ∙ took_at (omega arith))

-- digits that spell the number and an end of line are taken where they stand
pub number_line_taken : (n : ℕ) (ds : Bytes) (e : End) (p : ℕ) (ys : Bytes) → Spells n ds → Closes e ys →
    number_line n p (ds ++ (end_bytes e ++ ys)) ≡ took tt (p + (length ds + length (end_bytes e))) ys
unfolding number_line
number_line_taken n ds e p ys s h =
    rw (digits_taken p n ds (end_bytes e ++ ys) s (end_begins e ys))
    (rw (eol_taken e (p + length ds) ys h) (rw (eq-eqb n n refl, number_line) (took_at (omega arith))))

-- LF is no digit
pub digit_not_lf : (d : ℕ) → is_digit d ≡ true → eqb d 10 ≡ false
unfolding is_digit
digit_not_lf d e = cases (eqb d 10) (λ b. clash (rw (eqb-true d 10 b) at e) refl) (λ b. b)

-- digits do not begin with LF
pub digits_no_lf : (n : ℕ) (ds ys : Bytes) → Spells n ds → begins_lf (ds ++ ys) ≡ false
unfolding begins_lf every
digits_no_lf n [] ys s = absurd (omega (arith, s.some))
digits_no_lf n (d ∷ ds) ys s = digit_not_lf d (and_parts (is_digit d) (every is_digit ds) s.digit).0
