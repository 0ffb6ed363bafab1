-- The file's own tail is found from its end.
use Rattle.std.proofs.Common.{◌≡◌, ℕ, ◌+◌, ◌^◌, ◌<◌, ◌≤◌, Bool, true, false, eqb, leb, [], ◌∷◌, ◌++◌, reverse, length, Some, codes, refl, ap, ◌∙◌, append_assoc, append-nil, arith}
use mathlib.Core.List.{reverse_aux}
use Rattle.std.proofs.lemmas.List.{reverse-append, reverse-reverse, length-reverse}
use Rattle.std.proofs.lemmas.Bool.{eqb-true, eq-eqb, and_parts, and_from, le-leb}
use Rattle.format.specs.Bytes.{Bytes, is_digit, every, span, value}
use Rattle.format.specs.Frames.{behind}
use Rattle.format.specs.Sections.{back_eol, back_digits, last_offset, begins_digit}
use Rattle.format.specs.Writing.{decimal}
use Rattle.sections.proofs.Tests.{clash}
use Rattle.sections.proofs.Digits.{Spells, spells, span_digits}
use Rattle.sections.proofs.Ends.{End, lf, cr, crlf, end_bytes}
use Rattle.sections.proofs.Tails.{tail_on}
use Rattle.locality.proofs.Cases.{cases}

-- a word is found where it stands
pub behind_taken : (w ys : Bytes) → behind w (w ++ ys) ≡ Some ys
unfolding behind
behind_taken [] ys = refl
behind_taken (x ∷ w) ys = rw (eq-eqb x x refl, behind) (behind_taken w ys)

-- CR stands first
unfoldable begins_cr : Bytes → Bool
begins_cr [] = false
begins_cr (x ∷ xs) = eqb x 13

back_eol_taken : (e : End) (ys : Bytes) → begins_cr ys ≡ false → back_eol (reverse (end_bytes e) ++ ys) ≡ Some ys
unfolding back_eol begins_cr
back_eol_taken lf [] h = refl
back_eol_taken lf (y ∷ ys) h = rw (h, back_eol) refl
back_eol_taken cr ys h = refl
back_eol_taken crlf ys h = refl

every_reverse_aux : (f : ℕ → Bool) (xs r : Bytes) → every f xs ≡ true → every f r ≡ true → every f (reverse_aux xs r) ≡ true
unfolding every
every_reverse_aux f [] r a b = b
every_reverse_aux f (x ∷ xs) r a b =
    let h = and_parts (f x) (every f xs) a in
    every_reverse_aux f xs (x ∷ r) h.1 (and_from (f x) (every f r) h.0 b)

-- a test that each byte passes, backwards
pub every_reverse : (f : ℕ → Bool) (xs : Bytes) → every f xs ≡ true → every f (reverse xs) ≡ true
unfolding every
every_reverse f xs a = every_reverse_aux f xs [] a refl

digit_not_cr : (d : ℕ) → is_digit d ≡ true → eqb d 13 ≡ false
unfolding is_digit
digit_not_cr d e = cases (eqb d 13) (λ b. clash (rw (eqb-true d 13 b) at e) refl) (λ b. b)

digits_no_cr : (ds ys : Bytes) → every is_digit ds ≡ true → 1 ≤ length ds → begins_cr (ds ++ ys) ≡ false
unfolding begins_cr every
digits_no_cr [] ys a s = absurd (omega arith)
digits_no_cr (d ∷ ds) ys a s = digit_not_cr d (and_parts (is_digit d) (every is_digit ds) a).0

back_digits_taken : (n : ℕ) (ds ys : Bytes) → Spells n ds → begins_digit ys ≡ false → back_digits (span is_digit 0 (reverse ds ++ ys)) ≡ Some (n, ys)
unfolding back_digits
back_digits_taken n ds ys s h =
    let l : length (reverse ds) ≡ length ds = length-reverse ds in
    let a : 1 ≤ 0 + length (reverse ds) = omega (arith, s.some) in
    let b : 0 + length (reverse ds) ≤ 10 = omega (arith, s.few) in
    rw (span_digits 0 (reverse ds) ys (every_reverse is_digit ds s.digit) h)
    (rw (and_from (leb 1 (0 + length (reverse ds))) (leb (0 + length (reverse ds)) 10) (le-leb 1 (0 + length (reverse ds)) a) (le-leb (0 + length (reverse ds)) 10 b), back_digits)
    (let v : value (reverse (reverse ds)) ≡ n = ap value (reverse-reverse ds) ∙ s.val in λ i. Some (v i, ys)))

end_no_digit : (e : End) (ys : Bytes) → begins_digit (reverse (end_bytes e) ++ ys) ≡ false
unfolding begins_digit is_digit
end_no_digit lf ys = refl
end_no_digit cr ys = refl
end_no_digit crlf ys = refl

eof_no_cr : (ys : Bytes) → begins_cr (codes "FOE%%" ++ ys) ≡ false
unfolding begins_cr
eof_no_cr ys = refl

word_no_cr : (ys : Bytes) → begins_cr (codes "ferxtrats" ++ ys) ≡ false
unfolding begins_cr
word_no_cr ys = refl

backwards : (x a b c d e f : Bytes) → reverse (x ++ (a ++ (b ++ (c ++ (d ++ (e ++ (f ++ []))))))) ≡ reverse f ++ (reverse e ++ (reverse d ++ (reverse c ++ (reverse b ++ (reverse a ++ reverse x)))))
backwards x a b c d e f =
    reverse-append x (a ++ (b ++ (c ++ (d ++ (e ++ (f ++ []))))))
    ∙ ap (λ z. z ++ reverse x)
    (reverse-append a (b ++ (c ++ (d ++ (e ++ (f ++ [])))))
    ∙ ap (λ z. z ++ reverse a)
    (reverse-append b (c ++ (d ++ (e ++ (f ++ []))))
    ∙ ap (λ z. z ++ reverse b)
    (reverse-append c (d ++ (e ++ (f ++ [])))
    ∙ ap (λ z. z ++ reverse c) (reverse-append d (e ++ (f ++ [])) ∙ ap (λ z. z ++ reverse d) (reverse-append e (f ++ []) ∙ ap (λ z. reverse z ++ reverse e) (append-nil f))))))
    ∙ simp append_assoc

-- A tail that ends the bytes is found from the end, whatever its ends of line.
pub tail_found : (xs : Bytes) (off : ℕ) (a : End) (ds : Bytes) (b c : End) → Spells off ds → last_offset (xs ++ tail_on a ds b c []) ≡ Some off
unfolding last_offset
tail_found xs off a ds b c s =
    rw (backwards xs (codes "startxref") (end_bytes a) ds (end_bytes b) (codes "%%EOF") (end_bytes c))
    (rw (back_eol_taken c x₁ (eof_no_cr x₂))
    (rw (behind_taken (codes "FOE%%") x₂)
    (rw (back_eol_taken b x₃ (digits_no_cr (reverse ds) x₄ (every_reverse is_digit ds s.digit) some))
    (rw (back_digits_taken off ds x₄ s (end_no_digit a x₅)) (rw (back_eol_taken a x₅ (word_no_cr (reverse xs))) (rw (behind_taken (codes "ferxtrats") (reverse xs)) refl))))))
  where
    some : 1 ≤ length (reverse ds)
    some = let l = length-reverse ds in omega (arith, s.some)

    x₅ : Bytes
    x₅ = codes "ferxtrats" ++ reverse xs

    x₄ : Bytes
    x₄ = reverse (end_bytes a) ++ x₅

    x₃ : Bytes
    x₃ = reverse ds ++ x₄

    x₂ : Bytes
    x₂ = reverse (end_bytes b) ++ x₃

    x₁ : Bytes
    x₁ = codes "FOE%%" ++ x₂

-- the tail that is written is found from the end
pub last_found : (xs : Bytes) (n : ℕ) → n < 10 ^ 10 → last_offset (xs ++ (codes "startxref\n" ++ (decimal n ++ codes "\n%%EOF\n"))) ≡ Some n
last_found xs n h = tail_found xs n lf (decimal n) lf lf (spells n h)
