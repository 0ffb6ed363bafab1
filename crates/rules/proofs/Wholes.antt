-- How a file begins and ends: what the definition finds is what the rules say.
use Rattle.std.proofs.Common.{◌≡◌, ℕ, suc, ◌+◌, true, false, ◌&&◌, eqb, leb, [], ◌∷◌, ◌++◌, reverse, length, Some, None, codes, Option, sym, refl, ap, ◌∙◌, append_assoc, append-nil, arith}
use Rattle.std.proofs.lemmas.List.{reverse-append, reverse-reverse, length-reverse}
use Rattle.std.proofs.lemmas.Bool.{eqb-true, leb-true, le-leb, and_parts, and_from}
use Rattle.format.specs.Bytes.{Bytes, is_digit, every, span, value}
use Rattle.format.specs.Frames.{behind}
use Rattle.format.specs.Revisions.{version_fits, header_fits}
use Rattle.format.specs.Sections.{back_eol, back_digits, on, last_offset}
use Rattle.chains.proofs.Steps.{never_true}
use Rattle.locality.proofs.Cases.{cases, cases_o}
use Rattle.locality.proofs.Runs.{span_parts, span_to}
use Rattle.locality.proofs.Streams.{behind_parts}
use Rattle.sections.proofs.Digits.{Spells}
use Rattle.sections.proofs.Ends as theirs
use Rattle.sections.proofs.LastOffset.{behind_taken, every_reverse, tail_found}
use Rattle.tables.proofs.Finds.{some_none}
use Rattle.rules.specs.Whole.{Headed, Ending, lf, cr, crlf, ending, Spelt, Tail, EndsWithTail}

version_shape : (file rest : Bytes) → file ≡ codes "%PDF-1." ++ rest → version_fits rest ≡ true → Headed file
unfolding version_fits
version_shape file [] e h = never_true h
version_shape file (d ∷ ds) e h =
    let w = and_parts (leb 48 d) (leb d 55) h in
    record { digit = d; low = leb-true 48 d w.0; high = leb-true d 55 w.1; rest = ds; is = e }

-- a header that fits
pub headed : (file : Bytes) → header_fits file ≡ true → Headed file
unfolding header_fits
headed file h =
    cases_o (behind (codes "%PDF-1.") file)
    (λ e. never_true (rw (e, header_fits) at h))
    (λ rest e. version_shape file rest (behind_parts (codes "%PDF-1.") file rest e) (rw (e, header_fits) at h))

pub header_fits_fact : (file : Bytes) → Headed file → header_fits file ≡ true
unfolding header_fits version_fits
header_fits_fact file h =
    let e : behind (codes "%PDF-1.") file ≡ Some (h.digit ∷ h.rest) = ap (behind (codes "%PDF-1.")) h.is ∙ behind_taken (codes "%PDF-1.") (h.digit ∷ h.rest) in
    rw (e, header_fits) (and_from (leb 48 h.digit) (leb h.digit 55) (le-leb 48 h.digit h.low) (le-leb h.digit 55 h.high))

-- an end of line, by the name that the lemmas on readers have for it
unfoldable pub end_of : Ending → theirs.End
end_of lf = theirs.lf
end_of cr = theirs.cr
end_of crlf = theirs.crlf

pub end_bytes_fact : (e : Ending) → theirs.end_bytes (end_of e) ≡ ending e
unfolding end_of
end_bytes_fact lf = refl
end_bytes_fact cr = refl
end_bytes_fact crlf = refl

pub spells_of : (n : ℕ) (ds : Bytes) → Spelt n ds → Spells n ds
spells_of n ds s = record { digit = s.digits; val = s.spells; some = s.some; few = s.few }

pub spelt_of : (n : ℕ) (ds : Bytes) → Spells n ds → Spelt n ds
spelt_of n ds s = record { some = s.some; few = s.few; digits = s.digit; spells = s.val }

-- the tail at the end of a file is found
pub tail_there : (file : Bytes) (n : ℕ) → EndsWithTail file n → last_offset file ≡ Some n
tail_there file n t =
    let w : Tail n t.last = t.tail in
    let a = end_bytes_fact w.word in
    let b = end_bytes_fact w.number in
    let c = end_bytes_fact w.mark in
    ap last_offset
    (t.is
    ∙ ap (λ zs. t.front ++ zs)
    (w.is
    ∙ ap (λ zs. codes "startxref" ++ (ending w.word ++ (w.digits ++ (ending w.number ++ (codes "%%EOF" ++ zs))))) (sym (append-nil (ending w.mark)))
    ∙ (λ i. codes "startxref" ++ (sym a i ++ (w.digits ++ (sym b i ++ (codes "%%EOF" ++ (sym c i ++ []))))))))
    ∙ tail_found t.front n (end_of w.word) w.digits (end_of w.number) (end_of w.mark) (spells_of n w.digits w.spelt)

on_some : {A B P : Type 0} (o : Option A) (k : A → Option B) {b : B} → on o k ≡ Some b → ((a : A) → o ≡ Some a → k a ≡ Some b → P) → P
on_some None k e f = some_none (sym e)
on_some (Some a) k e f = f a refl e

-- an end of line, read backwards
abbrev Backed : Bytes → Bytes → Type 0
Backed xs ys = (e : Ending) × (xs ≡ reverse (ending e) ++ ys)

back_eol_fact : (xs ys : Bytes) → back_eol xs ≡ Some ys → Backed xs ys
unfolding back_eol
back_eol_fact [] ys h = some_none (sym h)
back_eol_fact (x ∷ xs) ys h =
    cases (eqb x 10)
    (λ a. behind_lf xs (eqb-true x 10 a) (rw (a, back_eol) at h))
    (λ a.
    cases (eqb x 13)
    (λ b.
    let f : ◌≡◌ {A = Option Bytes} (Some xs) (Some ys) = rw (a, b, back_eol) at h in
    let u : xs ≡ ys = cc in
    let v : x ≡ 13 = eqb-true x 13 b in
    (cr, λ i. v i ∷ u i))
    (λ b. some_none (sym (rw (a, b, back_eol) at h))))
  where
    behind_lf : (zs : Bytes) → x ≡ 10 → ◌≡◌ {A = Option Bytes} (elim zs [ [] ↦ Some [] | y ∷ ws ↦ elim (eqb y 13) [ true ↦ Some ws | false ↦ Some (y ∷ ws) ] ]) (Some ys) → Backed (x ∷ zs) ys
    behind_lf [] v f = let u : ◌≡◌ {A = Bytes} [] ys = cc in (lf, λ i. v i ∷ u i)
    behind_lf (y ∷ ws) v f =
        cases (eqb y 13)
        (λ b.
        let g : ◌≡◌ {A = Option Bytes} (Some ws) (Some ys) = rw b at f in
        let u : ws ≡ ys = cc in
        let w : y ≡ 13 = eqb-true y 13 b in
        (crlf, λ i. v i ∷ w i ∷ u i))
        (λ b.
        let g : ◌≡◌ {A = Option Bytes} (Some (y ∷ ws)) (Some ys) = rw b at f in
        let u : y ∷ ws ≡ ys = cc in
        (lf, λ i. v i ∷ u i))

span_digits_pass : (p : ℕ) (xs : Bytes) → every is_digit (span is_digit p xs).0 ≡ true
unfolding span every
span_digits_pass p [] = refl
span_digits_pass p (x ∷ xs) = cases (is_digit x) (λ e. rw (e, span) (rw (e, every) (span_digits_pass (suc p) xs))) (λ e. rw (e, span) refl)

-- digits, read backwards
back_digits_fact : (xs : Bytes) (n : ℕ) (ys : Bytes) → back_digits (span is_digit 0 xs) ≡ Some (n, ys) → (ds : Bytes) × (xs ≡ reverse ds ++ ys) × Spelt n ds
unfolding back_digits
back_digits_fact xs n ys h =
    let r : Bytes × ℕ × Bytes = span is_digit 0 xs in
    cases (leb 1 r.1 && leb r.1 10)
    (λ a.
    let w = and_parts (leb 1 r.1) (leb r.1 10) a in
    let some = leb-true 1 r.1 w.0 in
    let few = leb-true r.1 10 w.1 in
    let to : r.1 ≡ 0 + length r.0 = span_to is_digit 0 xs in
    let long = length-reverse r.0 in
    let f : ◌≡◌ {A = Option (ℕ × Bytes)} (Some (value (reverse r.0), r.2)) (Some (n, ys)) = rw (a, back_digits) at h in
    let g : ◌≡◌ {A = ℕ × Bytes} (value (reverse r.0), r.2) (n, ys) = cc in (
      reverse r.0,
      span_parts is_digit 0 xs ∙ (λ i. sym (reverse-reverse r.0) i ++ (g i).1),
      record { some = omega arith; few = omega arith; digits = every_reverse is_digit r.0 (span_digits_pass 0 xs); spells = ap (λ (z : ℕ × Bytes). z.0) g },
    ))
    (λ a. some_none (sym (rw (a, back_digits) at h)))

forwards : (a b c d e f x : Bytes) → reverse (a ++ (b ++ (c ++ (d ++ (e ++ (f ++ x)))))) ≡ reverse x ++ (reverse f ++ (reverse e ++ (reverse d ++ (reverse c ++ (reverse b ++ reverse a)))))
forwards a b c d e f x = simp (reverse-append, append_assoc)

-- what is found from the end of a file is its tail
pub tail_found_is : (file : Bytes) (n : ℕ) → last_offset file ≡ Some n → EndsWithTail file n
unfolding last_offset
tail_found_is file n h =
    on_some (back_eol (reverse file)) (λ a. found₁ a) h
    (λ a e₁ h₁.
    on_some (behind (codes "FOE%%") a) (λ b. found₂ b) h₁
    (λ b e₂ h₂.
    on_some (back_eol b) (λ c. found₃ c) h₂
    (λ c e₃ h₃.
    on_some (back_digits (span is_digit 0 c)) (λ d. found₄ d) h₃
    (λ d e₄ h₄.
    on_some (back_eol d.1) (λ e. found₅ d e) h₄
    (λ e e₅ h₅.
    on_some (behind (codes "ferxtrats") e) (λ _. Some d.0) h₅
    (λ z e₆ h₆.
    let q : d.0 ≡ n = cc in
    shape (back_eol_fact (reverse file) a e₁) (behind_parts (codes "FOE%%") a b e₂) (back_eol_fact b c e₃) (back_digits_fact c d.0 d.1 e₄) q (back_eol_fact d.1 e e₅) (behind_parts (codes "ferxtrats") e z e₆)))))))
  where
    found₅ : ℕ × Bytes → Bytes → Option ℕ
    found₅ d e = on (behind (codes "ferxtrats") e) (λ _. Some d.0)

    found₄ : ℕ × Bytes → Option ℕ
    found₄ d = on (back_eol d.1) (λ e. found₅ d e)

    found₃ : Bytes → Option ℕ
    found₃ c = on (back_digits (span is_digit 0 c)) (λ d. found₄ d)

    found₂ : Bytes → Option ℕ
    found₂ b = on (back_eol b) (λ c. found₃ c)

    found₁ : Bytes → Option ℕ
    found₁ a = on (behind (codes "FOE%%") a) (λ b. found₂ b)

    shape : {a b c e z ys : Bytes} {m : ℕ} → Backed (reverse file) a → a ≡ codes "FOE%%" ++ b → Backed b c → (ds : Bytes) × (c ≡ reverse ds ++ ys) × Spelt m ds → m ≡ n →
        Backed ys e → e ≡ codes "ferxtrats" ++ z → EndsWithTail file n
    shape {z = z} (ma, u₁) u₂ (nu, u₃) (ds, u₄, s) q (wo, u₅) u₆ =
        let back : reverse file ≡ reverse (ending ma) ++ (codes "FOE%%" ++ (reverse (ending nu) ++ (reverse ds ++ (reverse (ending wo) ++ (codes "ferxtrats" ++ z))))) =
        u₁ ∙ ap (λ y. reverse (ending ma) ++ y) (u₂ ∙ ap (λ y. codes "FOE%%" ++ y) (u₃ ∙ ap (λ y. reverse (ending nu) ++ y) (u₄ ∙ ap (λ y. reverse ds ++ y) (u₅ ∙ ap (λ y. reverse (ending wo) ++ y) u₆)))) in
        record {
          front = reverse z;
          last = codes "startxref" ++ (ending wo ++ (ds ++ (ending nu ++ (codes "%%EOF" ++ ending ma))));
          is =
              sym (reverse-reverse file)
              ∙ (ap reverse back
              ∙ (forwards (reverse (ending ma)) (codes "FOE%%") (reverse (ending nu)) (reverse ds) (reverse (ending wo)) (codes "ferxtrats") z
              ∙ (λ i. reverse z ++ (codes "startxref" ++ (reverse-reverse (ending wo) i ++ (reverse-reverse ds i ++ (reverse-reverse (ending nu) i ++ (codes "%%EOF" ++ reverse-reverse (ending ma) i))))))));
          tail = record { digits = ds; spelt = rw (sym q) s; word = wo; number = nu; mark = ma; is = refl };
        }
