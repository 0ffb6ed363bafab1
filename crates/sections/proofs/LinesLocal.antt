-- The lines and entries of a section: what was taken decides what is answered.
use Rattle.std.proofs.Common.{◌≡◌, ℕ, zero, suc, ◌+◌, ◌-◌, ◌*◌, ◌≤◌, Bool, true, false, ◌||◌, eqb, leb, [], ◌∷◌, ◌++◌, length, sym, refl, ap, ◌∙◌, append_assoc, arith, length-append}
use Rattle.std.proofs.lemmas.Bool.{eqb-true, leb-true}
use Rattle.format.specs.Bytes.{Bytes, is_digit, every, span, value}
use Rattle.format.specs.Space.{eol_at, after_cr}
use Rattle.format.specs.Lines.{Piece, took, misfit, next, exact, eol_piece, eol, exact_line, is_empty, counted, digits, digits_of, Slot, use_mark, slot_ends, slot_end, slot, sub_line, number_line}
use Rattle.format.specs.Sections.{begins_digit}
use Rattle.sections.specs.Reading.{begins_lf, NoLf, Any, Local}
use Rattle.sections.proofs.Tests.{clash}
use Rattle.sections.proofs.Digits.{took_at, Spells, spelt_begin, digits_taken}
use Rattle.sections.proofs.Ends.{End, lf, cr, crlf, end_bytes, Closes, closes, eol_taken, end_begins, exact_taken, exact_line_taken, number_line_taken, digit_not_lf}
use Rattle.sections.proofs.Local.{cons, took_done, not_short, not_misfit, next_took, next_local}
use Rattle.locality.proofs.Cases.{cases}

-- no digit stands first
abbrev pub NoDigit : Bytes → Type 0
NoDigit ys = begins_digit ys ≡ false

-- a word that was taken stands there
pub exact_shape : (w : Bytes) (p : ℕ) (xs : Bytes) {u : Unit {0}} {q : ℕ} {rest : Bytes} → exact w p xs ≡ took u q rest → (xs ≡ w ++ rest) × (q ≡ p + length w)
unfolding exact
exact_shape [] p xs {q = q} e = (cc, let v : p ≡ q = cc in omega arith)
exact_shape (x ∷ w) p [] e = not_short e
exact_shape (x ∷ w) p (y ∷ ys) e =
    cases (eqb x y)
    (λ b. let r = exact_shape w (suc p) ys (rw (b, exact) at e) in let v : x ≡ y = eqb-true x y b in (cc r.0, omega (arith, r.1)))
    (λ b. not_misfit (rw (b, exact) at e))

-- a word: whatever follows
pub exact_local : (w : Bytes) (p : ℕ) (xs : Bytes) (u : Unit {0}) (q : ℕ) (rest : Bytes) → exact w p xs ≡ took u q rest → Local (exact w p) (took u q) Any p q xs rest
exact_local w p xs u q rest e =
    let s = exact_shape w p xs e in
    record { pre = w; parts = s.0; to = s.1; again = λ ys h. exact_taken w p ys ∙ took_at (sym s.1) }

-- an end of line that was taken
pub record EndShape (p : ℕ) (xs : Bytes) (q : ℕ) (rest : Bytes) : Type 0 where
  pub end : End
  pub closed : Closes end rest
  pub parts : xs ≡ end_bytes end ++ rest
  pub to : q ≡ p + length (end_bytes end)

-- an end of line that was taken is one of the three
pub eol_shape : (p : ℕ) (xs : Bytes) {u : Unit {0}} {q : ℕ} {rest : Bytes} → eol p xs ≡ took u q rest → EndShape p xs q rest
unfolding eol eol_piece eol_at after_cr begins_lf
eol_shape p [] e = not_short e
eol_shape p (x ∷ xs) {u} {q} {rest} e =
    cases (eqb x 10)
    (λ a.
    let f : ◌≡◌ {A = Piece Unit} (took tt (suc p) xs) (took u q rest) = rw (a, eol_at) at e in
    let x10 : x ≡ 10 = eqb-true x 10 a in
    let v : suc p ≡ q = cc in
    record { end = lf; closed = tt; parts = cc; to = omega arith })
    (λ a.
    cases (eqb x 13)
    (λ b. behind_cr xs (eqb-true x 13 b) (rw (a, b, eol_at) at e))
    (λ b. not_misfit (rw (a, b, eol_at) at e)))
  where
    behind_cr : (ys : Bytes) → x ≡ 13 → eol_piece (after_cr (suc p) ys) ≡ took u q rest → EndShape p (x ∷ ys) q rest
    behind_cr [] x13 f =
        let v : suc p ≡ q = cc in
        let w : ◌≡◌ {A = Bytes} [] rest = cc in
        record { end = cr; closed = ap begins_lf (sym w); parts = cc; to = omega arith }
    behind_cr (y ∷ ys) x13 f =
        cases (eqb y 10)
        (λ c.
        let g : ◌≡◌ {A = Piece Unit} (took tt (suc (suc p)) ys) (took u q rest) = rw (c, after_cr) at f in
        let y10 : y ≡ 10 = eqb-true y 10 c in
        let v : suc (suc p) ≡ q = cc in
        record { end = crlf; closed = tt; parts = cc; to = omega arith })
        (λ c.
        let g : ◌≡◌ {A = Piece Unit} (took tt (suc p) (y ∷ ys)) (took u q rest) = rw (c, after_cr) at f in
        let v : suc p ≡ q = cc in
        let w : y ∷ ys ≡ rest = cc in
        record { end = cr; closed = ap begins_lf (sym w) ∙ c; parts = cc; to = omega arith })

-- an end of line: no LF follows
pub eol_local : (p : ℕ) (xs : Bytes) (u : Unit {0}) (q : ℕ) (rest : Bytes) → eol p xs ≡ took u q rest → Local (eol p) (took u q) NoLf p q xs rest
eol_local p xs u q rest e =
    let s = eol_shape p xs e in
    record {
      pre = end_bytes s.end;
      parts = s.parts;
      to = s.to;
      again = λ ys h. eol_taken s.end p ys (closes s.end ys h) ∙ took_at (sym s.to);
    }

-- an end of line is no digit
pub eol_follows : (p : ℕ) (xs : Bytes) {u : Unit {0}} {q : ℕ} {rest : Bytes} → eol p xs ≡ took u q rest → NoDigit xs
eol_follows p xs {rest = rest} e = let s = eol_shape p xs e in rw s.parts (end_begins s.end rest)

span_parts : (f : ℕ → Bool) (p : ℕ) (xs : Bytes) → xs ≡ (span f p xs).0 ++ (span f p xs).2
unfolding span
span_parts f p [] = refl
span_parts f p (x ∷ xs) =
    cases (f x) (λ e. rw (e, span) (ap {B = Bytes} (λ ys. x ∷ ys) (span_parts f (suc p) xs))) (λ e. rw (e, span) refl)

span_to : (f : ℕ → Bool) (p : ℕ) (xs : Bytes) → (span f p xs).1 ≡ p + length (span f p xs).0
unfolding span
span_to f p [] = omega arith
span_to f p (x ∷ xs) = cases (f x) (λ e. rw (e, span) (span_to f (suc p) xs ∙ omega arith)) (λ e. rw (e, span) (omega arith))

span_passes : (f : ℕ → Bool) (p : ℕ) (xs : Bytes) → every f (span f p xs).0 ≡ true
unfolding span every
span_passes f p [] = refl
span_passes f p (x ∷ xs) = cases (f x) (λ e. rw (e, span) (rw (e, every) (span_passes f (suc p) xs))) (λ e. rw (e, span) refl)

not_empty_some : (ds : Bytes) → is_empty ds ≡ false → 1 ≤ length ds
unfolding is_empty
not_empty_some [] e = clash refl e
not_empty_some (d ∷ ds) e = omega arith

counted_shape : (r : Bytes × ℕ × Bytes) {n q : ℕ} {rest : Bytes} → counted r ≡ took n q rest → every is_digit r.0 ≡ true →
    Spells n r.0 × (r.1 ≡ q) × (r.2 ≡ rest)
unfolding counted
counted_shape r {n} {q} {rest} e d =
    cases (leb (length r.0) 10)
    (λ a.
    cases (is_empty r.0)
    (λ b. cases (is_empty r.2) (λ c. not_short (rw (a, b, c, counted) at e)) (λ c. not_misfit (rw (a, b, c, counted) at e)))
    (λ b.
    let f : took (value r.0) r.1 r.2 ≡ took n q rest = rw (a, b, counted) at e in
    (record { digit = d; val = cc; some = not_empty_some r.0 b; few = leb-true (length r.0) 10 a }, cc, cc)))
    (λ a. not_misfit (rw (a, counted) at e))

-- digits that were taken
pub record DigitShape (p : ℕ) (xs : Bytes) (n q : ℕ) (rest : Bytes) : Type 0 where
  pub ds : Bytes
  pub spells : Spells n ds
  pub parts : xs ≡ ds ++ rest
  pub to : q ≡ p + length ds

-- one to ten digits that were taken spell the number
pub digits_shape : (p : ℕ) (xs : Bytes) {n q : ℕ} {rest : Bytes} → digits p xs ≡ took n q rest → DigitShape p xs n q rest
unfolding digits
digits_shape p xs {n} {q} {rest} e =
    let c = counted_shape (span is_digit p xs) e (span_passes is_digit p xs) in
    let a = span_parts is_digit p xs in
    let b = span_to is_digit p xs in
    let c₁ = c.1 in
    let c₂ = c.2 in
    record { ds = (span is_digit p xs).0; spells = c.0; parts = cc; to = cc }

-- one to ten digits: no digit follows
pub digits_local : (p : ℕ) (xs : Bytes) (n q : ℕ) (rest : Bytes) → digits p xs ≡ took n q rest → Local (digits p) (took n q) NoDigit p q xs rest
digits_local p xs n q rest e =
    let s = digits_shape p xs e in
    record {
      pre = s.ds;
      parts = s.parts;
      to = s.to;
      again = λ ys h. digits_taken p n s.ds ys s.spells h ∙ took_at (sym s.to);
    }

-- digits begin with one
pub digits_begin : (p : ℕ) (xs : Bytes) {n q : ℕ} {rest : Bytes} → digits p xs ≡ took n q rest → begins_digit xs ≡ true
digits_begin p xs {n} {rest = rest} e = let s = digits_shape p xs e in rw s.parts (spelt_begin n s.ds rest s.spells)

-- exactly k digits: whatever follows
pub digits_of_local : (k n p : ℕ) (xs : Bytes) (v q : ℕ) (rest : Bytes) → digits_of k n p xs ≡ took v q rest → Local (digits_of k n p) (took v q) Any p q xs rest
unfolding digits_of
digits_of_local zero n p xs v q rest e = took_done Any e
digits_of_local (suc k) n p [] v q rest e = not_short e
digits_of_local (suc k) n p (x ∷ xs) v q rest e =
    cases (is_digit x)
    (λ b. cons x (λ ys. rw (b, digits_of) refl) (digits_of_local k (n * 10 + (x - 48)) (suc p) xs v q rest (rw (b, digits_of) at e)))
    (λ b. not_misfit (rw (b, digits_of) at e))

-- some digits begin with one
pub digits_of_begin : (k n p : ℕ) (xs : Bytes) {v q : ℕ} {rest : Bytes} → digits_of (suc k) n p xs ≡ took v q rest → begins_digit xs ≡ true
unfolding digits_of begins_digit
digits_of_begin k n p [] e = not_short e
digits_of_begin k n p (x ∷ xs) e = cases (is_digit x) (λ b. b) (λ b. not_misfit (rw (b, digits_of) at e))

use_mark_local : (p : ℕ) (xs : Bytes) (u : Bool) (q : ℕ) (rest : Bytes) → use_mark p xs ≡ took u q rest → Local (use_mark p) (took u q) Any p q xs rest
unfolding use_mark
use_mark_local p [] u q rest e = not_short e
use_mark_local p (x ∷ xs) u q rest e =
    cases (eqb x 110)
    (λ a. cons x (λ ys. rw (a, use_mark) refl) (took_done Any (rw (a, use_mark) at e)))
    (λ a.
    cases (eqb x 102)
    (λ b. cons x (λ ys. rw (a, b, use_mark) refl) (took_done Any (rw (a, b, use_mark) at e)))
    (λ b. not_misfit (rw (a, b, use_mark) at e)))

slot_end_local : (p : ℕ) (xs : Bytes) (u : Unit {0}) (q : ℕ) (rest : Bytes) → slot_end p xs ≡ took u q rest → Local (slot_end p) (took u q) Any p q xs rest
unfolding slot_end
slot_end_local p [] u q rest e = not_short e
slot_end_local p (x ∷ []) u q rest e =
    cases (eqb x 32 || eqb x 13) (λ a. not_short (rw (a, slot_end) at e)) (λ a. not_misfit (rw (a, slot_end) at e))
slot_end_local p (x ∷ y ∷ ys) u q rest e =
    cases (slot_ends x y)
    (λ a.
    cons {r = slot_end p} {s = λ zs. slot_end p (x ∷ zs)} x (λ zs. refl)
    (cons {r = λ zs. slot_end p (x ∷ zs)} {s = took tt (suc (suc p))} y (λ zs. rw (a, slot_end) refl) (took_done Any (rw (a, slot_end) at e))))
    (λ a. not_misfit (rw (a, slot_end) at e))

-- the parts of an entry
abbrev slot₅ : ℕ → ℕ → Bool → ℕ → Bytes → Piece Slot
slot₅ f g u p xs = next (slot_end p xs) (λ _ q ys. took (record { in_use = u; field = f; gen = g }) q ys)

abbrev slot₄ : ℕ → ℕ → ℕ → Bytes → Piece Slot
slot₄ f g p xs = next (use_mark p xs) (λ u q ys. slot₅ f g u q ys)

abbrev slot₃ : ℕ → ℕ → ℕ → Bytes → Piece Slot
slot₃ f g p xs = next (exact (32 ∷ []) p xs) (λ _ q ys. slot₄ f g q ys)

abbrev slot₂ : ℕ → ℕ → Bytes → Piece Slot
slot₂ f p xs = next (digits_of 5 0 p xs) (λ g q ys. slot₃ f g q ys)

abbrev slot₁ : ℕ → ℕ → Bytes → Piece Slot
slot₁ f p xs = next (exact (32 ∷ []) p xs) (λ _ q ys. slot₂ f q ys)

module _ (s : Slot) (q : ℕ) (rest : Bytes) where
  slot₅_local : (f g : ℕ) (u : Bool) (p : ℕ) (xs : Bytes) → slot₅ f g u p xs ≡ took s q rest → Local (slot₅ f g u p) (took s q) Any p q xs rest
  slot₅_local f g u p xs e =
      next_local (slot_end p) (λ _ r ys. took (record { in_use = u; field = f; gen = g }) r ys) Any e
      (λ a p₁ xs₁. slot_end_local p xs a p₁ xs₁) (λ a p₁ xs₁ e₁. took_done Any e₁) (λ _ _ _ _ _ _. tt)

  slot₄_local : (f g p : ℕ) (xs : Bytes) → slot₄ f g p xs ≡ took s q rest → Local (slot₄ f g p) (took s q) Any p q xs rest
  slot₄_local f g p xs e =
      next_local (use_mark p) (λ u r ys. slot₅ f g u r ys) Any e
      (λ a p₁ xs₁. use_mark_local p xs a p₁ xs₁) (λ u p₁ xs₁. slot₅_local f g u p₁ xs₁) (λ _ _ _ _ _ _. tt)

  slot₃_local : (f g p : ℕ) (xs : Bytes) → slot₃ f g p xs ≡ took s q rest → Local (slot₃ f g p) (took s q) Any p q xs rest
  slot₃_local f g p xs e =
      next_local (exact (32 ∷ []) p) (λ _ r ys. slot₄ f g r ys) Any e
      (λ a p₁ xs₁. exact_local (32 ∷ []) p xs a p₁ xs₁) (λ _ p₁ xs₁. slot₄_local f g p₁ xs₁) (λ _ _ _ _ _ _. tt)

  slot₂_local : (f p : ℕ) (xs : Bytes) → slot₂ f p xs ≡ took s q rest → Local (slot₂ f p) (took s q) Any p q xs rest
  slot₂_local f p xs e =
      next_local (digits_of 5 0 p) (λ g r ys. slot₃ f g r ys) Any e
      (λ a p₁ xs₁. digits_of_local 5 0 p xs a p₁ xs₁) (λ g p₁ xs₁. slot₃_local f g p₁ xs₁) (λ _ _ _ _ _ _. tt)

  slot₁_local : (f p : ℕ) (xs : Bytes) → slot₁ f p xs ≡ took s q rest → Local (slot₁ f p) (took s q) Any p q xs rest
  slot₁_local f p xs e =
      next_local (exact (32 ∷ []) p) (λ _ r ys. slot₂ f r ys) Any e
      (λ a p₁ xs₁. exact_local (32 ∷ []) p xs a p₁ xs₁) (λ _ p₁ xs₁. slot₂_local f p₁ xs₁) (λ _ _ _ _ _ _. tt)

-- an entry: whatever follows
pub slot_local : (p : ℕ) (xs : Bytes) (s : Slot) (q : ℕ) (rest : Bytes) → slot p xs ≡ took s q rest → Local (slot p) (took s q) Any p q xs rest
unfolding slot
slot_local p xs s q rest e =
    next_local (digits_of 10 0 p) (λ f r ys. slot₁ f r ys) Any e
    (λ a p₁ xs₁. digits_of_local 10 0 p xs a p₁ xs₁) (λ f p₁ xs₁. slot₁_local s q rest f p₁ xs₁) (λ _ _ _ _ _ _. tt)

-- an entry begins with a digit
pub slot_begin : (p : ℕ) (xs : Bytes) {s : Slot} {q : ℕ} {rest : Bytes} → slot p xs ≡ took s q rest → begins_digit xs ≡ true
unfolding slot
slot_begin p xs e = next_took (digits_of 10 0 p xs) (λ f r ys. slot₁ f r ys) e (λ a p₁ ys e₁ e₂. digits_of_begin 9 0 p xs e₁)

-- bytes that begin with a digit do not begin with LF
pub digit_no_lf : (xs : Bytes) → begins_digit xs ≡ true → NoLf xs
unfolding begins_digit begins_lf
digit_no_lf [] e = refl
digit_no_lf (x ∷ xs) e = digit_not_lf x e

space_follows : (p : ℕ) (xs : Bytes) {u : Unit {0}} {q : ℕ} {rest : Bytes} → exact (32 ∷ []) p xs ≡ took u q rest → NoDigit xs
unfolding begins_digit is_digit
space_follows p xs e = rw (exact_shape (32 ∷ []) p xs e).0 refl

took_rest : {A : Type 0} {a b : A} {p q : ℕ} {xs ys : Bytes} → ◌≡◌ {A = Piece A} (took a p xs) (took b q ys) → xs ≡ ys
took_rest e = cc

-- the parts of a subsection's line
abbrev sub_line₃ : ℕ → ℕ → ℕ → Bytes → Piece (ℕ × ℕ)
sub_line₃ n c p xs = next (eol p xs) (λ _ q ys. took (n, c) q ys)

abbrev sub_line₂ : ℕ → ℕ → Bytes → Piece (ℕ × ℕ)
sub_line₂ n p xs = next (digits p xs) (λ c q ys. sub_line₃ n c q ys)

abbrev sub_line₁ : ℕ → ℕ → Bytes → Piece (ℕ × ℕ)
sub_line₁ n p xs = next (exact (32 ∷ []) p xs) (λ _ q ys. sub_line₂ n q ys)

module _ (h : ℕ × ℕ) (q : ℕ) (rest : Bytes) where
  sub_line₃_local : (n c p : ℕ) (xs : Bytes) → sub_line₃ n c p xs ≡ took h q rest → Local (sub_line₃ n c p) (took h q) NoLf p q xs rest
  sub_line₃_local n c p xs e =
      next_local (eol p) (λ _ r ys. took (n, c) r ys) NoLf e
      (λ a p₁ xs₁. eol_local p xs a p₁ xs₁) (λ _ p₁ xs₁ e₁. took_done NoLf e₁) (λ _ _ zs ws f k. rw (took_rest f) k)

  sub_line₂_local : (n p : ℕ) (xs : Bytes) → sub_line₂ n p xs ≡ took h q rest → Local (sub_line₂ n p) (took h q) NoLf p q xs rest
  sub_line₂_local n p xs e =
      next_local (digits p) (λ c r ys. sub_line₃ n c r ys) NoDigit e
      (λ a p₁ xs₁. digits_local p xs a p₁ xs₁) (λ c p₁ xs₁. sub_line₃_local n c p₁ xs₁)
      (λ c p₁ zs ws f k. next_took (eol p₁ zs) (λ _ r ys. took (n, c) r ys) f (λ a p₂ ys e₁ e₂. eol_follows p₁ zs e₁))

  sub_line₁_local : (n p : ℕ) (xs : Bytes) → sub_line₁ n p xs ≡ took h q rest → Local (sub_line₁ n p) (took h q) NoLf p q xs rest
  sub_line₁_local n p xs e =
      next_local (exact (32 ∷ []) p) (λ _ r ys. sub_line₂ n r ys) Any e
      (λ a p₁ xs₁. exact_local (32 ∷ []) p xs a p₁ xs₁) (λ _ p₁ xs₁. sub_line₂_local n p₁ xs₁) (λ _ _ _ _ _ _. tt)

-- a subsection's line: no LF follows
pub sub_line_local : (p : ℕ) (xs : Bytes) (h : ℕ × ℕ) (q : ℕ) (rest : Bytes) → sub_line p xs ≡ took h q rest → Local (sub_line p) (took h q) NoLf p q xs rest
unfolding sub_line
sub_line_local p xs h q rest e =
    next_local (digits p) (λ n r ys. sub_line₁ n r ys) NoDigit e
    (λ a p₁ xs₁. digits_local p xs a p₁ xs₁) (λ n p₁ xs₁. sub_line₁_local h q rest n p₁ xs₁)
    (λ n p₁ zs ws f k. next_took (exact (32 ∷ []) p₁ zs) (λ _ r ys. sub_line₂ n r ys) f (λ a p₂ ys e₁ e₂. space_follows p₁ zs e₁))

-- a subsection's line begins with a digit
pub sub_line_begin : (p : ℕ) (xs : Bytes) {h : ℕ × ℕ} {q : ℕ} {rest : Bytes} → sub_line p xs ≡ took h q rest → begins_digit xs ≡ true
unfolding sub_line
sub_line_begin p xs e = next_took (digits p xs) (λ n r ys. sub_line₁ n r ys) e (λ a p₁ ys e₁ e₂. digits_begin p xs e₁)

-- a line of just a word that was taken
pub record LineShape (w : Bytes) (p : ℕ) (xs : Bytes) (q : ℕ) (rest : Bytes) : Type 0 where
  pub end : End
  pub parts : xs ≡ w ++ (end_bytes end ++ rest)
  pub closed : Closes end rest
  pub to : q ≡ p + (length w + length (end_bytes end))

-- a line of just a word that was taken stands there
pub exact_line_shape : (w : Bytes) (p : ℕ) (xs : Bytes) {u : Unit {0}} {q : ℕ} {rest : Bytes} → exact_line w p xs ≡ took u q rest → LineShape w p xs q rest
unfolding exact_line
exact_line_shape w p xs {q = q} {rest} e =
    next_took (exact w p xs) (λ _ r ys. eol r ys) e
    (λ a p₁ ys e₁ e₂.
    let s = exact_shape w p xs e₁ in
    let t = eol_shape p₁ ys e₂ in
    let s₁ = s.1 in
    let t₁ = t.to in
    record { end = t.end; closed = t.closed; parts = s.0 ∙ ap (λ zs. w ++ zs) t.parts; to = omega arith })

-- a line of just a word: no LF follows
pub exact_line_local : (w : Bytes) (p : ℕ) (xs : Bytes) (u : Unit {0}) (q : ℕ) (rest : Bytes) → exact_line w p xs ≡ took u q rest → Local (exact_line w p) (took u q) NoLf p q xs rest
exact_line_local w p xs u q rest e =
    let s = exact_line_shape w p xs e in
    record {
      pre = w ++ end_bytes s.end;
      parts = s.parts ∙ sym (append_assoc w (end_bytes s.end) rest);
      to = s.to ∙ ap (λ m. p + m) (sym (length-append w (end_bytes s.end)));
      again = λ ys h.
          ap (λ zs. exact_line w p zs) (append_assoc w (end_bytes s.end) ys)
          ∙ (exact_line_taken w s.end p ys (closes s.end ys h) ∙ took_at (sym s.to));
    }

same_number : {A : Type 0} {a b : A} {p q : ℕ} {xs rest : Bytes} (t : Bool) → ◌≡◌ {A = Piece A} (elim t [ true ↦ took a p xs | false ↦ misfit ]) (took b q rest) →
    (t ≡ true) × ◌≡◌ {A = Piece A} (took a p xs) (took b q rest)
same_number true e = (refl, e)
same_number false e = not_misfit e

-- a number's line that was taken
pub record NumberShape (n p : ℕ) (xs : Bytes) (q : ℕ) (rest : Bytes) : Type 0 where
  pub ds : Bytes
  pub spells : Spells n ds
  pub end : End
  pub parts : xs ≡ ds ++ (end_bytes end ++ rest)
  pub to : q ≡ p + (length ds + length (end_bytes end))

-- a number's line that was taken has digits that spell the number
pub number_line_shape : (n p : ℕ) (xs : Bytes) {u : Unit {0}} {q : ℕ} {rest : Bytes} → number_line n p xs ≡ took u q rest → NumberShape n p xs q rest
unfolding number_line
number_line_shape n p xs {u} {q} {rest} e =
    next_took (digits p xs) numbered₁ e
    (λ m p₁ xs₁ e₁ e₂.
    next_took (eol p₁ xs₁) (numbered₂ m) e₂
    (λ a p₂ xs₂ e₃ e₄.
    let g = same_number (eqb m n) e₄ in
    let f : ◌≡◌ {A = Piece Unit} (took tt p₂ xs₂) (took u q rest) = g.1 in
    let v : p₂ ≡ q = cc in
    let m≡n : m ≡ n = eqb-true m n g.0 in
    let w : xs₂ ≡ rest = cc in
    let s = digits_shape p xs e₁ in
    let t = eol_shape p₁ xs₁ e₃ in
    let s₁ = s.to in
    let t₁ = t.to in
    record {
      ds = s.ds;
      spells = rw (sym m≡n) s.spells;
      end = t.end;
      parts = s.parts ∙ (ap (λ zs. s.ds ++ zs) t.parts ∙ ap (λ zs. s.ds ++ (end_bytes t.end ++ zs)) w);
      to = omega arith;
    }))
  where
    numbered₂ : ℕ → Unit {0} → ℕ → Bytes → Piece Unit
    numbered₂ m _ p₂ xs₂ = elim (eqb m n) [ true ↦ took tt p₂ xs₂ | false ↦ misfit ]

    numbered₁ : ℕ → ℕ → Bytes → Piece Unit
    numbered₁ m p₁ xs₁ = next (eol p₁ xs₁) (numbered₂ m)

-- a number's line: no LF follows
pub number_line_local : (n p : ℕ) (xs : Bytes) (u : Unit {0}) (q : ℕ) (rest : Bytes) → number_line n p xs ≡ took u q rest → Local (number_line n p) (took u q) NoLf p q xs rest
number_line_local n p xs u q rest e =
    let s = number_line_shape n p xs e in
    record {
      pre = s.ds ++ end_bytes s.end;
      parts = s.parts ∙ sym (append_assoc s.ds (end_bytes s.end) rest);
      to = s.to ∙ ap (λ m. p + m) (sym (length-append s.ds (end_bytes s.end)));
      again = λ ys h.
          ap (λ zs. number_line n p zs) (append_assoc s.ds (end_bytes s.end) ys)
          ∙ (number_line_taken n s.ds s.end p ys s.spells (closes s.end ys h) ∙ took_at (sym s.to));
    }
