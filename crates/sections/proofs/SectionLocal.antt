-- A section: what was taken decides what is answered, and its tail is found from the end.
use Rattle.std.proofs.Common.{◌≡◌, ℕ, zero, suc, ◌+◌, ◌≤◌, Bool, true, false, ◌&&◌, eqb, leb, List, [], ◌∷◌, ◌++◌, length, codes, sym, refl, ap, ◌∙◌, subst, append_assoc, append-nil, arith, length-append}
use Rattle.std.proofs.lemmas.List.{append_cancel_right}
use Rattle.std.proofs.lemmas.Bool.{eqb-true, leb-true, and_parts}
use Rattle.faults.specs.declared.reason.Reason.TheVariants.{BadLine}
use Rattle.format.specs.Bytes.{Bytes, Got, ok, bad, then, is_white, is_eol, is_digit}
use Rattle.format.specs.Failures.{section_fault}
use Rattle.format.specs.Space.{skip}
use Rattle.format.specs.Strings.{turns}
use Rattle.format.specs.Tokens.{token_at}
use Rattle.format.specs.Objects.{Entries}
use Rattle.format.specs.Lines.{Slot, took, placed, exact, exact_line, slot, sub_line, number_line}
use Rattle.format.specs.Sections.{Listed, slots, Sub, sub, begins_digit, subs, all_subs, trailer_at, tail, Section, section, last_offset}
use Rattle.sections.specs.Reading.{begins_lf, NoLf, LfAsBefore, Any, Local}
use Rattle.sections.specs.OwnBytes.{TrailersAreLocal, SectionTaken, SectionsAreLocal}
use Rattle.sections.specs.Found.{ReadTailsAreFound}
use Rattle.sections.proofs.Tests.{clash}
use Rattle.sections.proofs.Digits.{Spells}
use Rattle.sections.proofs.Ends.{End, lf, cr, crlf, end_bytes, Closes, closes_again}
use Rattle.sections.proofs.Tails.{ok_at, tail_on, tail_length, tail_taken}
use Rattle.sections.proofs.LastOffset.{tail_found}
use Rattle.sections.proofs.Local.{onward, cons, reread, ok_done, not_bad, then_ok, placed_ok, then_local, placed_local}
use Rattle.sections.proofs.LinesLocal.{NoDigit, exact_shape, exact_local, slot_local, slot_begin, sub_line_local, sub_line_begin, digit_no_lf, exact_line_shape, exact_line_local, number_line_shape}
use Rattle.locality.proofs.Cases.{cases}

ok_rest : {A : Type 0} {a b : A} {p q : ℕ} {xs ys : Bytes} → ◌≡◌ {A = Got A} (ok a p xs) (ok b q ys) → xs ≡ ys
ok_rest e = cc

-- the entries of a subsection: whatever follows
pub slots_local : (c n p : ℕ) (xs : Bytes) (ss : Listed) (q : ℕ) (rest : Bytes) → slots c n p xs ≡ ok ss q rest → Local (slots c n p) (ok ss q) Any p q xs rest
unfolding slots
slots_local zero n p xs ss q rest e = ok_done Any e
slots_local (suc c) n p xs ss q rest e =
    then_local (λ ys. placed p ys (slot p ys)) (λ s p₁ ys. more s p₁ ys) Any e
    (λ s p₁ xs₁ f. placed_local (slot p) (slot_local p xs s p₁ xs₁ (placed_ok p xs (slot p xs) f)))
    (λ s p₁ xs₁ f.
    then_local (slots c (suc n) p₁) (λ ss p₂ ys. ok ((n, s) ∷ ss) p₂ ys) Any f
    (λ ss p₂ xs₂. slots_local c (suc n) p₁ xs₁ ss p₂ xs₂) (λ ss p₂ xs₂ g. ok_done Any g) (λ _ _ _ _ _ _. tt))
    (λ _ _ _ _ _ _. tt)
  where
    more : Slot → ℕ → Bytes → Got Listed
    more s p₁ ys = then (slots c (suc n) p₁ ys) (λ ss p₂ zs. ok ((n, s) ∷ ss) p₂ zs)

-- one entry and more begin with a digit
pub slots_begin : (c n p : ℕ) (xs : Bytes) {ss : Listed} {q : ℕ} {rest : Bytes} → 1 ≤ c → slots c n p xs ≡ ok ss q rest → begins_digit xs ≡ true
unfolding slots
slots_begin zero n p xs h e = absurd (omega arith)
slots_begin (suc c) n p xs h e =
    then_ok (placed p xs (slot p xs)) (λ s p₁ ys. then (slots c (suc n) p₁ ys) (λ ss p₂ zs. ok ((n, s) ∷ ss) p₂ zs)) e
    (λ s p₁ ys f g. slot_begin p xs (placed_ok p xs (slot p xs) f))

-- behind a subsection's line
unfoldable sub₁ : ℕ → ℕ → (ℕ × ℕ) → ℕ → Bytes → Got Sub
sub₁ low p h p₁ xs₁ =
    elim (leb low h.0 && leb 1 h.1) [
      | true ↦ then (slots h.1 h.0 p₁ xs₁) (λ ss p₂ xs₂. ok (record { first = h.0; count = h.1; rows = ss }) p₂ xs₂)
      | false ↦ bad (section_fault BadLine p)
    ]

sub₁_local : (low p : ℕ) (h : ℕ × ℕ) (p₁ : ℕ) (xs : Bytes) (s : Sub) (q : ℕ) (rest : Bytes) → sub₁ low p h p₁ xs ≡ ok s q rest → Local (sub₁ low p h p₁) (ok s q) Any p₁ q xs rest
unfolding sub₁
sub₁_local low p h p₁ xs s q rest e =
    cases (leb low h.0 && leb 1 h.1)
    (λ a.
    reread {s = λ ys. then (slots h.1 h.0 p₁ ys) (λ ss p₂ xs₂. ok (record { first = h.0; count = h.1; rows = ss }) p₂ xs₂)}
    (then_local (slots h.1 h.0 p₁) (λ ss p₂ xs₂. ok (record { first = h.0; count = h.1; rows = ss }) p₂ xs₂) Any (rw (a, sub₁) at e)
    (λ ss p₂ xs₂. slots_local h.1 h.0 p₁ xs ss p₂ xs₂) (λ ss p₂ xs₂ g. ok_done Any g) (λ _ _ _ _ _ _. tt))
    (λ zs ws f k. rw (a, sub₁) refl))
    (λ a. not_bad (rw (a, sub₁) at e))

sub₁_begin : (low p : ℕ) (h : ℕ × ℕ) (p₁ : ℕ) (xs : Bytes) {s : Sub} {q : ℕ} {rest : Bytes} → sub₁ low p h p₁ xs ≡ ok s q rest → begins_digit xs ≡ true
unfolding sub₁
sub₁_begin low p h p₁ xs e =
    cases (leb low h.0 && leb 1 h.1)
    (λ a.
    then_ok (slots h.1 h.0 p₁ xs) (λ ss p₂ xs₂. ok (record { first = h.0; count = h.1; rows = ss }) p₂ xs₂) (rw (a, sub₁) at e)
    (λ ss p₂ xs₂ f g. slots_begin h.1 h.0 p₁ xs (leb-true 1 h.1 (and_parts (leb low h.0) (leb 1 h.1) a).1) f))
    (λ a. not_bad (rw (a, sub₁) at e))

-- a subsection: whatever follows
pub sub_local : (low p : ℕ) (xs : Bytes) (s : Sub) (q : ℕ) (rest : Bytes) → sub low p xs ≡ ok s q rest → Local (sub low p) (ok s q) Any p q xs rest
unfolding sub sub₁
sub_local low p xs s q rest e =
    then_local (λ ys. placed p ys (sub_line p ys)) (sub₁ low p) NoLf e
    (λ h p₁ xs₁ f. placed_local (sub_line p) (sub_line_local p xs h p₁ xs₁ (placed_ok p xs (sub_line p xs) f)))
    (λ h p₁ xs₁. sub₁_local low p h p₁ xs₁ s q rest) (λ h p₁ zs ws f k. digit_no_lf zs (sub₁_begin low p h p₁ zs f))

-- a subsection begins with a digit
pub sub_begin : (low p : ℕ) (xs : Bytes) {s : Sub} {q : ℕ} {rest : Bytes} → sub low p xs ≡ ok s q rest → begins_digit xs ≡ true
unfolding sub sub₁
sub_begin low p xs e = then_ok (placed p xs (sub_line p xs)) (sub₁ low p) e (λ h p₁ ys f g. sub_line_begin p xs (placed_ok p xs (sub_line p xs) f))

abbrev more_subs : (n : ℕ) → Sub → ℕ → Bytes → Got (List Sub)
more_subs n s p₁ xs₁ = then (subs n (s.first + s.count) p₁ xs₁) (λ ss p₂ xs₂. ok (s ∷ ss) p₂ xs₂)

-- subsections, as long as a digit stands next: no digit follows
pub subs_local : (n low p : ℕ) (xs : Bytes) (ss : List Sub) (q : ℕ) (rest : Bytes) → subs n low p xs ≡ ok ss q rest → Local (subs n low p) (ok ss q) NoDigit p q xs rest
unfolding subs
subs_local zero low p xs ss q rest e = ok_done NoDigit e
subs_local (suc n) low p xs ss q rest e =
    cases (begins_digit xs)
    (λ a.
    reread {s = λ ys. then (sub low p ys) (λ s p₁ zs. more_subs n s p₁ zs)}
    (then_local (sub low p) (λ s p₁ ys. more_subs n s p₁ ys) Any (rw (a, subs) at e)
    (λ s p₁ xs₁. sub_local low p xs s p₁ xs₁)
    (λ s p₁ xs₁ f.
    then_local (subs n (s.first + s.count) p₁) (λ ss p₂ ys. ok (s ∷ ss) p₂ ys) NoDigit f
    (λ ss p₂ xs₂. subs_local n (s.first + s.count) p₁ xs₁ ss p₂ xs₂) (λ ss p₂ xs₂ g. ok_done NoDigit g) (λ ss p₂ zs ws g k. rw (ok_rest g) k))
    (λ _ _ _ _ _ _. tt))
    (λ zs ws f k. then_ok (sub low p zs) (λ s p₁ ys. more_subs n s p₁ ys) f (λ s p₁ ys g _. rw (sub_begin low p zs g, subs) refl)))
    (λ a.
    let f : ◌≡◌ {A = Got (List Sub)} (ok [] p xs) (ok ss q rest) = rw (a, subs) at e in
    reread {s = ok [] p} (ok_done NoDigit f) (λ zs ws g k. let w : zs ≡ ws = ok_rest g in let d : begins_digit zs ≡ false = rw w k in rw (d, subs) refl))

-- one subsection and more: no digit follows
pub all_subs_local : (p : ℕ) (xs : Bytes) (ss : List Sub) (q : ℕ) (rest : Bytes) → all_subs p xs ≡ ok ss q rest → Local (all_subs p) (ok ss q) NoDigit p q xs rest
unfolding all_subs
all_subs_local p xs ss q rest e =
    then_local (sub 0 p) (λ s p₁ ys. more_subs turns s p₁ ys) Any e
    (λ s p₁ xs₁. sub_local 0 p xs s p₁ xs₁)
    (λ s p₁ xs₁ f.
    then_local (subs turns (s.first + s.count) p₁) (λ ss p₂ ys. ok (s ∷ ss) p₂ ys) NoDigit f
    (λ ss p₂ xs₂. subs_local turns (s.first + s.count) p₁ xs₁ ss p₂ xs₂) (λ ss p₂ xs₂ g. ok_done NoDigit g) (λ ss p₂ zs ws g k. rw (ok_rest g) k))
    (λ _ _ _ _ _ _. tt)

-- subsections begin with a digit
pub all_subs_begin : (p : ℕ) (xs : Bytes) {ss : List Sub} {q : ℕ} {rest : Bytes} → all_subs p xs ≡ ok ss q rest → begins_digit xs ≡ true
unfolding all_subs
all_subs_begin p xs e = then_ok (sub 0 p xs) (λ s p₁ ys. more_subs turns s p₁ ys) e (λ s p₁ ys f g. sub_begin 0 p xs f)

-- a tail that was taken
pub record TailShape (off p : ℕ) (xs : Bytes) (q : ℕ) (rest : Bytes) : Type 0 where
  pub a : End
  pub ds : Bytes
  pub b : End
  pub c : End
  pub spells : Spells off ds
  pub closed : Closes c rest
  pub parts : xs ≡ tail_on a ds b c rest
  pub to : q ≡ p + tail_length a ds b c

-- a tail that was taken has one to ten digits that spell the offset, and three ends of line
pub tail_shape : (off p : ℕ) (xs : Bytes) {u : Unit {0}} {q : ℕ} {rest : Bytes} → tail off p xs ≡ ok u q rest → TailShape off p xs q rest
unfolding tail
tail_shape off p xs {q = q} {rest} e =
    then_ok (placed p xs (exact_line (codes "startxref") p xs)) (λ _ p₁ xs₁. then (placed p₁ xs₁ (number_line off p₁ xs₁)) (λ _ p₂ xs₂. placed p₂ xs₂ (exact_line (codes "%%EOF") p₂ xs₂))) e
    (λ u₁ p₁ xs₁ e₁ f₁.
    then_ok (placed p₁ xs₁ (number_line off p₁ xs₁)) (λ _ p₂ xs₂. placed p₂ xs₂ (exact_line (codes "%%EOF") p₂ xs₂)) f₁
    (λ u₂ p₂ xs₂ e₂ e₃.
    let s = exact_line_shape (codes "startxref") p xs (placed_ok p xs (exact_line (codes "startxref") p xs) e₁) in
    let t = number_line_shape off p₁ xs₁ (placed_ok p₁ xs₁ (number_line off p₁ xs₁) e₂) in
    let v = exact_line_shape (codes "%%EOF") p₂ xs₂ (placed_ok p₂ xs₂ (exact_line (codes "%%EOF") p₂ xs₂) e₃) in
    let s₁ = s.to in
    let t₁ = t.to in
    let v₁ = v.to in
    record {
      a = s.end;
      ds = t.ds;
      b = t.end;
      c = v.end;
      spells = t.spells;
      closed = v.closed;
      parts =
          s.parts
          ∙ ap (λ zs. codes "startxref" ++ (end_bytes s.end ++ zs)) (t.parts ∙ ap (λ zs. t.ds ++ (end_bytes t.end ++ zs)) v.parts);
      to = omega arith;
    }))

-- what stands behind a tail may be split
pub tail_on_++ : (a : End) (ds : Bytes) (b c : End) (ys : Bytes) → tail_on a ds b c [] ++ ys ≡ tail_on a ds b c ys
tail_on_++ a ds b c ys = simp append_assoc

-- how many bytes a tail is
pub tail_on_length : (a : End) (ds : Bytes) (b c : End) → length (tail_on a ds b c []) ≡ tail_length a ds b c
tail_on_length a ds b c = simp length-append (omega arith)

-- a tail: no LF follows where none did
pub tail_local : (off p : ℕ) (xs : Bytes) (u : Unit {0}) (q : ℕ) (rest : Bytes) → tail off p xs ≡ ok u q rest → Local (tail off p) (ok u q) (LfAsBefore rest) p q xs rest
tail_local off p xs u q rest e =
    let s = tail_shape off p xs e in
    record {
      pre = tail_on s.a s.ds s.b s.c [];
      parts = s.parts ∙ sym (tail_on_++ s.a s.ds s.b s.c rest);
      to = s.to ∙ ap (λ m. p + m) (sym (tail_on_length s.a s.ds s.b s.c));
      again = λ ys h.
          ap (λ zs. tail off p zs) (tail_on_++ s.a s.ds s.b s.c ys)
          ∙ (tail_taken off p s.a s.ds s.b s.c ys s.spells (closes_again s.c rest ys s.closed h) ∙ ok_at (sym s.to));
    }

-- `s` stands first
unfoldable pub begins_s : Bytes → Bool
begins_s [] = false
begins_s (x ∷ xs) = eqb x 115

-- bytes that begin with `s`
abbrev pub AtS : Bytes → Type 0
AtS ys = begins_s ys ≡ true

tail_begin : (off p : ℕ) (xs : Bytes) {u : Unit {0}} {q : ℕ} {rest : Bytes} → tail off p xs ≡ ok u q rest → AtS xs
unfolding begins_s
tail_begin off p xs e = let s = tail_shape off p xs e in rw s.parts refl

skip_none : (p : ℕ) (ys : Bytes) → AtS ys → skip false p ys ≡ (p, ys)
unfolding begins_s skip is_white
skip_none p [] h = clash h refl
skip_none p (y ∷ ys) h = let v : 115 ≡ y = sym (eqb-true y 115 h) in subst (λ z. skip false p (z ∷ ys) ≡ (p, z ∷ ys)) v refl

no_byte : {P : Type 0} {p q : ℕ} {rest : Bytes} → ◌≡◌ {A = ℕ × Bytes} (p, []) (q, rest) → AtS rest → P
unfolding begins_s
no_byte e h = let w = ap (λ (z : ℕ × Bytes). begins_s z.1) e in clash (w ∙ h) refl

-- white space and comments before `s`
pub skip_local : (c : Bool) (p : ℕ) (xs : Bytes) (q : ℕ) (rest : Bytes) → skip c p xs ≡ (q, rest) → AtS rest → Local (skip c p) (λ ys. (q, ys)) AtS p q xs rest
unfolding skip
skip_local true p [] q rest e h = no_byte e h
skip_local false p [] q rest e h = no_byte e h
skip_local true p (y ∷ xs) q rest e h =
    cases (is_eol y)
    (λ a. cons y (λ ys. rw (a, skip) refl) (skip_local false (suc p) xs q rest (rw (a, skip) at e) h))
    (λ a. cons y (λ ys. rw (a, skip) refl) (skip_local true (suc p) xs q rest (rw (a, skip) at e) h))
skip_local false p (y ∷ xs) q rest e h =
    cases (is_white y)
    (λ a. cons y (λ ys. rw (a, skip) refl) (skip_local false (suc p) xs q rest (rw (a, skip) at e) h))
    (λ a.
    cases (eqb y 37)
    (λ b. cons y (λ ys. rw (a, b, skip) refl) (skip_local true (suc p) xs q rest (rw (a, b, skip) at e) h))
    (λ b. here (rw (a, b, skip) at e)))
  where
    here : ◌≡◌ {A = ℕ × Bytes} (p, y ∷ xs) (q, rest) → Local (skip false p) (λ ys. (q, ys)) AtS p q (y ∷ xs) rest
    here f =
        let v : p ≡ q = ap (λ (z : ℕ × Bytes). z.0) f in
        record { pre = []; parts = ap (λ (z : ℕ × Bytes). z.1) f; to = omega arith; again = λ ys k. skip_none p ys k ∙ (λ i. (v i, ys)) }

-- the parts of a section
abbrev sec₅ : ℕ → List Sub → (ℕ × Entries) → (ℕ × Bytes) → Got Section
sec₅ off ss t s =
    then (tail off s.0 s.1) (λ _ p₅ xs₅. ok (record { offset = off; end = p₅; subsections = ss; marked = t.0; trailer = t.1 }) p₅ xs₅)

abbrev sec₄ : ℕ → List Sub → (ℕ × Entries) → ℕ → Bytes → Got Section
sec₄ off ss t p₄ xs₄ = sec₅ off ss t (skip false p₄ xs₄)

abbrev sec₃ : ℕ → List Sub → ℕ → Bytes → Got Section
sec₃ off ss p₃ xs₃ = then (trailer_at (token_at p₃ xs₃)) (λ t p₄ xs₄. sec₄ off ss t p₄ xs₄)

abbrev sec₂ : ℕ → List Sub → ℕ → Bytes → Got Section
sec₂ off ss p₂ xs₂ = then (placed p₂ xs₂ (exact (codes "trailer") p₂ xs₂)) (λ _ p₃ xs₃. sec₃ off ss p₃ xs₃)

abbrev sec₁ : ℕ → ℕ → Bytes → Got Section
sec₁ off p₁ xs₁ = then (all_subs p₁ xs₁) (λ ss p₂ xs₂. sec₂ off ss p₂ xs₂)

trailer_follows : (p : ℕ) (xs : Bytes) {u : Unit {0}} {q : ℕ} {rest : Bytes} → exact (codes "trailer") p xs ≡ took u q rest → NoDigit xs
unfolding begins_digit is_digit
trailer_follows p xs e = rw (exact_shape (codes "trailer") p xs e).0 refl

-- what ends with a tail that gives the offset of the section
record Ends (off : ℕ) (s : Section) (e : ℕ) (xs rest : Bytes) : Type 0 where
  front : Bytes
  a : End
  ds : Bytes
  b : End
  c : End
  spells : Spells off ds
  parts : xs ≡ front ++ tail_on a ds b c rest
  offset : s.offset ≡ off
  end : s.end ≡ e

ends_more : {off : ℕ} {s : Section} {e : ℕ} {xs xs₁ rest : Bytes} (pre : Bytes) → xs ≡ pre ++ xs₁ → Ends off s e xs₁ rest → Ends off s e xs rest
ends_more {rest = rest} pre f l = record {
  front = pre ++ l.front;
  a = l.a;
  ds = l.ds;
  b = l.b;
  c = l.c;
  spells = l.spells;
  parts = f ∙ (ap (λ zs. pre ++ zs) l.parts ∙ sym (append_assoc pre l.front (tail_on l.a l.ds l.b l.c rest)));
  offset = l.offset;
  end = l.end;
}

module _ (local : TrailersAreLocal) (off : ℕ) (s : Section) (e : ℕ) where
  abbrev made : List Sub → (ℕ × Entries) → Unit {0} → ℕ → Bytes → Got Section
  made ss t _ p₅ xs₅ = ok (record { offset = off; end = p₅; subsections = ss; marked = t.0; trailer = t.1 }) p₅ xs₅

  sec₅_local : (ss : List Sub) (t : ℕ × Entries) (p : ℕ) (xs rest : Bytes) → sec₅ off ss t (p, xs) ≡ ok s e rest → Local (λ ys. sec₅ off ss t (p, ys)) (ok s e) (LfAsBefore rest) p e xs rest
  sec₅_local ss t p xs rest f =
      then_ok (tail off p xs) (made ss t) f
      (λ u p₁ xs₁ g k.
      let l = tail_local off p xs u p₁ xs₁ g in
      let w : xs₁ ≡ rest = ok_rest k in
      let at : p₁ ≡ e = cc in
      record {
        pre = l.pre;
        parts = l.parts ∙ ap (λ zs. l.pre ++ zs) w;
        to = sym at ∙ l.to;
        again = λ ys h. ap (λ z. then z (made ss t)) (l.again ys (subst (λ zs. LfAsBefore zs ys) (sym w) h)) ∙ (let r : made ss t u p₁ ys ≡ ok s e ys = cc in r);
      })

  sec₅_begin : (ss : List Sub) (t : ℕ × Entries) (p : ℕ) (xs rest : Bytes) → sec₅ off ss t (p, xs) ≡ ok s e rest → AtS xs
  sec₅_begin ss t p xs rest f = then_ok (tail off p xs) (made ss t) f (λ u p₁ xs₁ g _. tail_begin off p xs g)

  sec₅_ends : (ss : List Sub) (t : ℕ × Entries) (p : ℕ) (xs rest : Bytes) → sec₅ off ss t (p, xs) ≡ ok s e rest → Ends off s e xs rest
  sec₅_ends ss t p xs rest f =
      then_ok (tail off p xs) (made ss t) f
      (λ u p₁ xs₁ g k.
      let v = tail_shape off p xs g in
      let w : xs₁ ≡ rest = ok_rest k in
      let is : ◌≡◌ {A = Section} (record { offset = off; end = p₁; subsections = ss; marked = t.0; trailer = t.1 }) s = cc in
      let at : p₁ ≡ e = cc in
      record {
        front = [];
        a = v.a;
        ds = v.ds;
        b = v.b;
        c = v.c;
        spells = v.spells;
        parts = v.parts ∙ ap (λ zs. tail_on v.a v.ds v.b v.c zs) w;
        offset = sym (ap (λ (z : Section). z.offset) is);
        end = sym (ap (λ (z : Section). z.end) is) ∙ at;
      })

  gap : (ss : List Sub) (t : ℕ × Entries) (p : ℕ) (xs rest : Bytes) → sec₄ off ss t p xs ≡ ok s e rest →
      Local (skip false p) (λ ys. ((skip false p xs).0, ys)) AtS p (skip false p xs).0 xs (skip false p xs).1
  gap ss t p xs rest f =
      skip_local false p xs (skip false p xs).0 (skip false p xs).1 refl (sec₅_begin ss t (skip false p xs).0 (skip false p xs).1 rest f)

  sec₄_local : (ss : List Sub) (t : ℕ × Entries) (p : ℕ) (xs rest : Bytes) → sec₄ off ss t p xs ≡ ok s e rest → Local (sec₄ off ss t p) (ok s e) (LfAsBefore rest) p e xs rest
  sec₄_local ss t p xs rest f =
      let q : ℕ = (skip false p xs).0 in
      onward (sec₅ off ss t) (skip false p) (λ ys. (q, ys)) (ok s e) AtS (LfAsBefore rest) (gap ss t p xs rest f) (sec₅_local ss t q (skip false p xs).1 rest f)
      (λ zs ws g _. sec₅_begin ss t q zs ws g)

  sec₄_ends : (ss : List Sub) (t : ℕ × Entries) (p : ℕ) (xs rest : Bytes) → sec₄ off ss t p xs ≡ ok s e rest → Ends off s e xs rest
  sec₄_ends ss t p xs rest f =
      let g = gap ss t p xs rest f in
      ends_more g.pre g.parts (sec₅_ends ss t (skip false p xs).0 (skip false p xs).1 rest f)

  sec₃_local : (ss : List Sub) (p : ℕ) (xs rest : Bytes) → sec₃ off ss p xs ≡ ok s e rest → Local (sec₃ off ss p) (ok s e) (LfAsBefore rest) p e xs rest
  sec₃_local ss p xs rest f =
      then_local (λ ys. trailer_at (token_at p ys)) (λ t p₄ xs₄. sec₄ off ss t p₄ xs₄) Any f
      (λ t p₁ xs₁. local p xs t p₁ xs₁) (λ t p₁ xs₁. sec₄_local ss t p₁ xs₁ rest) (λ _ _ _ _ _ _. tt)

  sec₃_ends : (ss : List Sub) (p : ℕ) (xs rest : Bytes) → sec₃ off ss p xs ≡ ok s e rest → Ends off s e xs rest
  sec₃_ends ss p xs rest f =
      then_ok (trailer_at (token_at p xs)) (λ t p₄ xs₄. sec₄ off ss t p₄ xs₄) f
      (λ t p₁ xs₁ g k. let l = local p xs t p₁ xs₁ g in ends_more l.pre l.parts (sec₄_ends ss t p₁ xs₁ rest k))

  sec₂_local : (ss : List Sub) (p : ℕ) (xs rest : Bytes) → sec₂ off ss p xs ≡ ok s e rest → Local (sec₂ off ss p) (ok s e) (LfAsBefore rest) p e xs rest
  sec₂_local ss p xs rest f =
      then_local (λ ys. placed p ys (exact (codes "trailer") p ys)) (λ _ p₃ xs₃. sec₃ off ss p₃ xs₃) Any f
      (λ u p₁ xs₁ g. placed_local (exact (codes "trailer") p) (exact_local (codes "trailer") p xs u p₁ xs₁ (placed_ok p xs (exact (codes "trailer") p xs) g)))
      (λ u p₁ xs₁. sec₃_local ss p₁ xs₁ rest) (λ _ _ _ _ _ _. tt)

  sec₂_ends : (ss : List Sub) (p : ℕ) (xs rest : Bytes) → sec₂ off ss p xs ≡ ok s e rest → Ends off s e xs rest
  sec₂_ends ss p xs rest f =
      then_ok (placed p xs (exact (codes "trailer") p xs)) (λ _ p₃ xs₃. sec₃ off ss p₃ xs₃) f
      (λ u p₁ xs₁ g k.
      ends_more (codes "trailer") (exact_shape (codes "trailer") p xs (placed_ok p xs (exact (codes "trailer") p xs) g)).0 (sec₃_ends ss p₁ xs₁ rest k))

  sec₂_follows : (ss : List Sub) (p : ℕ) (xs rest : Bytes) → sec₂ off ss p xs ≡ ok s e rest → NoDigit xs
  sec₂_follows ss p xs rest f =
      then_ok (placed p xs (exact (codes "trailer") p xs)) (λ _ p₃ xs₃. sec₃ off ss p₃ xs₃) f
      (λ u p₁ xs₁ g k. trailer_follows p xs (placed_ok p xs (exact (codes "trailer") p xs) g))

  sec₁_local : (p : ℕ) (xs rest : Bytes) → sec₁ off p xs ≡ ok s e rest → Local (sec₁ off p) (ok s e) (LfAsBefore rest) p e xs rest
  sec₁_local p xs rest f =
      then_local (all_subs p) (λ ss p₂ xs₂. sec₂ off ss p₂ xs₂) NoDigit f
      (λ ss p₁ xs₁. all_subs_local p xs ss p₁ xs₁) (λ ss p₁ xs₁. sec₂_local ss p₁ xs₁ rest) (λ ss p₁ zs ws g _. sec₂_follows ss p₁ zs ws g)

  sec₁_ends : (p : ℕ) (xs rest : Bytes) → sec₁ off p xs ≡ ok s e rest → Ends off s e xs rest
  sec₁_ends p xs rest f =
      then_ok (all_subs p xs) (λ ss p₂ xs₂. sec₂ off ss p₂ xs₂) f
      (λ ss p₁ xs₁ g k. let l = all_subs_local p xs ss p₁ xs₁ g in ends_more l.pre l.parts (sec₂_ends ss p₁ xs₁ rest k))

  sec₁_follows : (p : ℕ) (xs rest : Bytes) → sec₁ off p xs ≡ ok s e rest → NoLf xs
  sec₁_follows p xs rest f = then_ok (all_subs p xs) (λ ss p₂ xs₂. sec₂ off ss p₂ xs₂) f (λ ss p₁ xs₁ g k. digit_no_lf xs (all_subs_begin p xs g))

  -- a section: no LF follows where none did
  pub section_local : (xs rest : Bytes) → section off xs ≡ ok s e rest → Local (section off) (ok s e) (LfAsBefore rest) off e xs rest
  unfolding section
  section_local xs rest f =
      then_local (λ ys. placed off ys (exact_line (codes "xref") off ys)) (λ _ p₁ xs₁. sec₁ off p₁ xs₁) NoLf f
      (λ u p₁ xs₁ g. placed_local (exact_line (codes "xref") off) (exact_line_local (codes "xref") off xs u p₁ xs₁ (placed_ok off xs (exact_line (codes "xref") off xs) g)))
      (λ u p₁ xs₁. sec₁_local p₁ xs₁ rest) (λ u p₁ zs ws g _. sec₁_follows p₁ zs ws g)

  section_ends : (xs rest : Bytes) → section off xs ≡ ok s e rest → (o : End) × ((ys : Bytes) × ((xs ≡ codes "xref" ++ (end_bytes o ++ ys)) × Ends off s e ys rest))
  unfolding section
  section_ends xs rest f =
      then_ok (placed off xs (exact_line (codes "xref") off xs)) (λ _ p₁ xs₁. sec₁ off p₁ xs₁) f
      (λ u p₁ xs₁ g k.
      let l = exact_line_shape (codes "xref") off xs (placed_ok off xs (exact_line (codes "xref") off xs) g) in
      (l.end, (xs₁, (l.parts, sec₁_ends p₁ xs₁ rest k))))

end_some : (e : End) → 1 ≤ length (end_bytes e)
end_some lf = omega arith
end_some cr = omega arith
end_some crlf = omega arith

no_lf_none : (rest : Bytes) → LfAsBefore rest []
unfolding begins_lf
no_lf_none rest e = clash e refl

-- A section that was read: its own bytes decide it, and where they end the file, its offset is found from there.
pub section_taken : TrailersAreLocal → SectionsAreLocal
section_taken local off xs s e rest f =
    let l = section_local local off s e xs rest f in
    own l (section_ends local off s e l.pre [] (ap (section off) (sym (append-nil l.pre)) ∙ l.again [] (no_lf_none rest)))
  where
    own : (l : Local (section off) (ok s e) (LfAsBefore rest) off e xs rest) →
        (o : End) × ((ys : Bytes) × ((l.pre ≡ codes "xref" ++ (end_bytes o ++ ys)) × Ends off s e ys [])) → SectionTaken off xs s e rest
    own l (o, (ys, (shape, d))) =
        let t : Bytes = tail_on d.a d.ds d.b d.c [] in
        let front : Bytes = codes "xref" ++ (end_bytes o ++ d.front) in
        let whole : l.pre ≡ front ++ t = shape ∙ (ap (λ zs. codes "xref" ++ (end_bytes o ++ zs)) d.parts ∙ simp append_assoc) in
        let long₁ : length l.pre ≡ length front + length t = ap length whole ∙ length-append front t in
        let long₂ = length-append (end_bytes o) d.front in
        let long₃ = tail_on_length d.a d.ds d.b d.c in
        let some = d.spells.some in
        let ends₁ = end_some d.a in
        let ends₂ = end_some d.b in
        let ends₃ = end_some d.c in
        record {
          pre = l.pre;
          parts = l.parts;
          to = l.to;
          long = omega arith;
          first = (114 ∷ 101 ∷ 102 ∷ (end_bytes o ++ ys), shape);
          offset = d.offset;
          end = d.end;
          again = l.again;
          found = λ before.
              ap last_offset (ap (λ zs. before ++ zs) whole ∙ sym (append_assoc before front t))
              ∙ tail_found (before ++ front) off d.a d.ds d.b d.c d.spells;
        }

-- bytes that end with a section that can be read give its offset from their end
pub read_found : TrailersAreLocal → ReadTailsAreFound
read_found local off pre s e rest before f =
    let l = section_taken local off (pre ++ rest) s e rest f in
    ap (λ zs. last_offset (before ++ zs)) (append_cancel_right pre l.pre rest l.parts) ∙ l.found before
