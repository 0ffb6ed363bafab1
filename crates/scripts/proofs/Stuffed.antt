-- A body that was printed is read again.
use Rattle.std.proofs.Common.{◌≡◌, ℕ, suc, ◌-◌, Bool, true, false, ◌&&◌, eqb, [], ◌∷◌, ◌++◌, length, Ok, sym, refl, ap, ◌∙◌, append_assoc, append-nil, arith, length-append}
use Rattle.std.proofs.lemmas.List.{take_at}
use Rattle.std.proofs.lemmas.Bool.{eqb-true, eqb-false, ne_eqb, and_parts}
use Rattle.format.specs.Bytes.{Bytes, every}
use Rattle.format.specs.Lines.{is_empty}
use Rattle.format.specs.Updates.{body}
use Rattle.locality.proofs.Cases.{cases}
use Rattle.sections.proofs.Digits.{every_++}
use Rattle.scripts.specs.declared.line.BodyLine.TheVariants.{Text}
use Rattle.scripts.specs.Dots.{dot_as, each_byte, with_dot, without_dot, dotted, undotted, without_last}
use Rattle.scripts.specs.Lines.{lines_of, body_line_of, after_dot}
use Rattle.scripts.specs.Scripts.{change, between, inside, items_of}
use Rattle.scripts.proofs.Cut.{lines_cut}
use Rattle.scripts.proofs.Plain.{is_plain, plain_unbroken}
use Rattle.scripts.proofs.Steps.{text_said, end_said}

-- the dots come and go
dots_back : (s : Bool) (b : Bytes) → each_byte without_dot s (each_byte with_dot s b) ≡ b
unfolding each_byte dot_as
dots_back s [] = refl
dots_back s (x ∷ b) =
    cases (s && eqb x 46)
    (λ e.
    let p = and_parts s (eqb x 46) e in
    let d : x ≡ 46 = eqb-true x 46 p.1 in
    rw (p.0, d) (ap {B = Bytes} (λ ys. 46 ∷ ys) (dots_back false b)))
    (λ e. rw (e, dot_as) (rw (e, dot_as) (ap {B = Bytes} (λ ys. x ∷ ys) (dots_back (eqb x 10) b))))

pub undotted_dotted : (b : Bytes) → undotted (dotted b) ≡ b
unfolding undotted dotted
undotted_dotted b = dots_back true b

-- bytes behind which one more stands, without that
pub last_off : (xs : Bytes) (x : ℕ) → without_last (xs ++ (x ∷ [])) ≡ xs
unfolding without_last
last_off xs x =
    let l = length-append xs (x ∷ []) in
    let e : length xs ≡ length (xs ++ (x ∷ [])) - 1 = omega arith in
    take_at xs (x ∷ []) _ e

-- the start of a line that is text, whatever follows
abbrev Safe : Bytes → Type 0
Safe [] = Unit {0}
Safe (x ∷ []) = x ≡ 46 → ⊥
Safe (x ∷ y ∷ p) = x ≡ 46 → y ≡ 46

safe_text : (p : Bytes) → Safe p → body_line_of p ≡ Ok Text
unfolding body_line_of after_dot
safe_text [] h = refl
safe_text (x ∷ []) h = rw (ne_eqb x 46 h, body_line_of) refl
safe_text (x ∷ y ∷ p) h =
    cases (eqb x 46)
    (λ e. let d = h (eqb-true x 46 e) in rw (e, body_line_of) (rw d refl))
    (λ e. rw (e, body_line_of) refl)

safe_more : (x : ℕ) (p : Bytes) (z : ℕ) → Safe (x ∷ p) → Safe ((x ∷ p) ++ (z ∷ []))
safe_more x [] z h = λ e. absurd (h e)
safe_more x (y ∷ p) z h = h

-- a byte that makes no dot
single : (p : Bytes) (x : ℕ) → (is_empty p && eqb x 46) ≡ false → Safe p → Safe (p ++ (x ∷ []))
unfolding is_empty
single [] x e h = eqb-false x 46 e
single (y ∷ p) x e h = safe_more y p x h

not_empty : (p : Bytes) (x : ℕ) → is_empty (p ++ (x ∷ [])) ≡ false
unfolding is_empty
not_empty [] x = refl
not_empty (y ∷ p) x = refl

empty_is : (p : Bytes) → is_empty p ≡ true → p ≡ []
unfolding is_empty
empty_is [] e = refl
empty_is (x ∷ p) e = let z : ◌≡◌ {A = ℕ} 0 1 = cc in absurd (omega arith)

-- what is left of the body b, behind the part p of its line
abbrev left : Bytes → Bytes → Bytes
left p b = p ++ each_byte with_dot (is_empty p) b

-- what the text of a body ends with
abbrev closed : Bytes → Bytes → Bytes
closed w rest = w ++ (10 ∷ 46 ∷ 10 ∷ rest)

-- The body of which t was read, and w is to come, ends behind it.
record Ends (s n : ℕ) (t w rest : Bytes) (k : ℕ) : Type 0 where
  next : ℕ
  is : items_of (inside s n t) k (lines_of (closed w rest)) ≡ change s n (body (undotted (without_last (t ++ (w ++ (10 ∷ [])))))) ∷ items_of between next (lines_of rest)

dot_plain : every is_plain (46 ∷ []) ≡ true
unfolding every is_plain
dot_plain = refl

dots_plain : every is_plain (46 ∷ 46 ∷ []) ≡ true
unfolding every is_plain
dots_plain = refl

-- a line of the text
line_read : (s n : ℕ) (t p w : Bytes) (k : ℕ) → every is_plain p ≡ true → Safe p → items_of (inside s n t) k (lines_of (p ++ (10 ∷ w))) ≡ items_of (inside s n (t ++ (p ++ (10 ∷ [])))) (suc k) (lines_of w)
line_read s n t p w k plain safe =
    ap (items_of (inside s n t) k) (lines_cut p w (plain_unbroken p plain)) ∙ text_said s n t k p (lines_of w) (safe_text p safe)

-- the end of the text
end_read : (s n : ℕ) (t rest : Bytes) (k : ℕ) → items_of (inside s n t) k (lines_of (46 ∷ 10 ∷ rest)) ≡ change s n (body (undotted (without_last t))) ∷ items_of between (suc k) (lines_of rest)
unfolding body_line_of after_dot
end_read s n t rest k =
    ap (items_of (inside s n t) k) (lines_cut (46 ∷ []) rest (plain_unbroken (46 ∷ []) dot_plain)) ∙ end_said s n t k (46 ∷ []) (lines_of rest) refl

ended : (s n : ℕ) (t p rest : Bytes) (k : ℕ) → every is_plain p ≡ true → Safe p → Ends s n t p rest k
ended s n t p rest k plain safe = record {
  next = suc (suc k);
  is = line_read s n t p (46 ∷ 10 ∷ rest) k plain safe ∙ end_read s n (t ++ (p ++ (10 ∷ []))) rest (suc k);
}

-- the text as it is, otherwise written
ends_as : (s n : ℕ) (t v w rest : Bytes) (k : ℕ) → v ≡ w → Ends s n t v rest k → Ends s n t w rest k
ends_as s n t v w rest k e h = rw e at h

-- a line more
lined : (s n : ℕ) (t p w rest : Bytes) (k : ℕ) → every is_plain p ≡ true → Safe p → Ends s n (t ++ (p ++ (10 ∷ []))) w rest (suc k) → Ends s n t (p ++ (10 ∷ w)) rest k
lined s n t p w rest k plain safe h =
    let e : (t ++ (p ++ (10 ∷ []))) ++ (w ++ (10 ∷ [])) ≡ t ++ ((p ++ (10 ∷ w)) ++ (10 ∷ [])) = simp append_assoc in
    record {
      next = h.next;
      is =
          ap (λ ys. items_of (inside s n t) k (lines_of ys)) (append_assoc p (10 ∷ w) (10 ∷ 46 ∷ 10 ∷ rest))
          ∙ line_read s n t p (closed w rest) k plain safe
          ∙ h.is
          ∙ ap (λ ys. change s n (body (undotted (without_last ys))) ∷ items_of between h.next (lines_of rest)) e;
    }

one_plain : (p : Bytes) (x : ℕ) → every is_plain p ≡ true → eqb x 10 ≡ false → every is_plain (p ++ (x ∷ [])) ≡ true
unfolding every is_plain
one_plain p x plain e = every_++ is_plain p (x ∷ []) plain (rw e refl)

-- the text of a body, byte by byte
text_read : (b p t rest : Bytes) (s n k : ℕ) → every is_plain p ≡ true → Safe p → Ends s n t (left p b) rest k
unfolding each_byte dot_as is_empty every
text_read [] p t rest s n k plain safe = ends_as s n t p _ rest k (sym (append-nil p)) (ended s n t p rest k plain safe)
text_read (x ∷ b) p t rest s n k plain safe =
    cases (is_empty p && eqb x 46)
    (λ e.
    let q = and_parts (is_empty p) (eqb x 46) e in
    let d : x ≡ 46 = eqb-true x 46 q.1 in
    let z : p ≡ [] = empty_is p q.0 in
    rw (z, d) (text_read b (46 ∷ 46 ∷ []) t rest s n k dots_plain (λ h. refl)))
    (λ e.
    cases (eqb x 10)
    (λ f.
    let d : x ≡ 10 = eqb-true x 10 f in
    let safer : (is_empty p && eqb 10 46) ≡ false = rw d at e in
    rw d (rw (safer, dot_as) (lined s n t p (each_byte with_dot true b) rest k plain safe (text_read b [] (t ++ (p ++ (10 ∷ []))) rest s n (suc k) refl tt))))
    (λ f.
    let i : is_empty (p ++ (x ∷ [])) ≡ false = not_empty p x in
    let r : Ends s n t ((p ++ (x ∷ [])) ++ each_byte with_dot (is_empty (p ++ (x ∷ []))) b) rest k = text_read b (p ++ (x ∷ [])) t rest s n k (one_plain p x plain f) (single p x e safe) in
    let r' : Ends s n t ((p ++ (x ∷ [])) ++ each_byte with_dot false b) rest k = rw i at r in
    rw (e, dot_as) (rw f (ends_as s n t _ _ rest k (append_assoc p (x ∷ []) (each_byte with_dot false b)) r'))))

-- the text of a body is read as that body
pub record Body (b rest : Bytes) (s n k : ℕ) : Type 0 where
  pub next : ℕ
  pub is : items_of (inside s n []) k (lines_of (dotted b ++ (10 ∷ 46 ∷ 10 ∷ rest))) ≡ change s n (body b) ∷ items_of between next (lines_of rest)

pub body_read : (b rest : Bytes) (s n k : ℕ) → Body b rest s n k
unfolding dotted is_empty every
body_read b rest s n k = go (text_read b [] [] rest s n k refl tt)
  where
    go : Ends s n [] (dotted b) rest k → Body b rest s n k
    go h = record {
      next = h.next;
      is = h.is ∙ ap (λ ys. change s n (body ys) ∷ items_of between h.next (lines_of rest)) (ap undotted (last_off (dotted b) 10) ∙ undotted_dotted b);
    }
