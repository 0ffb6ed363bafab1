-- A literal string, at a place inside it.
use Rattle.std.proofs.Common.{◌≡◌, ℕ, zero, suc, ◌+◌, ◌-◌, ◌<◌, ◌≤◌, true, false, eqb, [], ◌∷◌, length, get_or, drop, Some, sym, refl, ap, ◌∙◌, ⊎_elim, add-one, arith}
use Rattle.std.proofs.lemmas.List.{at_drop_all}
use Rattle.std.proofs.lemmas.Bool.{cases_lt, eq-eqb, ne_eqb}
use Rattle.format.specs.Bytes.{Bytes}
use Rattle.format.specs.Tokens.{Flaw}
use Rattle.lexer.specs.Endings.{span_flaw}
use Rattle.format.specs.Strings.{Span, closed, unclosed, too_deep_at, broken_at, Bracketed, turns, onward, literal, string_by}
use Rattle.lexer.proofs.Places.{at_place}

module _ (inner : Bracketed) (n p x : ℕ) (xs : Bytes) where
  closes : eqb x 41 ≡ true → literal inner (suc n) p (x ∷ xs) ≡ closed (suc p) xs
  unfolding literal
  closes e = rw (e, literal)

  opens : eqb x 41 ≡ false → eqb x 40 ≡ true → literal inner (suc n) p (x ∷ xs) ≡ onward (inner p xs) (λ q ys. literal inner n q ys)
  unfolding literal
  opens e f = rw (e, f, literal)

  escapes : (y : ℕ) (ys : Bytes) → eqb x 41 ≡ false → eqb x 40 ≡ false → eqb x 92 ≡ true → literal inner (suc n) p (x ∷ y ∷ ys) ≡ literal inner n (suc (suc p)) ys
  unfolding literal
  escapes y ys e f g = rw (e, f, g, literal)

  escapes_nothing : eqb x 41 ≡ false → eqb x 40 ≡ false → eqb x 92 ≡ true → literal inner (suc n) p (x ∷ []) ≡ unclosed
  unfolding literal
  escapes_nothing e f g = rw (e, f, g, literal)

  passes : eqb x 41 ≡ false → eqb x 40 ≡ false → eqb x 92 ≡ false → literal inner (suc n) p (x ∷ xs) ≡ literal inner n (suc p) xs
  unfolding literal
  passes e f g = rw (e, f, g, literal)

none_left : (inner : Bracketed) (n p : ℕ) → literal inner n p [] ≡ unclosed
unfolding literal
none_left inner zero p = refl
none_left inner (suc n) p = refl

-- a part's flaw is the string's
flaw_onward : (f : ℕ → Flaw) (src : Bytes) (s : Span) (k : ℕ → Bytes → Span) (y : Flaw) → span_flaw f src s ≡ Some y → span_flaw f src (onward s k) ≡ Some y
flaw_onward f src (closed q xs) k y e = let z : ◌≡◌ {A = ℕ} 0 1 = cc in absurd (omega arith)
flaw_onward f src unclosed k y e = e
flaw_onward f src (too_deep_at q) k y e = e
flaw_onward f src (broken_at q) k y e = e

-- what is to be read from p on comes to z, with turns enough
abbrev pub Left : Bracketed → Bytes → ℕ → Span → Type 0
Left inner src p z = (n : ℕ) × (length src < n + p) × (literal inner n p (drop p src) ≡ z)

module _ (inner : Bracketed) (src : Bytes) (p : ℕ) (z : Span) where
  pub left_ends : length src ≤ p → Left inner src p z → z ≡ unclosed
  left_ends h (n, l, e) = sym e ∙ at_drop_all (literal inner n p) src p h ∙ none_left inner n p

  module _ (h : p < length src) where
    pub left_closes : get_or src p 0 ≡ 41 → Left inner src p z → z ≡ closed (p + 1) (drop (p + 1) src)
    left_closes b (zero, l, e) = absurd (omega arith)
    left_closes b (suc n, l, e) = rw add-one (sym e ∙ at_place (literal inner (suc n) p) src p h ∙ closes inner n p _ _ (eq-eqb _ _ b))

    module _ (c : get_or src p 0 ≡ 41 → ⊥) where
      left_opens : get_or src p 0 ≡ 40 → (n : ℕ) → literal inner (suc n) p (drop p src) ≡ z → z ≡ onward (inner p (drop (suc p) src)) (λ q ys. literal inner n q ys)
      left_opens b n e = sym e ∙ at_place (literal inner (suc n) p) src p h ∙ opens inner n p _ _ (ne_eqb _ _ c) (eq-eqb _ _ b)

      pub left_part : (q : ℕ) → get_or src p 0 ≡ 40 → closed q (drop q src) ≡ inner p (drop (suc p) src) → p < q → Left inner src p z → Left inner src q z
      left_part q b i m (zero, l, e) = absurd (omega arith)
      left_part q b i m (suc n, l, e) =
          (n, omega arith, ap (λ s. onward s (λ q ys. literal inner n q ys)) i ∙ sym (left_opens b n e))

      pub left_part_flawed : (f : ℕ → Flaw) (y : Flaw) → get_or src p 0 ≡ 40 → span_flaw f src (inner p (drop (suc p) src)) ≡ Some y → Left inner src p z → span_flaw f src z ≡ Some y
      left_part_flawed f y b i (zero, l, e) = absurd (omega arith)
      left_part_flawed f y b i (suc n, l, e) = ap (span_flaw f src) (left_opens b n e) ∙ flaw_onward f src (inner p (drop (suc p) src)) (λ q ys. literal inner n q ys) y i

      module _ (o : get_or src p 0 ≡ 40 → ⊥) where
        left_escape : get_or src p 0 ≡ 92 → p + 1 < length src → Left inner src p z → Left inner src (p + 2) z
        left_escape b k (zero, l, e) = absurd (omega arith)
        left_escape b k (suc n, l, e) =
            let i : p + 2 ≡ suc (suc p) = omega arith in
            let j : suc p < length src = omega arith in (
              n,
              omega arith,
              rw i (sym (
                  at_place (literal inner (suc n) p) src p h
                  ∙ at_place (λ r. literal inner (suc n) p (get_or src p 0 ∷ r)) src (suc p) j
                  ∙ escapes inner n p _ [] _ _ (ne_eqb _ _ c) (ne_eqb _ _ o) (eq-eqb _ _ b)
                  ) ∙ e),
            )

        left_escape_end : get_or src p 0 ≡ 92 → length src ≤ p + 1 → Left inner src p z → unclosed ≡ z
        left_escape_end b k (zero, l, e) = absurd (omega arith)
        left_escape_end b k (suc n, l, e) =
            let j : length src ≤ suc p = omega arith in
            sym (
            at_place (literal inner (suc n) p) src p h
            ∙ at_drop_all (λ r. literal inner (suc n) p (get_or src p 0 ∷ r)) src (suc p) j
            ∙ escapes_nothing inner n p _ [] (ne_eqb _ _ c) (ne_eqb _ _ o) (eq-eqb _ _ b)
            ) ∙ e

        pub left_escaped : get_or src p 0 ≡ 92 → Left inner src p z → Left inner src (p + 2) z
        left_escaped b was =
            ⊎_elim
            (λ k. left_escape b k was)
            (λ k.
            let n = was.0 in
            let m = was.1 in (
              n,
              omega arith,
              at_drop_all (literal inner n (p + 2)) src (p + 2) (omega arith) ∙ none_left inner n (p + 2) ∙ left_escape_end b k was,
            ))
            (cases_lt (p + 1) (length src))

        pub left_plain : (get_or src p 0 ≡ 92 → ⊥) → Left inner src p z → Left inner src (p + 1) z
        left_plain b (zero, l, e) = absurd (omega arith)
        left_plain b (suc n, l, e) = (
          n,
          omega arith,
          rw add-one (sym (at_place (literal inner (suc n) p) src p h ∙ passes inner n p _ _ (ne_eqb _ _ c) (ne_eqb _ _ o) (ne_eqb _ _ b)) ∙ e),
        )

-- a bracket where none may open
pub too_deep : (d p : ℕ) (xs : Bytes) → d ≡ 0 → too_deep_at p ≡ string_by d p xs
unfolding string_by
too_deep d p xs e = rw (e, string_by)

-- a part is a string one deeper
pub one_deeper : (d p : ℕ) (xs : Bytes) → (d ≡ 0 → ⊥) → literal (string_by (d - 1)) turns (suc p) xs ≡ string_by d p xs
unfolding string_by
one_deeper zero p xs h = absurd (h refl)
one_deeper (suc d) p xs h = let e : suc d - 1 ≡ d = omega arith in rw e

-- the string behind its bracket, if the bytes are no more than turns
pub left_all : (d : ℕ) (src : Bytes) (p : ℕ) → (d ≡ 0 → ⊥) → length src < turns → Left (string_by (d - 1)) src (p + 1) (string_by d p (drop (suc p) src))
left_all d src p h l = (turns, omega arith, rw add-one (one_deeper d p (drop (suc p) src) h))
