-- Ends of line, at a place of the whole bytes.
use Rattle.std.proofs.Common.{◌≡◌, ℕ, suc, ◌+◌, ◌<◌, ◌≤◌, true, false, eqb, [], ◌∷◌, length, get_or, drop, sym, refl, ap, ◌∙◌, ⊎_elim, add-one, arith, get_or-drop}
use Rattle.std.specs.List.{between}
use Rattle.std.proofs.lemmas.List.{at_drop_all, get_or_past}
use Rattle.std.proofs.lemmas.Bool.{cases_lt, eq-eqb, ne_eqb}
use Rattle.std.proofs.lemmas.Slice.{between_to_end}
use Rattle.format.specs.Bytes.{Bytes}
use Rattle.format.specs.Space.{no_bytes, no_eol, eol_to, after_cr, eol_at}
use Rattle.lexer.proofs.Places.{at_place}

module _ (p x : ℕ) (xs : Bytes) where
  on_lf : eqb x 10 ≡ true → eol_at p (x ∷ xs) ≡ eol_to (suc p) xs
  unfolding eol_at
  on_lf e = rw (e, eol_at)

  on_cr : eqb x 10 ≡ false → eqb x 13 ≡ true → eol_at p (x ∷ xs) ≡ after_cr (suc p) xs
  unfolding eol_at
  on_cr e f = rw (e, f, eol_at)

  on_other : eqb x 10 ≡ false → eqb x 13 ≡ false → eol_at p (x ∷ xs) ≡ no_eol
  unfolding eol_at
  on_other e f = rw (e, f, eol_at)

  then_lf : eqb x 10 ≡ true → after_cr p (x ∷ xs) ≡ eol_to (suc p) xs
  unfolding after_cr
  then_lf e = rw (e, after_cr)

  then_other : eqb x 10 ≡ false → after_cr p (x ∷ xs) ≡ eol_to p (x ∷ xs)
  unfolding after_cr
  then_other e = rw (e, after_cr)

no_line : (p : ℕ) → eol_at p [] ≡ no_bytes
unfolding eol_at
no_line p = refl

cr_last : (p : ℕ) → after_cr p [] ≡ eol_to p []
unfolding after_cr
cr_last p = refl

-- a byte of the bytes from p on
module _ (src : Bytes) (p q i x : ℕ) (place : q ≡ p + i) where
  there : get_or (between p (length src) src) i 0 ≡ get_or src q 0
  there = ap (λ xs. get_or xs i 0) (between_to_end src p (length src) (omega arith)) ∙ rw place (get_or-drop p src i 0)

  pub byte_there : get_or (between p (length src) src) i 0 ≡ x → get_or src q 0 ≡ x
  byte_there e = sym there ∙ e

  pub no_byte_there : (get_or (between p (length src) src) i 0 ≡ x → ⊥) → get_or src q 0 ≡ x → ⊥
  no_byte_there n e = n (there ∙ e)

-- where a byte is not 0, one stands
pub stands : (src : Bytes) (p x : ℕ) → (x ≡ 0 → ⊥) → get_or src p 0 ≡ x → p < length src
stands src p x n e = ⊎_elim (λ l. l) (λ g. absurd (n (sym e ∙ get_or_past src p 0 g))) (cases_lt p (length src))

module _ (src : Bytes) (p : ℕ) where
  pub line_no_bytes : p ≡ length src → no_bytes ≡ eol_at p (drop p src)
  line_no_bytes e = sym (at_drop_all (eol_at p) src p (omega arith) ∙ no_line p)

  module _ (h : p < length src) where
    pub line_lf : get_or src p 0 ≡ 10 → eol_to (p + 1) (drop (p + 1) src) ≡ eol_at p (drop p src)
    line_lf e = rw add-one (sym (at_place (eol_at p) src p h ∙ on_lf p _ _ (eq-eqb _ _ e)))

    module _ (n : get_or src p 0 ≡ 10 → ⊥) where
      pub line_other : (get_or src p 0 ≡ 13 → ⊥) → no_eol ≡ eol_at p (drop p src)
      line_other e = sym (at_place (eol_at p) src p h ∙ on_other p _ _ (ne_eqb _ _ n) (ne_eqb _ _ e))

      module _ (r : get_or src p 0 ≡ 13) where
        behind_cr : eol_at p (drop p src) ≡ after_cr (p + 1) (drop (p + 1) src)
        behind_cr = rw add-one (at_place (eol_at p) src p h ∙ on_cr p _ _ (ne_eqb _ _ n) (eq-eqb _ _ r))

        pub line_cr_last : p + 1 ≡ length src → eol_to (p + 1) (drop (p + 1) src) ≡ eol_at p (drop p src)
        line_cr_last e =
            let l : length src ≤ p + 1 = omega arith in
            sym (behind_cr ∙ at_drop_all (after_cr (p + 1)) src (p + 1) l ∙ cr_last (p + 1) ∙ sym (at_drop_all (eol_to (p + 1)) src (p + 1) l))

        pub line_cr_lf : p + 1 < length src → get_or src (p + 1) 0 ≡ 10 → eol_to (p + 2) (drop (p + 2) src) ≡ eol_at p (drop p src)
        line_cr_lf l e =
            let i : p + 2 ≡ suc (p + 1) = omega arith in
            rw i (sym (behind_cr ∙ at_place (after_cr (p + 1)) src (p + 1) l ∙ then_lf (p + 1) _ _ (eq-eqb _ _ e)))

        pub line_cr : p + 1 < length src → (get_or src (p + 1) 0 ≡ 10 → ⊥) → eol_to (p + 1) (drop (p + 1) src) ≡ eol_at p (drop p src)
        line_cr l e =
            sym (behind_cr ∙ at_place (after_cr (p + 1)) src (p + 1) l ∙ then_other (p + 1) _ _ (ne_eqb _ _ e) ∙ sym (at_place (eol_to (p + 1)) src (p + 1) l))
