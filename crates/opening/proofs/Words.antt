-- Ends of line and words, at a place of the window.
use Rattle.std.proofs.Common.{◌≡◌, ℕ, suc, ◌+◌, ◌<◌, ◌≤◌, true, false, cond, eqb, [], ◌∷◌, length, drop, Ok, Err, Result, IfOk, sym, refl, ap, ◌∙◌, arith}
use Rattle.std.specs.Prelude.{nat_eq}
use Rattle.std.specs.List.{starts_with}
use Rattle.std.proofs.lemmas.Bool.{eq-eqb, ne_eqb, eqb-true}
use Rattle.format.specs.Bytes.{Bytes}
use Rattle.format.specs.Space.{Eol, no_bytes, no_eol, eol_to, after_cr, eol_at}
use Rattle.format.specs.Lines.{took, short, misfit, eol_piece, eol, exact}
use Rattle.lexer.specs.declared.line.Lack.{Lack}
use Rattle.lexer.specs.declared.line.Lack.TheVariants.{Short, Misfit}
use Rattle.lexer.specs.Endings.{line_shown}
use Rattle.locality.proofs.Cases.{cases}
use Rattle.locality.proofs.Tests.{not_no}
use Rattle.opening.specs.Parts.{passed, PassesWithin}
use Rattle.opening.proofs.Places.{place_on}

-- the same end of line, counted from a place further in front
abbrev shifted : ℕ → Eol → Eol
shifted base no_bytes = no_bytes
shifted base no_eol = no_eol
shifted base (eol_to q xs) = eol_to (base + q) xs

module _ (base p : ℕ) where
  cr_shifted : (xs : Bytes) → after_cr (suc (base + p)) xs ≡ shifted base (after_cr (suc p) xs)
  unfolding after_cr
  cr_shifted [] = let i : suc (base + p) ≡ base + suc p = omega arith in ap (λ q. eol_to q []) i
  cr_shifted (x ∷ xs) =
      let i : suc (base + p) ≡ base + suc p = omega arith in
      let j : suc (suc (base + p)) ≡ base + suc (suc p) = omega arith in
      cases (eqb x 10) (λ e. rw (e, after_cr) (ap (λ q. eol_to q xs) j)) (λ e. rw (e, after_cr) (ap (λ q. eol_to q (x ∷ xs)) i))

  eol_shifted : (xs : Bytes) → eol_at (base + p) xs ≡ shifted base (eol_at p xs)
  unfolding eol_at
  eol_shifted [] = refl
  eol_shifted (x ∷ xs) =
      let i : suc (base + p) ≡ base + suc p = omega arith in
      cases (eqb x 10)
      (λ e. rw (e, eol_at) (ap (λ q. eol_to q xs) i))
      (λ e. cases (eqb x 13) (λ f. rw (e, f, eol_at) (cr_shifted xs)) (λ f. rw (e, f, eol_at)))

-- an end of line that was read, at a place of the window
pub eol_read : (src : Bytes) (p base : ℕ) (r : Result ℕ Lack) → line_shown src r ≡ eol_at p (drop p src) → eol (base + p) (drop p src) ≡ passed base src r
unfolding eol eol_piece
eol_read src p base (Ok q) e = ap eol_piece (eol_shifted base p (drop p src) ∙ ap (shifted base) (sym e))
eol_read src p base (Err Short) e = ap eol_piece (eol_shifted base p (drop p src) ∙ ap (shifted base) (sym e))
eol_read src p base (Err Misfit) e = ap eol_piece (eol_shifted base p (drop p src) ∙ ap (shifted base) (sym e))

pub eol_within : (src : Bytes) (p : ℕ) (r : Result ℕ Lack) → IfOk r (λ q. (p < q) × (q ≤ length src)) → PassesWithin src p r
eol_within src p (Ok q) (a, b) = (omega arith, b)
eol_within src p (Err e) h = tt

-- A word in front of bytes, by whether they begin with it, and it with them.
exact_by : (word xs : Bytes) (p : ℕ) → exact word p xs ≡ cond (starts_with nat_eq xs word) (took tt (p + length word) (drop (length word) xs)) (cond (starts_with nat_eq word xs) short misfit)
unfolding exact
exact_by [] xs p = let z : p ≡ p + 0 = omega arith in ap (λ (q : ℕ). took tt q xs) z
exact_by (w ∷ ws) [] p = refl
exact_by (w ∷ ws) (x ∷ xs) p =
    cases (eqb w x)
    (λ e.
    let f : eqb x w ≡ true = eq-eqb x w (sym (eqb-true w x e)) in
    let z : suc p + length ws ≡ p + suc (length ws) = omega arith in
    rw (e, f, exact)
    (exact_by ws xs (suc p)
    ∙ ap (λ (q : ℕ). cond (starts_with nat_eq xs ws) (took tt q (drop (length ws) xs)) (cond (starts_with nat_eq ws xs) short misfit)) z))
    (λ e.
    let f : eqb x w ≡ false = ne_eqb x w (λ g. not_no (eqb w x) e (eq-eqb w x (sym g))) in
    rw (e, f, exact))

module _ (word src : Bytes) (p base : ℕ) where
  pub exact_took : true ≡ starts_with nat_eq (drop p src) word → exact word (base + p) (drop p src) ≡ took tt (base + (p + length word)) (drop (p + length word) src)
  exact_took e =
      exact_by word (drop p src) (base + p)
      ∙ ap (λ b. cond b (took tt (base + p + length word) (drop (length word) (drop p src))) (cond (starts_with nat_eq word (drop p src)) short misfit)) (sym e)
      ∙ place_on (took tt) src base p (length word)

  pub exact_short : false ≡ starts_with nat_eq (drop p src) word → true ≡ starts_with nat_eq word (drop p src) → exact word (base + p) (drop p src) ≡ short
  exact_short e f =
      exact_by word (drop p src) (base + p)
      ∙ ap (λ b. cond b (took tt (base + p + length word) (drop (length word) (drop p src))) (cond (starts_with nat_eq word (drop p src)) short misfit)) (sym e)
      ∙ ap (λ b. cond b short misfit) (sym f)

  pub exact_misfit : false ≡ starts_with nat_eq (drop p src) word → false ≡ starts_with nat_eq word (drop p src) → exact word (base + p) (drop p src) ≡ misfit
  exact_misfit e f =
      exact_by word (drop p src) (base + p)
      ∙ ap (λ b. cond b (took tt (base + p + length word) (drop (length word) (drop p src))) (cond (starts_with nat_eq word (drop p src)) short misfit)) (sym e)
      ∙ ap (λ b. cond b short misfit) (sym f)
