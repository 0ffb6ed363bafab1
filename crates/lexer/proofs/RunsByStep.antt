-- Runs of bytes that pass a test, byte by byte from a place of the whole bytes.
use Rattle.std.proofs.Common.{◌≡◌, ℕ, suc, ◌+◌, ◌-◌, ◌<◌, ◌≤◌, Bool, true, false, [], ◌∷◌, ◌++◌, length, get_or, drop, sym, refl, ap, ◌∙◌, append_assoc, append-nil, add-one, arith, length-drop, get_or-drop}
use Rattle.std.proofs.lemmas.List.{at_drop_all, take_more}
use Rattle.format.specs.Bytes.{Bytes, span, up_to}
use Rattle.lexer.proofs.Places.{at_place}

-- a run behind the bytes ys
abbrev pub fronted : Bytes → (Bytes × ℕ × Bytes) → (Bytes × ℕ × Bytes)
fronted ys r = (ys ++ r.0, r.1, r.2)

module _ (f : ℕ → Bool) where
  span_on : (p x : ℕ) (xs : Bytes) → f x ≡ true → span f p (x ∷ xs) ≡ fronted (x ∷ []) (span f (suc p) xs)
  unfolding span
  span_on p x xs e = rw (e, span)

  span_stop : (p x : ℕ) (xs : Bytes) → f x ≡ false → span f p (x ∷ xs) ≡ ([], p, x ∷ xs)
  unfolding span
  span_stop p x xs e = rw (e, span)

  span_none : (p : ℕ) → span f p [] ≡ ([], p, [])
  unfolding span
  span_none p = refl

  -- the run from p on is the bytes from p to q, and then the run from q on
  abbrev pub RunTo : Bytes → ℕ → ℕ → Type 0
  RunTo src p q = span f p (drop p src) ≡ fronted (up_to p (drop p src) q) (span f q (drop q src))

  pub run_none : (src : Bytes) (p : ℕ) → RunTo src p p
  unfolding up_to
  run_none src p = let e : p - p ≡ 0 = omega arith in rw e

  one_more : (src : Bytes) (p q : ℕ) → p ≤ q → q < length src → up_to p (drop p src) (q + 1) ≡ up_to p (drop p src) q ++ get_or src q 0 ∷ []
  unfolding up_to
  one_more src p q h l =
      let i : q + 1 - p ≡ (q - p) + 1 = omega arith in
      let j : p + (q - p) ≡ q = omega arith in
      let k : q - p < length (drop p src) = simp length-drop (omega arith) in
      rw (i, take_more (drop p src) (q - p) 0 k, get_or-drop, j)

  pub run_more : (src : Bytes) (p q : ℕ) → p ≤ q → q < length src → f (get_or src q 0) ≡ true → RunTo src p q → RunTo src p (q + 1)
  run_more src p q h l e was =
      rw (one_more src p q h l, add-one, append_assoc)
      (was ∙ ap (fronted (up_to p (drop p src) q)) (at_place (span f q) src q l ∙ span_on q _ _ e))

  pub run_stops : (src : Bytes) (p q : ℕ) → q < length src → f (get_or src q 0) ≡ false → RunTo src p q → span f p (drop p src) ≡ (up_to p (drop p src) q, q, drop q src)
  run_stops src p q l e was =
      was
      ∙ ap (fronted (up_to p (drop p src) q)) (at_place (span f q) src q l ∙ span_stop q _ _ e)
      ∙ rw append-nil (ap (λ r. (up_to p (drop p src) q, q, r)) (sym (at_place (λ r. r) src q l)))

  pub run_ends : (src : Bytes) (p q : ℕ) → length src ≤ q → RunTo src p q → span f p (drop p src) ≡ (up_to p (drop p src) q, q, drop q src)
  run_ends src p q l was =
      was
      ∙ ap (fronted (up_to p (drop p src) q)) (at_drop_all (span f q) src q l ∙ span_none q)
      ∙ rw append-nil (ap (λ r. (up_to p (drop p src) q, q, r)) (sym (at_drop_all (λ r. r) src q l)))
