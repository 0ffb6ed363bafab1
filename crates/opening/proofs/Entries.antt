-- The mark and the end of an entry, at a place of the window.
use Rattle.std.proofs.Common.{◌≡◌, ℕ, suc, ◌+◌, ◌-◌, ◌<◌, ◌≤◌, true, false, ◌||◌, eqb, [], ◌∷◌, length, get_or, take, drop, sym, refl, ap, ◌∙◌, arith}
use Rattle.std.proofs.lemmas.List.{at_drop_all, at_drop_more}
use Rattle.std.proofs.lemmas.Bool.{eq-eqb, ne_eqb}
use Rattle.format.specs.Bytes.{Bytes}
use Rattle.format.specs.Lines.{took, short, misfit, use_mark, slot_end, slot_ends}
use Rattle.opening.proofs.Places.{one_on, two_on, byte_on}

module _ (p x : ℕ) (xs : Bytes) where
  n_here : eqb x 110 ≡ true → use_mark p (x ∷ xs) ≡ took true (suc p) xs
  unfolding use_mark
  n_here e = rw (e, use_mark)

  f_here : eqb x 110 ≡ false → eqb x 102 ≡ true → use_mark p (x ∷ xs) ≡ took false (suc p) xs
  unfolding use_mark
  f_here e f = rw (e, f, use_mark)

  other_here : eqb x 110 ≡ false → eqb x 102 ≡ false → use_mark p (x ∷ xs) ≡ misfit
  unfolding use_mark
  other_here e f = rw (e, f, use_mark)

  last_short : (eqb x 32 || eqb x 13) ≡ true → slot_end p (x ∷ []) ≡ short
  unfolding slot_end
  last_short e = rw (e, slot_end)

  last_misfit : (eqb x 32 || eqb x 13) ≡ false → slot_end p (x ∷ []) ≡ misfit
  unfolding slot_end
  last_misfit e = rw (e, slot_end)

  two_fit : (y : ℕ) → slot_ends x y ≡ true → slot_end p (x ∷ y ∷ xs) ≡ took tt (suc (suc p)) xs
  unfolding slot_end
  two_fit y e = rw (e, slot_end)

  two_misfit : (y : ℕ) → slot_ends x y ≡ false → slot_end p (x ∷ y ∷ xs) ≡ misfit
  unfolding slot_end
  two_misfit y e = rw (e, slot_end)

module _ (src : Bytes) (p base : ℕ) where
  pub mark_short : length src ≤ p → use_mark (base + p) (drop p src) ≡ short
  unfolding use_mark
  mark_short h = at_drop_all (use_mark (base + p)) src p h

  pub mark_n : p < length src → get_or src p 0 ≡ 110 → use_mark (base + p) (drop p src) ≡ took true (base + (p + 1)) (drop (p + 1) src)
  mark_n h e = at_drop_more (use_mark (base + p)) src p 0 h ∙ n_here _ _ _ (eq-eqb _ _ e) ∙ one_on (λ q. took true q (drop (p + 1) src)) base p

  pub mark_f : p < length src → (get_or src p 0 ≡ 110 → ⊥) → get_or src p 0 ≡ 102 → use_mark (base + p) (drop p src) ≡ took false (base + (p + 1)) (drop (p + 1) src)
  mark_f h d e = at_drop_more (use_mark (base + p)) src p 0 h ∙ f_here _ _ _ (ne_eqb _ _ d) (eq-eqb _ _ e) ∙ one_on (λ q. took false q (drop (p + 1) src)) base p

  pub mark_misfit : p < length src → (get_or src p 0 ≡ 110 → ⊥) → (get_or src p 0 ≡ 102 → ⊥) → use_mark (base + p) (drop p src) ≡ misfit
  mark_misfit h d e = at_drop_more (use_mark (base + p)) src p 0 h ∙ other_here _ _ _ (ne_eqb _ _ d) (ne_eqb _ _ e)

  pub end_short : length src ≤ p → slot_end (base + p) (drop p src) ≡ short
  unfolding slot_end
  end_short h = at_drop_all (slot_end (base + p)) src p h

  -- the bytes there, as the code reads them
  abbrev byte : ℕ → ℕ
  byte i = get_or (take (length src - p) (drop p src)) i 0

  one_left : p + 1 ≡ length src → slot_end (base + p) (drop p src) ≡ slot_end (base + p) (byte 0 ∷ [])
  one_left h =
      let i : p < length src = omega arith in
      let j : length src ≤ p + 1 = omega arith in
      at_drop_more (slot_end (base + p)) src p 0 i
      ∙ at_drop_all (λ r. slot_end (base + p) (get_or src p 0 ∷ r)) src (p + 1) j
      ∙ ap (λ x. slot_end (base + p) (x ∷ [])) (sym (byte_on src p 0 p (omega arith)))

  pub end_one_short : p + 1 ≡ length src → (eqb (byte 0) 32 || eqb (byte 0) 13) ≡ true → slot_end (base + p) (drop p src) ≡ short
  end_one_short h e = one_left h ∙ last_short _ _ [] e

  pub end_one_misfit : p + 1 ≡ length src → (eqb (byte 0) 32 || eqb (byte 0) 13) ≡ false → slot_end (base + p) (drop p src) ≡ misfit
  end_one_misfit h e = one_left h ∙ last_misfit _ _ [] e

  two_left : p + 1 < length src → slot_end (base + p) (drop p src) ≡ slot_end (base + p) (byte 0 ∷ byte 1 ∷ drop (p + 2) src)
  two_left h =
      let i : p < length src = omega arith in
      let q : p + 1 + 1 ≡ p + 2 = omega arith in
      at_drop_more (slot_end (base + p)) src p 0 i
      ∙ at_drop_more (λ r. slot_end (base + p) (get_or src p 0 ∷ r)) src (p + 1) 0 h
      ∙ ap (λ k. slot_end (base + p) (get_or src p 0 ∷ get_or src (p + 1) 0 ∷ drop k src)) q
      ∙ ap (λ x. slot_end (base + p) (x ∷ get_or src (p + 1) 0 ∷ drop (p + 2) src)) (sym (byte_on src p 0 p (omega arith)))
      ∙ ap (λ y. slot_end (base + p) (byte 0 ∷ y ∷ drop (p + 2) src)) (sym (byte_on src p 1 (p + 1) refl))

  pub end_two : p + 1 < length src → slot_ends (byte 0) (byte 1) ≡ true → slot_end (base + p) (drop p src) ≡ took tt (base + (p + 2)) (drop (p + 2) src)
  end_two h e = two_left h ∙ two_fit _ _ _ _ e ∙ two_on (λ q. took tt q (drop (p + 2) src)) base p

  pub end_two_misfit : p + 1 < length src → slot_ends (byte 0) (byte 1) ≡ false → slot_end (base + p) (drop p src) ≡ misfit
  end_two_misfit h e = two_left h ∙ two_misfit _ _ _ _ e
