-- White space and runs, at a place of the whole bytes.
use Rattle.std.proofs.Common.{◌≡◌, ℕ, suc, ◌+◌, ◌<◌, ◌≤◌, Bool, true, false, not, eqb, [], ◌∷◌, length, get_or, drop, sym, refl, ◌∙◌, add-one}
use Rattle.std.proofs.lemmas.List.{at_drop_all}
use Rattle.std.proofs.lemmas.Bool.{eq-eqb, ne_eqb}
use Rattle.lexer.proofs.Places.{at_place}
use Rattle.format.specs.Bytes.{Bytes, is_white, is_eol}
use Rattle.format.specs.Space.{skip}

-- The state behind one more byte: whether a comment is open.
module _ (p x : ℕ) (xs : Bytes) where
  in_comment_fact : (e : Bool) → is_eol x ≡ e → skip true p (x ∷ xs) ≡ skip (not e) (suc p) xs
  unfolding skip
  in_comment_fact true e = rw (e, skip)
  in_comment_fact false e = rw (e, skip)

  on_white : is_white x ≡ true → skip false p (x ∷ xs) ≡ skip false (suc p) xs
  unfolding skip
  on_white w = rw (w, skip)

  on_percent : is_white x ≡ false → eqb x 37 ≡ true → skip false p (x ∷ xs) ≡ skip true (suc p) xs
  unfolding skip
  on_percent w e = rw (w, e, skip)

  stops_here : is_white x ≡ false → eqb x 37 ≡ false → skip false p (x ∷ xs) ≡ (p, x ∷ xs)
  unfolding skip
  stops_here w e = rw (w, e, skip)

skip_none : (c : Bool) (p : ℕ) → skip c p [] ≡ (p, [])
unfolding skip
skip_none true p = refl
skip_none false p = refl

-- white space from a place of the bytes on
abbrev pub skip_at : Bool → Bytes → ℕ → (ℕ × Bytes)
skip_at c src p = skip c p (drop p src)

module _ (src : Bytes) (p : ℕ) {z : ℕ × Bytes} where
  -- inside a comment, an end of line ends it
  pub comment_more : (c d e : Bool) → c ≡ true → d ≡ not e → p < length src → e ≡ is_eol (get_or src p 0) → skip_at c src p ≡ z → skip_at d src (p + 1) ≡ z
  comment_more c d e ct dt h q was =
      rw (add-one, dt) (sym (at_place (skip true p) src p h ∙ in_comment_fact p _ _ e (sym q)) ∙ (rw ct at was))

  pub white_more : (c d : Bool) → c ≡ false → d ≡ c → p < length src → is_white (get_or src p 0) ≡ true → skip_at c src p ≡ z → skip_at d src (p + 1) ≡ z
  white_more c d cf dc h q was = rw (add-one, dc, cf) (sym (at_place (skip false p) src p h ∙ on_white p _ _ q) ∙ (rw cf at was))

  pub percent_more : (c d : Bool) → c ≡ false → d ≡ true → p < length src → is_white (get_or src p 0) ≡ false → get_or src p 0 ≡ 37 → skip_at c src p ≡ z → skip_at d src (p + 1) ≡ z
  percent_more c d cf dt h q e was = rw (add-one, dt) (sym (at_place (skip false p) src p h ∙ on_percent p _ _ q (eq-eqb _ _ e)) ∙ (rw cf at was))

  pub space_stops : (c : Bool) → c ≡ false → p < length src → is_white (get_or src p 0) ≡ false → (get_or src p 0 ≡ 37 → ⊥) → skip_at c src p ≡ z → z ≡ (p, drop p src)
  space_stops c cf h q e was =
      sym (rw cf at was) ∙ at_place (skip false p) src p h ∙ stops_here p _ _ q (ne_eqb _ _ e) ∙ sym (at_place (λ r. (p, r)) src p h)

  pub space_ends : (c : Bool) → length src ≤ p → skip_at c src p ≡ z → z ≡ (p, drop p src)
  space_ends c h was = sym was ∙ at_drop_all (skip c p) src p h ∙ skip_none c p ∙ sym (at_drop_all (λ r. (p, r)) src p h)
