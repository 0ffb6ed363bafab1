-- The first m of xs, or all of them, and then the first u of ys, read into a buffer.
use Rattle.std.proofs.Common.{◌≡◌, ℕ, ◌+◌, ◌-◌, ◌≤◌, min, List, ◌++◌, length, take, drop, sym, ap, ◌∙◌, append_assoc, arith, length-append, length-drop, length-take}
use Rattle.std.proofs.lemmas.List.{append-nil, drop_all, drop_at, drop-drop, length-take-le, take_all, take_at}
use Rattle.stores.specs.Meanings.{Filled}
use Rattle.stores.proofs.Windows.{front_window, window_join}

module _ (m u : ℕ) (xs ys : List ℕ) (h : u ≤ length ys) where
  abbrev base : ℕ
  base = min m (length xs)

  abbrev row : List ℕ
  row = take m xs ++ take u ys

  -- its length
  pub row_length : length row ≡ base + u
  row_length = simp (length-append, length-take) (omega arith)

  -- a window read from the first list into the front of a buffer, and from the second into what is left of it
  pub row_read : (off a start r₁ r₂ : ℕ) (was p q : List ℕ) → a ≡ min (length was) (base - off) → start ≡ off - base → Filled xs off (take a was) r₁ p → Filled (take u ys) start (take (length (p ++ drop a was) - a) (drop a (p ++ drop a was))) r₂ q → Filled row off was (a + r₂) (take a (p ++ drop a was) ++ (q ++ drop (length (p ++ drop a was) - a) (drop a (p ++ drop a was))))
  row_read off a start r₁ r₂ was p q ea es first second =
      let front = take m xs in
      let between = p ++ drop a was in
      let left = length between - a in
      let long : length front ≡ base = length-take m xs in
      let room : length (take a was) ≡ a = length-take-le a was (omega arith) in
      let whole : r₁ ≡ a = omega (arith, first.count_is) in
      let p-is : p ≡ take a (drop off front) =
      first.after_is
      ∙ ap (λ k. take k (drop off xs) ++ drop k (take a was)) whole
      ∙ ap (λ t. take a (drop off xs) ++ t) (drop_all a (take a was) (omega arith))
      ∙ append-nil _
      ∙ sym (front_window xs m off a (omega arith)) in
      let p-long : length p ≡ a = ap length p-is ∙ simp (length-take, length-drop) (omega arith) in
      let rest : drop a between ≡ drop a was = drop_at p (drop a was) a p-long in
      let part : take left (drop a between) ≡ drop a was = take_all left (drop a between) (simp length-drop (omega arith)) ∙ rest in
      let part_long : length (take left (drop a between)) ≡ length was - a = ap length part ∙ length-drop a was in
      let tail-long : length (take u ys) ≡ u = length-take-le u ys h in
      let place : start ≡ off - length front = omega arith in
      let seen = take r₂ (drop (off - length front) (take u ys)) in
      let q-is : q ≡ seen ++ drop (a + r₂) was =
      second.after_is
      ∙ ap (λ t. take r₂ (drop start (take u ys)) ++ drop r₂ t) part
      ∙ ap (λ k. take r₂ (drop k (take u ys)) ++ drop r₂ (drop a was)) place
      ∙ ap (λ t. seen ++ t) (drop-drop r₂ a was) in
      record {
        count_is = omega (arith, row_length, second.count_is);
        after_is = ap (λ t. t ++ (q ++ drop left (drop a between))) (take_at p (drop a was) a p-long)
            ∙ ap (λ t. p ++ (q ++ t)) (drop_all left (drop a between) (simp length-drop (omega arith)))
            ∙ ap (λ t. p ++ t) (append-nil q ∙ q-is)
            ∙ ap (λ t. t ++ (seen ++ drop (a + r₂) was)) p-is
            ∙ sym (append_assoc (take a (drop off front)) seen (drop (a + r₂) was))
            ∙ ap (λ t. t ++ drop (a + r₂) was) (window_join front (take u ys) off a r₂ (omega arith) (λ l. omega (arith, second.count_is)));
      }
