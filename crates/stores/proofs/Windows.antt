-- A part of a list, one item further and at its end.
use Rattle.std.proofs.Common.{◌≡◌, ℕ, ◌+◌, ◌-◌, ◌<◌, ◌≤◌, List, [], ◌∷◌, ◌++◌, length, get_or, take, drop, set, Some, None, sym, ap, ◌∙◌, ⊎_elim, append_assoc, arith, length-drop, length-take}
use lib.Seq.{drop-append-add, drop-append-le, take-append-add, take-append-le}
use Rattle.std.specs.List.{slice_get}
use Rattle.std.proofs.lemmas.List.{append-nil, drop_all, drop_more, get_or-drop, set_at, take_all, take_more, take-take}
use Rattle.std.proofs.lemmas.Option.{slice_get-get_or}
use Rattle.std.proofs.lemmas.Slice.{between_is}
use Rattle.std.proofs.lemmas.Bool.{cases_lt}

module _ (xs : List ℕ) (off : ℕ) where
  -- the window is one byte longer
  pub window_more : (i b : ℕ) → off + i < length xs → Some b ≡ slice_get xs (off + i) → take i (drop off xs) ++ b ∷ [] ≡ take (i + 1) (drop off xs)
  window_more i b h e =
      let l : i < length (drop off xs) = simp length-drop (omega arith) in
      let at = slice_get-get_or xs (off + i) 0 h in
      let is : b ≡ get_or (drop off xs) i 0 = cc (get_or-drop off xs i 0) in
      ap (λ x. take i (drop off xs) ++ x ∷ []) is ∙ sym (take_more (drop off xs) i 0 l)

  -- one more byte of the window is written into the buffer
  pub filled_more : (was is : List ℕ) (i b : ℕ) → is ≡ take i (drop off xs) ++ drop i was → i < length was → off + i < length xs → Some b ≡ slice_get xs (off + i) → set is i b ≡ take (i + 1) (drop off xs) ++ drop (i + 1) was
  filled_more was is i b so_far l h e =
      let long : length (take i (drop off xs)) ≡ i = simp (length-take, length-drop) (omega arith) in
      ap (λ t. set t i b) (so_far ∙ ap (λ t. take i (drop off xs) ++ t) (drop_more was i 0 l))
      ∙ set_at (take i (drop off xs)) _ (drop (i + 1) was) b i long
      ∙ sym (append_assoc (take i (drop off xs)) (b ∷ []) (drop (i + 1) was))
      ∙ ap (λ t. t ++ drop (i + 1) was) (window_more i b h e)

  -- there is a byte at each place of the window
  pub window_never : (i : ℕ) → off + i < length xs → None ≡ slice_get xs (off + i) → ⊥
  window_never i h e =
      let at = slice_get-get_or xs (off + i) 0 h in
      let z : ◌≡◌ {A = ℕ} 0 1 = cc in omega arith

-- a part that ends within the first m items is a part of those
pub front_window : (xs : List ℕ) (m off n : ℕ) → n ≤ m - off → take n (drop off (take m xs)) ≡ take n (drop off xs)
front_window xs m off n h = ap (take n) (sym (between_is xs off m)) ∙ take-take n (m - off) (drop off xs) h

-- what is left of two lists joined
pub drop_append : (xs ys : List ℕ) (n : ℕ) → drop n (xs ++ ys) ≡ drop n xs ++ drop (n - length xs) ys
drop_append xs ys n =
    ⊎_elim
    (λ (h : n < length xs). let e : 0 ≡ n - length xs = omega arith in drop-append-le n xs ys (omega arith) ∙ ap (λ k. drop n xs ++ drop k ys) e)
    (λ (h : length xs ≤ n). let e : n ≡ length xs + (n - length xs) = omega arith in ap (λ k. drop k (xs ++ ys)) e ∙ drop-append-add xs ys (n - length xs) ∙ ap (λ t. t ++ drop (n - length xs) ys) (sym (drop_all n xs h)))
    (cases_lt n (length xs))

-- a part over two lists: a items of the first, and if they are all that it has from `off` on, r of the second
pub window_join : (xs ys : List ℕ) (off a r : ℕ) → a ≤ length xs - off → (a < length xs - off → r ≡ 0) → take a (drop off xs) ++ take r (drop (off - length xs) ys) ≡ take (a + r) (drop off (xs ++ ys))
window_join xs ys off a r h stop =
    let rest = drop (off - length xs) ys in
    ⊎_elim
    (λ (l : a < length xs - off).
    let none : r ≡ 0 = stop l in
    let same : a ≡ a + r = omega arith in
    let k : a + r ≤ length (drop off xs) = simp length-drop (omega arith) in
    ap (λ n. take a (drop off xs) ++ take n rest) none ∙ append-nil _ ∙ ap (λ n. take n (drop off xs)) same ∙ sym (take-append-le (a + r) (drop off xs) rest k) ∙ ap (take (a + r)) (sym (drop_append xs ys off)))
    (λ (l : length xs - off ≤ a).
    let k : length (drop off xs) ≤ a = simp length-drop (omega arith) in
    let e : a + r ≡ length (drop off xs) + r = simp length-drop (omega arith) in
    ap (λ t. t ++ take r rest) (take_all a (drop off xs) k) ∙ sym (ap (λ n. take n (drop off (xs ++ ys))) e ∙ ap (take (length (drop off xs) + r)) (drop_append xs ys off) ∙ take-append-add (drop off xs) rest r))
    (cases_lt a (length xs - off))
