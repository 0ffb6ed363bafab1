-- Runs of bytes that pass a test, at a place of the whole bytes.
use Rattle.std.proofs.Common.{◌≡◌, ℕ, suc, ◌+◌, ◌-◌, ◌<◌, ◌≤◌, Bool, true, false, not, cond, ltb, [], ◌∷◌, ◌++◌, length, get_or, take, drop, Some, None, Option, sym, refl, ap, ◌∙◌, arith, length-drop, get_or-drop, drop-drop}
use Rattle.std.specs.List.{between, position, position_or_len}
use Rattle.std.specs.Option.{unwrap_or}
use Rattle.std.proofs.lemmas.List.Sums.{prefix_len-le-length, passes_at_first}
use Rattle.std.proofs.lemmas.Bool.{ltb-false}
use Rattle.std.proofs.lemmas.Slice.{between_to_end}
use Rattle.format.specs.Bytes.{Bytes, span, up_to}
use Rattle.lexer.proofs.Cases.{cases}

not_true : (b : Bool) → not b ≡ true → b ≡ false
not_true true e = sym e
not_true false e = refl

-- a run behind the bytes ys
abbrev pub fronted : Bytes → (Bytes × ℕ × Bytes) → (Bytes × ℕ × Bytes)
fronted ys r = (ys ++ r.0, r.1, r.2)

module _ (f : ℕ → Bool) where
  span_on : (p x : ℕ) (xs : Bytes) → f x ≡ true → span f p (x ∷ xs) ≡ fronted (x ∷ []) (span f (suc p) xs)
  unfolding span
  span_on p x xs e = rw (e, span)

  span_stop : (p x : ℕ) (xs : Bytes) → f x ≡ false → span f p (x ∷ xs) ≡ ([], p, x ∷ xs)
  unfolding span
  span_stop p x xs e = rw (e, span)

  span_none : (p : ℕ) → span f p [] ≡ ([], p, [])
  unfolding span
  span_none p = refl

  -- how many bytes in front pass the test
  abbrev pub passing : Bytes → ℕ
  passing xs = position_or_len (λ x. not (f x)) xs

  pub passing_on : (x : ℕ) (xs : Bytes) → f x ≡ true → passing (x ∷ xs) ≡ suc (passing xs)
  passing_on x xs e = rw e (omega arith)

  pub passing_off : (x : ℕ) (xs : Bytes) → f x ≡ false → passing (x ∷ xs) ≡ 0
  passing_off x xs e = rw e refl

  -- the place of the first byte that does not, or else the length
  pub first_is : (xs : Bytes) (r : Option ℕ) (n : ℕ) → r ≡ position (λ x. not (f x)) xs → n ≡ unwrap_or r (length xs) → n ≡ passing xs
  first_is xs r n e h =
      cases (ltb (passing xs) (length xs))
      (λ t. h ∙ ap (λ (o : Option ℕ). unwrap_or o (length xs)) (e ∙ ap (λ b. cond b (Some (passing xs)) None) t))
      (λ t.
      let g : n ≡ length xs = h ∙ ap (λ (o : Option ℕ). unwrap_or o (length xs)) (e ∙ ap (λ b. cond b (Some (passing xs)) None) t) in
      omega (arith, ltb-false (passing xs) (length xs) t, prefix_len-le-length (λ x. not (not (f x))) xs))

  run_is : (p : ℕ) (xs : Bytes) → span f p xs ≡ (take (passing xs) xs, p + passing xs, drop (passing xs) xs)
  run_is p [] = let i : p ≡ p + 0 = omega arith in span_none p ∙ ap (λ q. ([], q, [])) i
  run_is p (x ∷ xs) =
      let n = passing xs in
      cases (f x)
      (λ e.
      let i : suc p + n ≡ p + suc n = omega arith in
      span_on p x xs e
      ∙ ap (fronted (x ∷ [])) (run_is (suc p) xs)
      ∙ ap (λ q. (x ∷ take n xs, q, drop n xs)) i
      ∙ ap (λ k. (take k (x ∷ xs), p + k, drop k (x ∷ xs))) (sym (passing_on x xs e)))
      (λ e.
      let i : p ≡ p + 0 = omega arith in
      span_stop p x xs e
      ∙ ap (λ q. ([], q, x ∷ xs)) i
      ∙ ap (λ k. (take k (x ∷ xs), p + k, drop k (x ∷ xs))) (sym (passing_off x xs e)))

  module _ (src : Bytes) (p n : ℕ) (found : n ≡ passing (between p (length src) src)) where
    -- the same of the bytes from p on
    pub found_there : n ≡ passing (drop p src)
    found_there = found ∙ ap passing (between_to_end src p (length src) (omega arith))

    pub run_found : span f p (drop p src) ≡ (up_to p (drop p src) (p + n), p + n, drop (p + n) src)
    unfolding up_to
    run_found =
        let k : p + n - p ≡ n = omega arith in
        rw k (
        run_is p (drop p src)
        ∙ ap (λ k. (take k (drop p src), p + k, drop k (drop p src))) (sym found_there)
        ∙ ap (λ r. (take n (drop p src), p + n, r)) (drop-drop n p src))

    pub run_within : p ≤ length src → p + n ≤ length src
    run_within h =
        let l : length (drop p src) ≡ length src - p = length-drop p src in
        omega (arith, found_there, prefix_len-le-length (λ x. not (not (f x))) (drop p src))

    -- the byte behind them does not pass
    pub run_stops : p + n < length src → f (get_or src (p + n) 0) ≡ false
    run_stops h =
        let l : n < length (drop p src) = rw (length-drop p src) (omega arith) in
        let m : passing (drop p src) < length (drop p src) = rw (sym found_there) l in
        let b = passes_at_first (λ x. not (f x)) (drop p src) 0 m in
        not_true (f (get_or src (p + n) 0)) (rw (sym found_there, get_or-drop) at b)
