-- Bytes compared part by part.
use Rattle.std.proofs.Common.{◌≡◌, ℕ, ◌+◌, ◌-◌, ◌≤◌, Bool, true, false, ◌&&◌, eqb, [], ◌∷◌, ◌++◌, length, take, drop, sym, refl, ap, ◌∙◌, arith, length-drop, length-take, drop-drop, take-add}
use Rattle.stores.specs.Meanings.{Filled}
use Rattle.format.specs.Bytes.{Bytes, same}
use Rattle.book.proofs.Copied.{filled_front}

-- two lists of two parts, the first as long as each other
pub same_append : (xs xs' ys ys' : Bytes) → length xs ≡ length xs' → same (xs ++ ys) (xs' ++ ys') ≡ same xs xs' && same ys ys'
unfolding same
same_append [] [] ys ys' l = refl
same_append [] (y ∷ xs') ys ys' l = absurd (omega arith)
same_append (x ∷ xs) [] ys ys' l = absurd (omega arith)
same_append (x ∷ xs) (y ∷ xs') ys ys' l =
    elim (eqb x y) as (λ b. b && same (xs ++ ys) (xs' ++ ys') ≡ (b && same xs xs') && same ys ys') [
      | true ↦ same_append xs xs' ys ys' (omega arith)
      | false ↦ refl
    ]

module _ (bytes : Bytes) (a b : ℕ) where
  -- what is compared of the parts of n bytes
  abbrev pub alike : ℕ → Bool
  alike n = same (take n (drop a bytes)) (take n (drop b bytes))

  -- n bytes and m more
  pub alike_more : (n m : ℕ) → a + (n + m) ≤ length bytes → b + (n + m) ≤ length bytes →
      alike (n + m) ≡ alike n && same (take m (drop (a + n) bytes)) (take m (drop (b + n) bytes))
  alike_more n m h k =
      let la : length (take n (drop a bytes)) ≡ n = simp (length-take, length-drop) (omega arith) in
      let lb : length (take n (drop b bytes)) ≡ n = simp (length-take, length-drop) (omega arith) in
      simp take-add (same_append (take n (drop a bytes)) (take n (drop b bytes)) (take m (drop n (drop a bytes))) (take m (drop n (drop b bytes))) (la ∙ sym lb))
      ∙ ap (λ t. alike n && same (take m t) (take m (drop n (drop b bytes)))) (drop-drop n a bytes)
      ∙ ap (λ t. alike n && same (take m (drop (a + n) bytes)) (take m t)) (drop-drop n b bytes)

  -- n bytes that are alike, and m more of which the comparison is known
  pub alike_step : (n m : ℕ) (x : Bool) → a + (n + m) ≤ length bytes → b + (n + m) ≤ length bytes → alike n ≡ true → same (take m (drop (a + n) bytes)) (take m (drop (b + n) bytes)) ≡ x → alike (n + m) ≡ x
  alike_step n m x h k e f = alike_more n m h k ∙ ap (λ y. y && same (take m (drop (a + n) bytes)) (take m (drop (b + n) bytes))) e ∙ f

  -- where the first bytes differ, all of them do
  pub unlike : (n count : ℕ) → n ≤ count → a + count ≤ length bytes → b + count ≤ length bytes → alike n ≡ false → alike count ≡ false
  unlike n count h k l e =
      let c : count ≡ n + (count - n) = omega arith in
      ap alike c ∙ alike_more n (count - n) (omega arith) (omega arith) ∙ ap (λ x. x && same (take (count - n) (drop (a + n) bytes)) (take (count - n) (drop (b + n) bytes))) e

-- one stretch more, of which two windows were filled and compared
pub stretch_alike : (bytes one other was was' : Bytes) (a b n m r r' : ℕ) (x : Bool) → m ≤ r → m ≤ r' → a + (n + m) ≤ length bytes → b + (n + m) ≤ length bytes → Filled bytes (a + n) was r one → Filled bytes (b + n) was' r' other →
    alike bytes a b n ≡ true → x ≡ same (take m one) (take m other) → alike bytes a b (n + m) ≡ x
stretch_alike bytes one other was was' a b n m r r' x h k l l' f f' e q =
    let front = filled_front bytes was one (a + n) r m h f in
    let front' = filled_front bytes was' other (b + n) r' m k f' in
    alike_step bytes a b n m x l l' e (ap (λ t. same t (take m (drop (b + n) bytes))) (sym front) ∙ ap (same (take m one)) (sym front') ∙ sym q)
