-- Places of the bytes that are read, and what stands from them on.
use Rattle.std.proofs.Common.{◌≡◌, ℕ, suc, ◌+◌, ◌-◌, ◌<◌, ◌≤◌, Bool, true, false, eqb, [], ◌∷◌, ◌++◌, length, take, drop, replicate, sym, refl, ap, ◌∙◌, arith, length-append, length-drop, drop-cons}
use lib.ListN.{length-replicate}
use Rattle.std.proofs.lemmas.List.{drop_at, drop-drop}
use Rattle.format.specs.Bytes.{Bytes, Got, ok, bad, then, is_eol, is_white, span}
use Rattle.format.specs.Space.{skip}
use Rattle.objects.proofs.Cases.{cases}

-- xs are the bytes of src from the place p on
pub record At (src : Bytes) (p : ℕ) (xs : Bytes) : Type 0 where
  pub there : drop p src ≡ xs
  pub count : p + length xs ≡ length src

-- ys are those from the place q on, which is not before p
pub record Past (src : Bytes) (p q : ℕ) (ys : Bytes) : Type 0 where
  pub low : p ≤ q
  pub at : At src q ys

-- the place behind a byte
pub on : {src : Bytes} {p x : ℕ} {xs : Bytes} → At src p (x ∷ xs) → At src (suc p) xs
on {src = src} {p = p} {x = x} {xs = xs} a =
    let c = a.count in
    let h : p < length src = omega arith in
    let d = drop-cons src p 0 h in
    let e = a.there in
    record { there = cc; count = omega arith }

-- the place behind some bytes
pub over : {src : Bytes} {p : ℕ} {xs : Bytes} (n : ℕ) → n ≤ length xs → At src p xs → At src (p + n) (drop n xs)
over {src = src} {p = p} {xs = xs} n h a =
    let c = a.count in
    let l = length-drop n xs in
    record { there = sym (drop-drop n p src) ∙ ap (drop n) a.there; count = omega arith }

-- a place within the bytes
pub at_drop : (src : Bytes) (p : ℕ) → p ≤ length src → At src p (drop p src)
at_drop src p h = let l = length-drop p src in record { there = refl; count = omega arith }

-- bytes that start at any place
pub at_any : (p : ℕ) (xs : Bytes) → At (replicate {A = ℕ} p 0 ++ xs) p xs
at_any p xs =
    let l : length (replicate {A = ℕ} p 0) ≡ p = length-replicate p 0 in
    let m = length-append (replicate {A = ℕ} p 0) xs in
    record { there = drop_at (replicate {A = ℕ} p 0) xs p l; count = omega arith }

pub here : {src : Bytes} {p : ℕ} {xs : Bytes} → At src p xs → Past src p p xs
here {p = p} a = record { low = omega arith; at = a }

-- from an earlier place
pub sooner : {src : Bytes} (p r : ℕ) {q : ℕ} {ys : Bytes} → p ≤ r → Past src r q ys → Past src p q ys
sooner p r h b = let l = b.low in record { low = omega arith; at = b.at }

module _ (src : Bytes) where
  -- white space and comments
  pub skip_past : (c : Bool) (p : ℕ) (xs : Bytes) → At src p xs → Past src p (skip c p xs).0 (skip c p xs).1
  unfolding skip
  skip_past true p [] a = here a
  skip_past false p [] a = here a
  skip_past true p (x ∷ xs) a =
      cases (is_eol x)
      (λ e. rw (e, skip) (sooner p (suc p) (omega arith) (skip_past false (suc p) xs (on a))))
      (λ e. rw (e, skip) (sooner p (suc p) (omega arith) (skip_past true (suc p) xs (on a))))
  skip_past false p (x ∷ xs) a =
      cases (is_white x)
      (λ e. rw (e, skip) (sooner p (suc p) (omega arith) (skip_past false (suc p) xs (on a))))
      (λ e.
      cases (eqb x 37)
      (λ f. rw (e, f, skip) (sooner p (suc p) (omega arith) (skip_past true (suc p) xs (on a))))
      (λ f. rw (e, f, skip) (here a)))

  -- a run
  pub span_past : (f : ℕ → Bool) (p : ℕ) (xs : Bytes) → At src p xs → Past src p (span f p xs).1 (span f p xs).2
  unfolding span
  span_past f p [] a = here a
  span_past f p (x ∷ xs) a =
      cases (f x)
      (λ e. rw (e, span) (sooner p (suc p) (omega arith) (span_past f (suc p) xs (on a))))
      (λ e. rw (e, span) (here a))

-- a run is the bytes up to its end
pub span_run : (f : ℕ → Bool) (p : ℕ) (xs : Bytes) → (p ≤ (span f p xs).1) × ((span f p xs).0 ≡ take ((span f p xs).1 - p) xs)
unfolding span
span_run f p [] = let e : p - p ≡ 0 = omega arith in (omega arith, rw e refl)
span_run f p (x ∷ xs) = cases (f x) (λ e. rw (e, span) (more (span_run f (suc p) xs))) (λ e. let z : p - p ≡ 0 = omega arith in rw (e, span) (omega arith, rw z refl))
  where
    more : (suc p ≤ (span f (suc p) xs).1) × ((span f (suc p) xs).0 ≡ take ((span f (suc p) xs).1 - suc p) xs) →
        (p ≤ (span f (suc p) xs).1) × (x ∷ (span f (suc p) xs).0 ≡ take ((span f (suc p) xs).1 - p) (x ∷ xs))
    more (l, h) = let z : (span f (suc p) xs).1 - p ≡ suc ((span f (suc p) xs).1 - suc p) = omega arith in (omega arith, rw z (ap (λ w. x ∷ w) h))

-- an answer within the bytes: a place behind p where they go on, or a fault at one of their places or their end
abbrev pub Within : {A : Type 0} → Bytes → ℕ → Got A → Type 0
Within src p (ok a q ys) = (p < q) × At src q ys
Within src p (bad f) = f.place ≤ length src

-- a reader whose answers are
abbrev pub Inside : {A : Type 0} → Bytes → (ℕ → Bytes → Got A) → Type 0
Inside src r = (p : ℕ) (xs : Bytes) → At src p xs → Within src p (r p xs)

-- from an earlier place
pub earlier : {A : Type 0} (src : Bytes) (p r : ℕ) → p ≤ r → (g : Got A) → Within src r g → Within src p g
earlier src p r h (ok a q ys) (l, b) = (omega arith, b)
earlier src p r h (bad f) l = l

-- one reader after another
pub then_in : {A B : Type 0} (src : Bytes) (p : ℕ) (r : Got A) (k : A → ℕ → Bytes → Got B) → Within src p r → ((a : A) (q : ℕ) (ys : Bytes) → p < q → At src q ys → Within src p (k a q ys)) →
    Within src p (then r k)
then_in src p (ok a q ys) k (l, b) h = h a q ys l b
then_in src p (bad f) k l h = l
