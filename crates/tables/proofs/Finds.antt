-- Places of lists, and the rows of numbers. Assumes nothing.
use Rattle.std.proofs.Common.{◌≡◌, ℕ, zero, suc, ◌<◌, ◌≤◌, true, false, List, [], ◌∷◌, ◌++◌, length, drop, set, Some, None, Option, sym, refl, ap, arith, eq-eqb, ne_eqb}
use Rattle.format.specs.Revisions.{find, nth}

-- nothing is both found and not found
pub some_none : {A B : Type 0} {a : A} → ◌≡◌ {A = Option A} (Some a) None → B
some_none e = let z : ◌≡◌ {A = ℕ} 0 1 = cc in absurd (omega arith)

pub true_false : {B : Type 0} → true ≡ false → B
true_false e = let z : ◌≡◌ {A = ℕ} 0 1 = cc in absurd (omega arith)

-- a row of the number itself is found
pub find_here : {A : Type 0} (n : ℕ) (r : ℕ × A) (rs : List (ℕ × A)) → r.0 ≡ n → find n (r ∷ rs) ≡ Some r.1
unfolding find
find_here n r rs e = rw (eq-eqb n r.0 (sym e), find) refl

-- a row of another number is passed over
pub find_past : {A : Type 0} (n : ℕ) (r : ℕ × A) (rs : List (ℕ × A)) → (n ≡ r.0 → ⊥) → find n (r ∷ rs) ≡ find n rs
unfolding find
find_past n r rs h = rw (ne_eqb n r.0 h, find) refl

-- what stands at a place stands within the list
pub nth_below : {A : Type 0} (n : ℕ) (xs : List A) (x : A) → nth n xs ≡ Some x → n < length xs
unfolding nth
nth_below zero [] x e = some_none (sym e)
nth_below (suc n) [] x e = some_none (sym e)
nth_below zero (y ∷ xs) x e = omega arith
nth_below (suc n) (y ∷ xs) x e = let h = nth_below n xs x e in omega arith

-- nothing stands past the end
pub nth_past : {A : Type 0} (n : ℕ) (xs : List A) → length xs ≤ n → nth n xs ≡ None
unfolding nth
nth_past zero [] h = refl
nth_past (suc n) [] h = refl
nth_past zero (y ∷ xs) h = absurd (omega arith)
nth_past (suc n) (y ∷ xs) h = nth_past n xs (omega arith)

-- something stands at every place within
pub nth_within : {A : Type 0} (n : ℕ) (xs : List A) → n < length xs → (x : A) × (nth n xs ≡ Some x)
unfolding nth
nth_within zero [] h = absurd (omega arith)
nth_within (suc n) [] h = absurd (omega arith)
nth_within zero (y ∷ xs) h = (y, refl)
nth_within (suc n) (y ∷ xs) h = nth_within n xs (omega arith)

-- what is missing lies past the end
pub nth_none : {A : Type 0} (n : ℕ) (xs : List A) → nth n xs ≡ None → length xs ≤ n
unfolding nth
nth_none zero [] e = omega arith
nth_none (suc n) [] e = omega arith
nth_none zero (y ∷ xs) e = some_none e
nth_none (suc n) (y ∷ xs) e = let h = nth_none n xs e in omega arith

-- a list from a place on
pub drop_nth : {A : Type 0} (n : ℕ) (xs : List A) (x : A) → nth n xs ≡ Some x → drop n xs ≡ x ∷ drop (suc n) xs
unfolding nth
drop_nth zero [] x e = some_none (sym e)
drop_nth (suc n) [] x e = some_none (sym e)
drop_nth zero (y ∷ xs) x e = let q : y ≡ x = cc in λ i. q i ∷ xs
drop_nth (suc n) (y ∷ xs) x e = drop_nth n xs x e

pub nth_set : {A : Type 0} (n : ℕ) (xs : List A) (x : A) → n < length xs → nth n (set xs n x) ≡ Some x
unfolding nth
nth_set n [] x h = absurd (omega arith)
nth_set zero (y ∷ xs) x h = refl
nth_set (suc n) (y ∷ xs) x h = nth_set n xs x (omega arith)

pub nth_set_other : {A : Type 0} (m n : ℕ) (xs : List A) (x : A) → (m ≡ n → ⊥) → nth m (set xs n x) ≡ nth m xs
unfolding nth
nth_set_other m n [] x h = refl
nth_set_other zero zero (y ∷ xs) x h = absurd (h refl)
nth_set_other zero (suc n) (y ∷ xs) x h = refl
nth_set_other (suc m) zero (y ∷ xs) x h = refl
nth_set_other (suc m) (suc n) (y ∷ xs) x h = nth_set_other m n xs x (λ e. h (ap suc e))

pub nth_push : {A : Type 0} (xs : List A) (x : A) → nth (length xs) (xs ++ (x ∷ [])) ≡ Some x
unfolding nth
nth_push [] x = refl
nth_push (y ∷ xs) x = nth_push xs x

pub nth_push_other : {A : Type 0} (m : ℕ) (xs : List A) (x : A) → (m ≡ length xs → ⊥) → nth m (xs ++ (x ∷ [])) ≡ nth m xs
unfolding nth
nth_push_other zero [] x h = absurd (h refl)
nth_push_other (suc m) [] x h = refl
nth_push_other zero (y ∷ xs) x h = refl
nth_push_other (suc m) (y ∷ xs) x h = nth_push_other m xs x (λ e. h (ap suc e))
