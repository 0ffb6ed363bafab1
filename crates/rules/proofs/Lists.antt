-- What holds of each place of a list, and of each two places side by side.
use Rattle.std.proofs.Common.{◌≡◌, ℕ, zero, suc, List, [], ◌∷◌, length, Some, Option, sym, refl, subst, arith}
use Rattle.format.specs.Revisions.{nth}
use Rattle.tables.proofs.Finds.{some_none}

pub same_place : {A : Type 0} {x y : A} → ◌≡◌ {A = Option A} (Some x) (Some y) → x ≡ y
same_place e = cc

pub no_place : {A P : Type 0} (k : ℕ) {x : A} → nth k [] ≡ Some x → P
unfolding nth
no_place zero e = some_none (sym e)
no_place (suc k) e = some_none (sym e)

-- of the first, and of each other
pub each_place : {A : Type 0} (P : A → Type 0) (x : A) (xs : List A) → P x → ((k : ℕ) (y : A) → nth k xs ≡ Some y → P y) → (k : ℕ) (y : A) → nth k (x ∷ xs) ≡ Some y → P y
unfolding nth
each_place P x xs p f zero y e = subst P (same_place e) p
each_place P x xs p f (suc k) y e = f k y e

-- of the first two, and of each other two
pub each_pair : {A : Type 0} (P : A → A → Type 0) (x y : A) (ys : List A) → P x y →
    ((k : ℕ) (u v : A) → nth k (y ∷ ys) ≡ Some u → nth (suc k) (y ∷ ys) ≡ Some v → P u v) →
    (k : ℕ) (u v : A) → nth k (x ∷ y ∷ ys) ≡ Some u → nth (suc k) (x ∷ y ∷ ys) ≡ Some v → P u v
unfolding nth
each_pair P x y ys p f zero u v a b = subst (λ z. P u z) (same_place b) (subst (λ z. P z y) (same_place a) p)
each_pair P x y ys p f (suc k) u v a b = f k u v a b

-- no two places in a list of one
pub no_pair : {A P : Type 0} (x : A) (k : ℕ) {v : A} → nth (suc k) (x ∷ []) ≡ Some v → P
unfolding nth
no_pair x k e = no_place k e

-- of the last of one, and of the last of more
pub last_one : {A : Type 0} (P : A → Type 0) (x : A) → P x → (k : ℕ) (y : A) → nth k (x ∷ []) ≡ Some y → suc k ≡ length (x ∷ []) → P y
unfolding nth
last_one P x p zero y e q = subst P (same_place e) p
last_one P x p (suc k) y e q = no_place k e

pub last_more : {A : Type 0} (P : A → Type 0) (x y : A) (ys : List A) → ((k : ℕ) (u : A) → nth k (y ∷ ys) ≡ Some u → suc k ≡ length (y ∷ ys) → P u) →
    (k : ℕ) (u : A) → nth k (x ∷ y ∷ ys) ≡ Some u → suc k ≡ length (x ∷ y ∷ ys) → P u
unfolding nth
last_more P x y ys f zero u e q = absurd (omega arith)
last_more P x y ys f (suc k) u e q = f k u e (omega arith)

-- lists of one length that agree at each place
pub same_lists : {A : Type 0} (xs ys : List A) → length xs ≡ length ys → ((k : ℕ) (x y : A) → nth k xs ≡ Some x → nth k ys ≡ Some y → x ≡ y) → xs ≡ ys
unfolding nth
same_lists [] [] l h = refl
same_lists [] (y ∷ ys) l h = absurd (omega arith)
same_lists (x ∷ xs) [] l h = absurd (omega arith)
same_lists (x ∷ xs) (y ∷ ys) l h =
    let p : x ≡ y = h 0 x y refl refl in
    let q : xs ≡ ys = same_lists xs ys (omega arith) (λ k u v a b. h (suc k) u v a b) in
    λ i. p i ∷ q i
