-- Tests that every byte passes.
use Rattle.std.proofs.Common.{◌≡◌, ℕ, suc, ◌+◌, Bool, true, false, eqb, [], ◌∷◌, ◌++◌, length, refl, arith, eqb-true}
use Rattle.format.specs.Bytes.{Bytes, every, span}
use Rattle.locality.specs.Locality.{stops}
use Rattle.locality.proofs.Cases.{cases, not_both}
use Rattle.locality.proofs.Runs.{span_all}
use Rattle.locality.proofs.Tests.{and_left, and_right}

pub every_cons : (f : ℕ → Bool) (x : ℕ) (xs : Bytes) → f x ≡ true → every f xs ≡ true → every f (x ∷ xs) ≡ true
unfolding every
every_cons f x xs a b = rw (a, every) b

pub every_first : (f : ℕ → Bool) (x : ℕ) (xs : Bytes) → every f (x ∷ xs) ≡ true → f x ≡ true
unfolding every
every_first f x xs a = and_left (f x) (every f xs) a

pub every_others : (f : ℕ → Bool) (x : ℕ) (xs : Bytes) → every f (x ∷ xs) ≡ true → every f xs ≡ true
unfolding every
every_others f x xs a = and_right (f x) (every f xs) a

pub every_none : (f : ℕ → Bool) → every f [] ≡ true
unfolding every
every_none f = refl

-- a byte that passes is not one that does not
pub differs : (f : ℕ → Bool) (c k : ℕ) → f c ≡ true → f k ≡ false → eqb c k ≡ false
differs f c k a b = cases (eqb c k) (λ e. let q : c ≡ k = eqb-true c k e in let h : f k ≡ true = rw q at a in not_both (f k) h b) (λ e. e)

-- a run is as long as every byte passes
pub span_run : (f : ℕ → Bool) (p : ℕ) (r ys : Bytes) → every f r ≡ true → stops f ys ≡ true → span f p (r ++ ys) ≡ (r, p + length r, ys)
unfolding span
span_run f p [] ys a h = rw (span_all f p ys h) (let e : p ≡ p + 0 = omega arith in λ i. ([], e i, ys))
span_run f p (x ∷ r) ys a h =
    rw (every_first f x r a, span)
    (rw (span_run f (suc p) r ys (every_others f x r a) h) (let e : suc p + length r ≡ p + suc (length r) = omega arith in λ i. (x ∷ r, e i, ys)))

-- every byte of a run passes
pub span_passes : (f : ℕ → Bool) (p : ℕ) (xs : Bytes) → every f (span f p xs).0 ≡ true
unfolding span
span_passes f p [] = every_none f
span_passes f p (x ∷ xs) = cases (f x) (λ e. rw (e, span) (every_cons f x (span f (suc p) xs).0 e (span_passes f (suc p) xs))) (λ e. rw (e, span) (every_none f))
