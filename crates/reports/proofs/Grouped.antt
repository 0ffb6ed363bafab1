-- Numbers that `chunk_by` groups are the runs of them.
use Rattle.std.proofs.Common.{◌≡◌, ℕ, suc, ◌+◌, ◌-◌, ◌<◌, Bool, true, false, eqb, List, [], ◌∷◌, ◌++◌, length, get_or, Bor, sym, refl, ap, subst, ◌∙◌, add-one, arith}
use Rattle.std.specs.Fn.{Called, ComputesOnPairs}
use Rattle.std.specs.List.{IsChunkByPrefix}
use Rattle.std.specs.Slice.Iter.{chunk_by_callee, chunk_by_rest, chunk_by_steps}
use Rattle.std.proofs.lemmas.Fn.{always_returns_same}
use Rattle.std.proofs.lemmas.Iterator.{YieldsList}
use Rattle.std.proofs.lemmas.Iterator.Splits.{YieldsList-from_shown_while}
use denote.Param.Members.{Mut}
use Rattle.reports.specs.declared.runs.Run.{Run}
use Rattle.reports.specs.Runs.{run, runs_from, runs_of}

-- whether a number is the next
abbrev pub next_to : ℕ → ℕ → Bool
next_to last n = eqb n (last + 1)

-- the run that a group is
abbrev pub shown : Bor (List ℕ) → Run
shown x = run (get_or x.now 0 0) (get_or x.now (length x.now - 1) 0)

-- a front of numbers each of which is the next, behind which stands none that is
front_from : (a b : ℕ) (x ys : List ℕ)
    → ((k d : ℕ) → k < length x → next_to (get_or (b ∷ (x ++ ys)) k d) (get_or (b ∷ (x ++ ys)) (suc k) d) ≡ true)
    → (length x < length (x ++ ys) → (d : ℕ) → next_to (get_or (b ∷ (x ++ ys)) (length x) d) (get_or (b ∷ (x ++ ys)) (suc (length x)) d) ≡ false)
    → runs_from a b (x ++ ys) ≡ run a (get_or (b ∷ x) (length x) 0) ∷ runs_of ys
front_from a b [] [] on off = refl
front_from a b [] (y ∷ ys) on off = rw (off (omega arith) 0, runs_from) refl
front_from a b (n ∷ x) ys on off =
    rw (on 0 0 (omega arith), runs_from) (front_from a n x ys (λ k d l. on (suc k) d (omega arith)) (λ l. off (omega arith)))

front : (x ys : List ℕ) → 0 < length x → IsChunkByPrefix next_to (x ++ ys) (length x) → runs_of (x ++ ys) ≡ run (get_or x 0 0) (get_or x (length x - 1) 0) ∷ runs_of ys
front [] ys l h = absurd (omega arith)
front (b ∷ x) ys l h =
    let last : suc (length x) - 1 ≡ length x = omega arith in
    front_from b b x ys
    (λ k d i. subst (λ m. next_to (get_or (b ∷ (x ++ ys)) k d) (get_or (b ∷ (x ++ ys)) m d) ≡ true) (add-one k) (h.0 k d (omega arith)))
    (λ i d. subst (λ m. next_to (get_or (b ∷ (x ++ ys)) m d) (get_or (b ∷ (x ++ ys)) (suc (length x)) d) ≡ false) last (h.1 (omega arith) d))
    ∙ ap (λ m. run b (get_or (b ∷ x) m 0) ∷ runs_of ys) (sym last)

-- what `chunk_by` yields, where its closure says whether a number is the next
pub groups : {F : Type 0} {s : _} (g : Mut F (Bor ℕ × (Bor ℕ × Unit {0})) Bool) {f : F} (xs : List ℕ) → chunk_by_rest s ≡ xs → chunk_by_callee s ≡ f
    → ((a : Bor ℕ × (Bor ℕ × Unit {0})) (b : Bool) (q : F) → Called g f a b q → (b ≡ next_to a.0.now a.1.0.now) × (q ≡ f)) → YieldsList (chunk_by_steps g) shown s (runs_of xs)
groups {s = s} g {f} xs rest closure asks =
    subst (YieldsList (chunk_by_steps g) shown s) (ap runs_of rest)
    (YieldsList-from_shown_while (chunk_by_steps g) shown (λ t. runs_of (chunk_by_rest t)) (λ t. ComputesOnPairs g next_to (chunk_by_callee t))
    (λ t u h k. none (chunk_by_rest t) k.0)
    (λ t x u h k.
    let p = k.2 next_to h in
    (p.0, ap runs_of k.0 ∙ front x.now (chunk_by_rest u) k.1 (subst (λ ys. IsChunkByPrefix next_to ys (length x.now)) k.0 p.1)))
    s (subst (ComputesOnPairs g next_to) (sym closure) (always_returns_same g (λ a r. r ≡ next_to a.0.now a.1.0.now) f asks)))
  where
    none : (ys : List ℕ) → length ys ≡ 0 → length (runs_of ys) ≡ 0
    none [] e = refl
    none (y ∷ ys) e = absurd (omega arith)
