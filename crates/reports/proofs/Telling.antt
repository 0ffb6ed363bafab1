-- The differences have what became of every number.
use Rattle.std.proofs.Common.{◌≡◌, ℕ, zero, suc, ◌+◌, ◌<◌, ◌≤◌, max, true, false, List, [], ◌∷◌, length, Some, None, Option, sym, refl, ap, ◌∙◌, ⊎_elim, arith}
use Rattle.std.proofs.lemmas.Bool.{cases_lt, cases_eq, eq-eqb, ne_eqb}
use Rattle.chains.proofs.Openings.{history_opened}
use Rattle.chains.proofs.Steps.{by_answer}
use Rattle.tables.proofs.Applied.{shown_length}
use Rattle.tables.proofs.SoundTables.{opened_sound}
use Rattle.format.specs.Book.{revision_at, history, history_in}
use Rattle.format.specs.Revisions.{Revision, opens, find, nth}
use Rattle.format.specs.Updates.{Objects, Shown, objects_of}
use Rattle.book.specs.Differences.{used, became, difference}
use Rattle.book.specs.declared.book.compare.Difference.{Difference}
use Rattle.reports.specs.Differences.{listing, differing, differences}
use Rattle.reports.specs.Told.{Ascends, DifferencesTell, RevisionsAreWhole}
use Rattle.reports.proofs.Between.{seen}

-- a number that a row has, and one that it has not
found_here : (n i : ℕ) (o : Option Difference) (ds : List (ℕ × Difference)) → i ≡ n → find i ds ≡ None → find i (listing n o ds) ≡ o
unfolding find
found_here n i None ds e h = h
found_here n i (Some d) ds e h = ap (λ t. elim t [ true ↦ Some d | false ↦ find i ds ]) (eq-eqb i n e)

found_behind : (n i : ℕ) (o : Option Difference) (ds : List (ℕ × Difference)) → (i ≡ n → ⊥) → find i (listing n o ds) ≡ find i ds
unfolding find
found_behind n i None ds e = refl
found_behind n i (Some d) ds e = ap (λ t. elim t [ true ↦ Some d | false ↦ find i ds ]) (ne_eqb i n e)

-- no number below n is listed
none_below : (count n i : ℕ) (a b : Objects) → i < n → find i (differing count n a b) ≡ None
unfolding differing find
none_below zero n i a b l = refl
none_below (suc c) n i a b l =
    found_behind n i (difference n a b) (differing c (suc n) a b) (λ e. omega arith) ∙ none_below c (suc n) i a b (omega arith)

-- none past the last
none_past : (count n i : ℕ) (a b : Objects) → n + count ≤ i → find i (differing count n a b) ≡ None
unfolding differing find
none_past zero n i a b l = refl
none_past (suc c) n i a b l =
    found_behind n i (difference n a b) (differing c (suc n) a b) (λ e. omega arith) ∙ none_past c (suc n) i a b (omega arith)

each_between : (count n i : ℕ) (a b : Objects) → n ≤ i → i < n + count → find i (differing count n a b) ≡ difference i a b
unfolding differing
each_between zero n i a b h l = absurd (omega arith)
each_between (suc c) n i a b h l =
    ⊎_elim
    (λ (e : i ≡ n).
    found_here n i (difference n a b) (differing c (suc n) a b) e (none_below c (suc n) i a b (omega arith)) ∙ ap (λ m. difference m a b) (sym e))
    (λ (e : i ≡ n → ⊥).
    found_behind n i (difference n a b) (differing c (suc n) a b) e ∙ each_between c (suc n) i a b (omega arith) (omega arith))
    (cases_eq i n)

-- past both Sizes nothing became of a number
nth_past : (xs : List Shown) (n : ℕ) → length xs ≤ n → nth n xs ≡ None
unfolding nth
nth_past [] n l = refl
nth_past (x ∷ xs) zero l = absurd (omega arith)
nth_past (x ∷ xs) (suc n) l = nth_past xs n (omega arith)

nothing_past : (a b : Objects) (n : ℕ) → length a.numbers ≤ n → length b.numbers ≤ n → difference n a b ≡ None
unfolding difference
nothing_past a b n h k =
    ap (λ o. became (used o) (used (nth n b.numbers))) (nth_past a.numbers n h) ∙ ap (λ o. became None (used o)) (nth_past b.numbers n k)

-- the numbers ascend
lower : (low high : ℕ) (ds : List (ℕ × Difference)) → low ≤ high → Ascends high ds → Ascends low ds
lower low high [] l h = tt
lower low high (d ∷ ds) l h = let f = h.0 in (omega arith, h.1)

ascending : (n : ℕ) (o : Option Difference) (ds : List (ℕ × Difference)) → Ascends (suc n) ds → Ascends n (listing n o ds)
ascending n None ds h = lower n (suc n) ds (omega arith) h
ascending n (Some d) ds h = (omega arith, h)

all_ascend : (count n : ℕ) (a b : Objects) → Ascends n (differing count n a b)
unfolding differing
all_ascend zero n a b = tt
all_ascend (suc c) n a b = ascending n (difference n a b) (differing c (suc n) a b) (all_ascend c (suc n) a b)

pub tell : DifferencesTell
unfolding differences
tell a b v w =
    let most = max a.size b.size in
    record {
      each = λ n.
          ⊎_elim
          (λ (l : n < most). each_between most 0 n a b (omega arith) (omega arith))
          (λ (l : most ≤ n). none_past most 0 n a b (omega arith) ∙ sym (nothing_past a b n (omega arith) (omega arith)))
          (cases_lt n most);
      ascends = all_ascend most 0 a b;
    }

-- a revision stands at a place of the history
at_place : (k : ℕ) (rs : List Revision) (r : Revision) → revision_at k rs ≡ Some r → (i : ℕ) × (nth i rs ≡ Some r)
unfolding revision_at
at_place zero rs r h = let z : ◌≡◌ {A = ℕ} 0 1 = cc in absurd (omega arith)
at_place (suc i) rs r h = (i, h)

none_at : (i : ℕ) (r : Revision) → nth i [] ≡ Some r → ⊥
unfolding nth
none_at i r h = let z : ◌≡◌ {A = ℕ} 0 1 = cc in omega arith

pub whole : RevisionsAreWhole
unfolding objects_of history history_in
whole m n k r h =
    let s = seen m n k r h in
    by_answer (opens m.store.bytes)
    (λ o e.
    let p = at_place k o.history r (sym (ap (revision_at k) (history_opened m.store.bytes o e)) ∙ s.there) in
    let w = (opened_sound m.store.bytes o e).each p.0 r p.1 in
    shown_length r.states ∙ w.long)
    (λ f e. let p = at_place k [] r (sym (ap (revision_at k) (ap history_in e)) ∙ s.there) in absurd (none_at p.0 r p.1))
