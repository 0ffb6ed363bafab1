-- The tables of a file with one revision more.
use Rattle.std.proofs.Common.{◌≡◌, ℕ, zero, suc, ◌+◌, ◌≤◌, eqb, List, [], ◌∷◌, ◌++◌, map, length, take, drop, Some, None, Option, sym, refl, ap, ◌∙◌, arith, length-drop}
use Rattle.std.proofs.lemmas.List.{drop-append-le, take-append-le}
use Rattle.format.specs.Bytes.{Bytes}
use Rattle.format.specs.Revisions.{State, find, nth, either, overlaid}
use Rattle.entries.specs.declared.cell.Cell.{Cell}
use Rattle.entries.specs.declared.cell.Cell.TheVariants.{Used, Free}
use Rattle.entries.specs.declared.revision.Revision.{Revision}
use Rattle.entries.specs.Cells.{state_in, states_in, EndsBy, AllEndBy}
use Rattle.entries.specs.Tables.{cells_of, revision_in, Stacked, Within}
use Rattle.locality.proofs.Cases.{cases, cases_o}
use Rattle.tables.proofs.Finds.{some_none}
use Rattle.records.specs.Laid.{cells_in, laid, states_by}
use Rattle.records.proofs.Tabling.{stacked_le}

-- cells that end before a place end before a later one
later : (a b : ℕ) (c : Cell) → a ≤ b → EndsBy a c → EndsBy b c
later a b (Used g s e) h k = (k.0, omega (arith, k.1))
later a b (Free g n) h k = tt

pub all_later : (a b : ℕ) (cs : List Cell) → a ≤ b → AllEndBy a cs → AllEndBy b cs
all_later a b [] h k = tt
all_later a b (c ∷ cs) h k = (later a b c h k.0, all_later a b cs h k.1)

-- the cells of a table that is laid end before its section
find_ends : (off n : ℕ) (new : List (ℕ × Cell)) (c : Cell) → AllEndBy off (cells_in new) → find n new ≡ Some c → EndsBy off c
unfolding find
find_ends off n [] c a e = some_none (sym e)
find_ends off n (x ∷ xs) c a e =
    cases (eqb n x.0)
    (λ q.
    let z : Some x.1 ≡ Some c = rw (q, find) at e in
    let y : x.1 ≡ c = cc in
    rw (← y) a.0)
    (λ q. find_ends off n xs c a.1 (rw (q, find) at e))

nth_ends : (off n : ℕ) (old : List Cell) (c : Cell) → AllEndBy off old → nth n old ≡ Some c → EndsBy off c
unfolding nth
nth_ends off n [] c a e = some_none (sym e)
nth_ends off zero (x ∷ xs) c a e = let z : Some x ≡ Some c = e in let y : x ≡ c = cc in rw (← y) a.0
nth_ends off (suc n) (x ∷ xs) c a e = nth_ends off n xs c a.1 e

either_ends : (off n : ℕ) (new : List (ℕ × Cell)) (old : List Cell) (c : Cell) → AllEndBy off (cells_in new) → AllEndBy off old → either (find n new) (nth n old) ≡ Some c → EndsBy off c
either_ends off n new old c a b e =
    cases_o (find n new)
    (λ q. nth_ends off n old c b (rw q at e))
    (λ x q. find_ends off n new c a (q ∙ (rw q at e)))

pub laid_ends : (off k n : ℕ) (new : List (ℕ × Cell)) (old : List Cell) → AllEndBy off (cells_in new) → AllEndBy off old → AllEndBy off (laid k n new old)
unfolding laid
laid_ends off zero n new old a b = tt
laid_ends off (suc k) n new old a b =
    cases_o (either (find n new) (nth n old))
    (λ q. rw (q, laid) tt)
    (λ c q. rw (q, laid) (either_ends off n new old c a b q, laid_ends off k (suc n) new old a b))

-- a table that is laid stands for the states over those before
seen : Bytes → Option Cell → Option State
seen file None = None
seen file (Some c) = Some (state_in file c)

find_states : (file : Bytes) (n : ℕ) (new : List (ℕ × Cell)) → find n (states_by file new) ≡ seen file (find n new)
unfolding find states_by seen
find_states file n [] = refl
find_states file n (x ∷ xs) = cases (eqb n x.0) (λ q. rw (q, find) refl) (λ q. rw (q, find) (find_states file n xs))

nth_states : (file : Bytes) (n : ℕ) (old : List Cell) → nth n (states_in file old) ≡ seen file (nth n old)
unfolding nth seen
nth_states file n [] = refl
nth_states file zero (x ∷ xs) = refl
nth_states file (suc n) (x ∷ xs) = nth_states file n xs

either_seen : (file : Bytes) (a b : Option Cell) → either (seen file a) (seen file b) ≡ seen file (either a b)
unfolding seen
either_seen file None b = refl
either_seen file (Some x) b = refl

pub laid_states : (file : Bytes) (k n : ℕ) (new : List (ℕ × Cell)) (old : List Cell) → states_in file (laid k n new old) ≡ overlaid k n (states_by file new) (states_in file old)
unfolding laid overlaid seen
laid_states file zero n new old = refl
laid_states file (suc k) n new old =
    let e : either (find n (states_by file new)) (nth n (states_in file old)) ≡ seen file (either (find n new) (nth n old)) =
    rw (find_states file n new, nth_states file n old) (either_seen file (find n new) (nth n old)) in
    cases_o (either (find n new) (nth n old))
    (λ q. rw (q, laid) (rw (e ∙ ap (seen file) q, overlaid) refl))
    (λ c q. rw (q, laid) (rw (e ∙ ap (seen file) q, overlaid) (ap (λ (t : List State). state_in file c ∷ t) (laid_states file k (suc n) new old))))

-- what stands in the cells stays as they grow
cells_kept : (cells more : List Cell) (r : Revision) → r.first + r.size ≤ length cells → cells_of (cells ++ more) r ≡ cells_of cells r
cells_kept cells more r h =
    ap (take r.size) (drop-append-le r.first cells more (omega arith)) ∙ take-append-le r.size (drop r.first cells) more (simp length-drop (omega arith))

pub revisions_kept : (file : Bytes) (cells more : List Cell) (s : ℕ) (rs : List Revision) → Stacked s (length cells) rs → map (revision_in file (cells ++ more)) rs ≡ map (revision_in file cells) rs
revisions_kept file cells more s [] k = refl
revisions_kept file cells more s (r ∷ rs) k =
    let h = stacked_le (s + r.size) (length cells) rs k.1 in
    rw (cells_kept cells more r (omega (arith, k.0)), revisions_kept file cells more (s + r.size) rs k.1) refl

pub within_kept : (cells more : List Cell) (s : ℕ) (rs : List Revision) (r : Revision) → Stacked s (length cells) rs → Within cells rs → AllEndBy r.offset (cells_of (cells ++ more) r) → Within (cells ++ more) (rs ++ r ∷ [])
within_kept cells more s [] r k w a = (a, tt)
within_kept cells more s (q ∷ rs) r k w a =
    let h = stacked_le (s + q.size) (length cells) rs k.1 in
    (rw (cells_kept cells more q (omega (arith, k.0))) w.0, within_kept cells more (s + q.size) rs r k.1 w.1 a)
