-- How many bytes the objects of an update may need, from a number on.
use Rattle.std.proofs.Common.{◌≡◌, ℕ, ◌+◌, ◌*◌, ◌≤◌, true, false, eqb, leb, [], ◌∷◌, length, Some, arith}
use lib.ListN.{length-map}
use Rattle.std.proofs.lemmas.Bool.{eqb-true, eqb-false, leb-true, leb-false, le-leb, lt-leb}
use Rattle.format.specs.Revisions.{find}
use Rattle.format.specs.Updates.{Change, body, removed, Update, body_length, body_bytes}
use Rattle.locality.proofs.Cases.{cases}
use Rattle.writer.specs.declared.held.Held.{Held}
use Rattle.writer.specs.Changes.{row_in}
use Rattle.writer.specs.Helds.{update_of, pool_of}
use Rattle.writer.specs.Plans.{room_for}
use Rattle.writer.specs.Sizes.{most_object_bytes}

unfoldable pub weight : ℕ → Update → ℕ
weight n [] = 0
weight n (r ∷ rs) = elim (leb n r.0) [ true ↦ 34 + body_length r.1 + weight n rs | false ↦ weight n rs ]

one_weight : (c : Change) → room_for (Some c) ≤ 34 + body_length c
unfolding body_length
one_weight (body b) = omega arith
one_weight removed = omega arith

-- a number's object is counted with it
pub weight_step : (n : ℕ) (u : Update) → weight (n + 1) u + room_for (find n u) ≤ weight n u
unfolding weight find
weight_step n [] = omega arith
weight_step n (r ∷ rs) =
    let h = weight_step n rs in
    cases (eqb n r.0)
    (λ e.
    let q = eqb-true n r.0 e in
    let a : leb n r.0 ≡ true = le-leb n r.0 (omega arith) in
    let b : leb (n + 1) r.0 ≡ false = lt-leb (n + 1) r.0 (omega arith) in
    let w = one_weight r.1 in
    rw (e, a, b, find, weight) (omega arith))
    (λ e.
    let q = eqb-false n r.0 e in
    cases (leb n r.0)
    (λ a.
    let l = leb-true n r.0 a in
    let b : leb (n + 1) r.0 ≡ true = le-leb (n + 1) r.0 (omega arith) in
    rw (e, a, b, find, weight) (omega arith))
    (λ a.
    let l = leb-false n r.0 a in
    let b : leb (n + 1) r.0 ≡ false = lt-leb (n + 1) r.0 (omega arith) in
    rw (e, a, b, find, weight) (omega arith)))

weight_most : (n : ℕ) (u : Update) → weight n u ≤ 34 * length u + body_bytes u
unfolding weight body_bytes
weight_most n [] = omega arith
weight_most n (r ∷ rs) =
    let h = weight_most n rs in
    cases (leb n r.0)
    (λ e. rw (e, weight) (omega arith))
    (λ e. rw (e, weight) (omega arith))

-- what an open update needs at most
pub weight_bound : (n : ℕ) (h : Held) → weight n (update_of h) ≤ most_object_bytes
weight_bound n h =
    let m = weight_most n (update_of h) in
    let l = length-map h.changes.items.items (row_in (pool_of h)) in
    let few = h.changes.few in
    let small = h.bodies.few in
    let all = h.all in
    let ok = h.changes.items.ok in
    let ok' = h.bodies.items.ok in
    omega arith
