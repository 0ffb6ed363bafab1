use Rattle.std.proofs.Common.{◌≡◌, ◌-◌, ◌≤◌, length, take}
use Rattle.book.specs.Copies.{Grown}
use Rattle.book.proofs.copies.join.Given as goal

abbrev pub invariant-loop-place : goal.invariant-loop-place
invariant-loop-place g l =
    (l.place ≤ l.end)
    × (length l.window ≡ 4096)
    × Grown (g.T.Store.meaning l.initial.out) (take l.place (g.S.Store.meaning l.store).bytes) (g.T.Store.meaning l.out)

abbrev pub decreases-loop-place : goal.decreases-loop-place
decreases-loop-place g l = l.end - l.place
