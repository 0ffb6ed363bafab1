use Rattle.std.proofs.Common.{◌≡◌, ◌-◌, ◌≤◌, true, length, take, drop}
use Rattle.format.specs.Bytes.{same}
use Rattle.book.proofs.parts.same_parts.Given as goal

abbrev pub invariant-loop-done : goal.invariant-loop-done
invariant-loop-done g l =
    (l.done ≤ l.count)
    × (length l.one ≡ 2048)
    × (length l.other ≡ 2048)
    × (same (take l.done (drop l.a.start (g.S.Store.meaning l.store).bytes)) (take l.done (drop l.b.start (g.S.Store.meaning l.store).bytes)) ≡ true)

abbrev pub decreases-loop-done : goal.decreases-loop-done
decreases-loop-done g l = l.count - l.done
