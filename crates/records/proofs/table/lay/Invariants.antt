use Rattle.std.proofs.Common.{◌≡◌, ◌+◌, length}
use Rattle.entries.specs.Reserving.{items_of}
use Rattle.records.proofs.Laying.{Laying}
use Rattle.records.proofs.table.lay.Given as goal

abbrev pub invariant-loop-n : goal.invariant-loop-n
invariant-loop-n l =
    (length (items_of l.cells) ≡ length (items_of l.initial.cells) + l.n-counter)
    × Laying (items_of l.cells) (items_of l.initial.cells) l.first l.size l.n-counter l.listed
