use Rattle.std.proofs.Common.{◌+◌, ◌≤◌, List, length}
use Rattle.format.specs.Chain.{Link}
use Rattle.records.specs.Chained.{LinkedFrom}
use Rattle.records.specs.Tabled.{Tabled, cells_held, revisions_held}
use Rattle.records.specs.Trailers.{offsets_in}
use Rattle.records.proofs.Openings.{Reading}
use Rattle.records.proofs.open.read_revisions.Given as goal

abbrev pub invariant-loop-offset : goal.invariant-loop-offset
invariant-loop-offset g l =
    Tabled (revisions_held l.tables) (cells_held l.tables) × (length (revisions_held l.tables) + length (offsets_in l.scratch) ≤ 64)
    × ((ls : List Link) → LinkedFrom (g.S.Store.meaning l.store).bytes 0 ls (offsets_in l.initial.scratch) →
    Reading (g.S.Store.meaning l.store).bytes ls (offsets_in l.scratch) (revisions_held l.tables) (cells_held l.tables))

abbrev pub decreases-loop-offset : goal.decreases-loop-offset
decreases-loop-offset g l = length (offsets_in l.scratch)
