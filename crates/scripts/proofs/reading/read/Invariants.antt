use Rattle.std.proofs.Common.{◌≡◌, true, length}
use Rattle.scripts.specs.Reads.{said_from}
use Rattle.scripts.specs.Rows.{in_order, rows_of}
use Rattle.scripts.specs.Scripts.{gathered, read_script}
use Rattle.scripts.proofs.reading.read.Given as goal

abbrev pub invariant-loop-changes : goal.invariant-loop-changes
invariant-loop-changes l =
    (gathered (said_from l.reader) (rows_of l.changes.entries) ≡ read_script l.src)
    × (in_order 0 (rows_of l.changes.entries) ≡ true)

abbrev pub decreases-loop-changes : goal.decreases-loop-changes
decreases-loop-changes l = length (said_from l.reader)
