use Rattle.std.proofs.Common.{◌≡◌, ◌-◌, length}
use Rattle.scripts.specs.Scripts.{between}
use Rattle.scripts.specs.Walks.{said_at}
use Rattle.scripts.proofs.cursor.Cursor.head.Given as goal

abbrev pub invariant-loop-line : goal.invariant-loop-line
invariant-loop-line l = said_at between l.self ≡ said_at between l.fn.self

abbrev pub decreases-loop-line : goal.decreases-loop-line
decreases-loop-line l = length l.self.src.now - l.self.place
