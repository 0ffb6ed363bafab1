use Rattle.std.proofs.Common.{◌≡◌, ◌+◌, ◌*◌, [], ◌++◌, length}
use Rattle.format.specs.Writing.{slots_on}
use Rattle.writer.specs.Drafts.{Room, limit_of, written}
use Rattle.writer.specs.Listing.{front, listed_at}
use Rattle.writer.specs.Plans.{rows_of}
use Rattle.writer.proofs.runs.write_entries.Given as goal

abbrev pub invariant-loop-n : goal.invariant-loop-n
invariant-loop-n l =
    (l.n + length (front (listed_at (rows_of l.plan) l.n)) ≡ l.end)
    × Room l.draft (20 * length (front (listed_at (rows_of l.plan) l.n)))
    × (limit_of l.draft ≡ limit_of l.initial.draft)
    × (written l.draft ++ slots_on (front (listed_at (rows_of l.plan) l.n)) [] ≡ written l.initial.draft ++ slots_on (front (listed_at (rows_of l.plan) l.first)) [])
