use Rattle.std.proofs.Common.{◌≡◌, ◌+◌, ◌-◌, ◌*◌, ◌≤◌, length}
use Rattle.format.specs.Objects.{Entries}
use Rattle.writer.specs.Drafts.{count, limit_of}
use Rattle.writer.specs.Trailers.{ReadAs}
use Rattle.writer.proofs.Copied.{Copying}
use Rattle.writer.proofs.trailer.copy_entries.Given as goal

abbrev pub invariant-entries : goal.invariant-entries
invariant-entries l =
    ((es : Entries) → ReadAs l.src l.inside es → Copying l.src l.at es l.initial.draft l.draft)
    × (count l.draft ≤ count l.initial.draft + 2 * l.at)
    × (count l.draft ≤ count l.initial.draft + 2 * length l.src)
    × (limit_of l.draft ≡ limit_of l.initial.draft)

abbrev pub decreases-entries : goal.decreases-entries
decreases-entries l = length l.initial.src - l.at
