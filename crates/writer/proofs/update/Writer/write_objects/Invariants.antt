use Rattle.std.proofs.Common.{◌≡◌, ◌+◌, ◌≤◌}
use Rattle.format.specs.Bytes.{Bytes}
use Rattle.writer.specs.Drafts.{count, limit_of}
use Rattle.writer.specs.Helds.{update_of}
use Rattle.writer.specs.Plans.{plan_count}
use Rattle.writer.specs.Sizes.{most_object_bytes}
use Rattle.writer.proofs.Weights.{weight}
use Rattle.writer.proofs.Written.{Halfway}
use Rattle.writer.proofs.update.Writer.write_objects.Given as goal

abbrev pub invariant-loop-n : goal.invariant-loop-n
invariant-loop-n l =
    ((file : Bytes) → Halfway file l.newest.cells.now (update_of l.held) l.newest.len l.size l.n l.initial.self.draft l.self.draft l.self.plan)
    × (plan_count l.self.plan ≡ l.n)
    × (count l.self.draft + weight l.n (update_of l.held) ≤ most_object_bytes)
    × (limit_of l.self.draft ≡ limit_of l.initial.self.draft)
