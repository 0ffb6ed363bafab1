use Rattle.std.proofs.Common.{◌-◌, ◌≤◌}
use Rattle.writer.specs.Listing.{RunsTo}
use Rattle.writer.specs.Plans.{plan_count, rows_of}
use Rattle.writer.proofs.runs.write_runs.Given as goal

abbrev pub invariant-loop-n : goal.invariant-loop-n
invariant-loop-n l = (l.n ≤ plan_count l.plan) × RunsTo (rows_of l.plan) 0 l.n l.initial.draft l.draft

abbrev pub decreases-loop-n : goal.decreases-loop-n
decreases-loop-n l = plan_count l.initial.plan - l.n
