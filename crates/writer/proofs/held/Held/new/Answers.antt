use Rattle.std.proofs.Common.{length, ap}
use Rattle.writer.proofs.Changes.{none_within, none_bytes}
use Rattle.writer.proofs.held.Held.new.Goals as goal

pub invariant_of-result : goal.invariant_of-result
invariant_of-result c = record { within = none_within _ _ c.in_ok-changes.ensures; all = none_bytes _ _ _ c.in_ok-changes.ensures (ap length c.in_ok-bodies.ensures) }
