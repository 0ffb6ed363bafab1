use Rattle.std.proofs.Common.{length, ap}
use Rattle.writer.proofs.Changes.{none_within, none_bytes}
use Rattle.writer.proofs.held.Held.clear.Goals as goal

pub invariant_of-self : goal.invariant_of-self
invariant_of-self c = record { within = none_within _ _ c.clear.ensures; all = none_bytes _ _ _ c.clear.ensures (ap length c.clear-2.ensures) }
