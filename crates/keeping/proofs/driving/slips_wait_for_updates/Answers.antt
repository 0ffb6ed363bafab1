use Rattle.keeping.proofs.Runs.{slips_wait}
use Rattle.keeping.proofs.driving.slips_wait_for_updates.Goals as goal

pub returns : goal.returns
returns c = slips_wait
