use Rattle.laws.proofs.ReadBack.{updates_read_back}
use Rattle.laws.proofs.updates.updates_read_back.Goals as goal

pub returns : goal.returns
returns c = updates_read_back
