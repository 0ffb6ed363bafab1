use Rattle.laws.proofs.TellApart.{updates_tell_apart}
use Rattle.laws.proofs.updates.updates_tell_apart.Goals as goal

pub returns : goal.returns
returns c = updates_tell_apart
