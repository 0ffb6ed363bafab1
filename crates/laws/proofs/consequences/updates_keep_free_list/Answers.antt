use Rattle.laws.proofs.Unconditional.{updates_keep}
use Rattle.laws.proofs.consequences.updates_keep_free_list.Goals as goal

pub returns : goal.returns
returns c = updates_keep
