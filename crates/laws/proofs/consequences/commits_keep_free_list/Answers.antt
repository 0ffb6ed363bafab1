use Rattle.laws.proofs.Unconditional.{commits_keep}
use Rattle.laws.proofs.consequences.commits_keep_free_list.Goals as goal

pub returns : goal.returns
returns c = commits_keep
