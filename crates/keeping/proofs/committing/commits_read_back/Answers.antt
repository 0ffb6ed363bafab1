use Rattle.keeping.proofs.Commits.{commits_read}
use Rattle.keeping.proofs.committing.commits_read_back.Goals as goal

pub returns : goal.returns
returns c = commits_read
