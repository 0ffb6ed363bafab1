use Rattle.keeping.proofs.Commits.{commits_fit}
use Rattle.keeping.proofs.committing.accepted_commits_fit.Goals as goal

pub returns : goal.returns
returns c = commits_fit
