use Rattle.keeping.proofs.Commits.{after_commit}
use Rattle.keeping.proofs.committing.tables_after_commit.Goals as goal

pub returns : goal.returns
returns c = after_commit
