use Rattle.keeping.proofs.Commits.{stays_acceptable}
use Rattle.keeping.proofs.committing.updates_stay_acceptable.Goals as goal

pub returns : goal.returns
returns c = stays_acceptable
