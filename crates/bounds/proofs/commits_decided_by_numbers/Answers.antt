use Rattle.bounds.proofs.Decided.{decided}
use Rattle.bounds.proofs.commits_decided_by_numbers.Goals as goal

pub returns : goal.returns
returns c = decided
