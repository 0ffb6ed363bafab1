use Rattle.chains.proofs.Needs.{needed}
use Rattle.chains.proofs.Ends.{ends_ascend}
use Rattle.chains.proofs.ends_ascend.Goals as goal

pub returns : goal.returns
returns c = ends_ascend needed
