use Rattle.scripts.proofs.Computed.{examples}
use Rattle.scripts.proofs.theorems.scripts_read_as_meant.Goals as goal

pub returns : goal.returns
returns c = examples
