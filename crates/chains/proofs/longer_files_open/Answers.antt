use Rattle.chains.proofs.Needs.{needed}
use Rattle.chains.proofs.Longer.{longer_open}
use Rattle.chains.proofs.longer_files_open.Goals as goal

pub returns : goal.returns
returns c = longer_open needed
