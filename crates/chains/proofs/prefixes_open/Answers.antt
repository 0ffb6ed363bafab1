use Rattle.chains.proofs.Needs.{needed}
use Rattle.chains.proofs.Prefixes.{prefixes_open}
use Rattle.chains.proofs.prefixes_open.Goals as goal

pub returns : goal.returns
returns c = prefixes_open needed
