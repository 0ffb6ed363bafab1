use Rattle.chains.proofs.Needs.{needed}
use Rattle.chains.proofs.Added.{updates_open}
use Rattle.chains.proofs.updated_files_open.Goals as goal

pub returns : goal.returns
returns c = updates_open needed
