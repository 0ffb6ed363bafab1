use Rattle.rules.proofs.Decides.{decides_every_file}
use Rattle.rules.proofs.every_file_is_decided.Goals as goal

pub returns : goal.returns
returns c = decides_every_file
