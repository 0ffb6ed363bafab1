use Rattle.bounds.proofs.Bounded.{bounded}
use Rattle.bounds.proofs.open_files_are_bounded.Goals as goal

pub returns : goal.returns
returns c = bounded
