use Rattle.scripts.proofs.ReadsAgain.{reads_again}
use Rattle.scripts.proofs.theorems.reads_again.Goals as goal

pub returns : goal.returns
returns c = reads_again
