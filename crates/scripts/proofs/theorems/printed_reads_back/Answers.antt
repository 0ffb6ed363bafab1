use Rattle.scripts.proofs.ReadsBack.{printed_reads_back}
use Rattle.scripts.proofs.theorems.printed_reads_back.Goals as goal

pub returns : goal.returns
returns c = printed_reads_back
