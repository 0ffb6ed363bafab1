use Rattle.laws.proofs.Unconditional.{no_trace}
use Rattle.laws.proofs.consequences.going_back_leaves_no_trace.Goals as goal

pub returns : goal.returns
returns c = no_trace
