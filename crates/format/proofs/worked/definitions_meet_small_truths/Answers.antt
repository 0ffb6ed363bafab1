use Rattle.format.proofs.Computed.{truths}
use Rattle.format.proofs.worked.definitions_meet_small_truths.Goals as goal

pub returns : goal.returns
returns c = truths
