use Rattle.laws.proofs.Unconditional.{return_higher}
use Rattle.laws.proofs.consequences.withdrawn_numbers_return_higher.Goals as goal

pub returns : goal.returns
returns c = return_higher
