use Rattle.laws.proofs.Unconditional.{stay}
use Rattle.laws.proofs.consequences.revisions_stay.Goals as goal

pub returns : goal.returns
returns c = stay
