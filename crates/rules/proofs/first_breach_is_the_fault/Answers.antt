use Rattle.rules.proofs.Refuses.{refuses_first_breach}
use Rattle.rules.proofs.first_breach_is_the_fault.Goals as goal

pub returns : goal.returns
returns c = refuses_first_breach
