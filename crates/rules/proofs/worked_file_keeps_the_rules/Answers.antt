use Rattle.rules.proofs.Examples.{worked_rules}
use Rattle.rules.proofs.worked_file_keeps_the_rules.Goals as goal

pub returns : goal.returns
returns c = worked_rules
