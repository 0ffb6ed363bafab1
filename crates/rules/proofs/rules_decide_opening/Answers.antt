use Rattle.rules.proofs.Accepts.{accepts_by_rules}
use Rattle.rules.proofs.rules_decide_opening.Goals as goal

pub returns : goal.returns
returns c = accepts_by_rules
