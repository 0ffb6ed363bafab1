use Rattle.tables.proofs.Rules.{rules_met}
use Rattle.tables.proofs.tables.written_entries_meet_the_rules.Goals as goal

pub returns : goal.returns
returns c = rules_met
