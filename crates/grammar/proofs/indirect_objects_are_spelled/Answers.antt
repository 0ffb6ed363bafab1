use Rattle.grammar.proofs.Indirect.{indirect_objects_are_spelled}
use Rattle.grammar.proofs.indirect_objects_are_spelled.Goals as goal

pub returns : goal.returns
returns c = indirect_objects_are_spelled
