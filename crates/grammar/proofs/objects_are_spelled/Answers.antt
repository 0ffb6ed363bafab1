use Rattle.grammar.proofs.Trees.{objects_are_spelled}
use Rattle.grammar.proofs.objects_are_spelled.Goals as goal

pub returns : goal.returns
returns c = objects_are_spelled
