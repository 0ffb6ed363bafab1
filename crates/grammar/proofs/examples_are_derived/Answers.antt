use Rattle.grammar.proofs.Examples.{examples}
use Rattle.grammar.proofs.examples_are_derived.Goals as goal

pub returns : goal.returns
returns c = examples
