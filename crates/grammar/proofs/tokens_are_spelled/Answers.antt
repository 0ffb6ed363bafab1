use Rattle.grammar.proofs.Lexing.{tokens_are_spelled}
use Rattle.grammar.proofs.tokens_are_spelled.Goals as goal

pub returns : goal.returns
returns c = tokens_are_spelled
