use Rattle.grammar.proofs.Streams.{streams_are_spelled}
use Rattle.grammar.proofs.streams_are_spelled.Goals as goal

pub returns : goal.returns
returns c = streams_are_spelled
