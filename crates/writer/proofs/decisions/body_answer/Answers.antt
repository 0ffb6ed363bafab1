use Rattle.std.proofs.Common.{arith}
use Rattle.format.specs.Book.{body_answer}
use Rattle.writer.proofs.decisions.body_answer.Goals as goal

pub returns : goal.returns
unfolding body_answer
returns c = grind arith
