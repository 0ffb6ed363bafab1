use Rattle.std.proofs.Common.{arith}
use Rattle.lexer.specs.Numerals.{capped}
use Rattle.lexer.proofs.number.more_size.Goals as goal

pub returns-clause-is : goal.returns-clause-is
unfolding capped
returns-clause-is c = omega (arith, c.from.ensures, c.from-2.ensures, c.min.ensures)
