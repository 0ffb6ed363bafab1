use Rattle.lexer.proofs.Names.{spelled_empty}
use Rattle.lexer.proofs.name.SpelledBytesIterator.next.Goals as goal

pub returns-then-name-eq0-clause-steps : goal.returns-then-name-eq0-clause-steps
returns-then-name-eq0-clause-steps c = (spelled_empty _ c.if-name-eq0.true, spelled_empty _ c.if-name-eq0.true)
