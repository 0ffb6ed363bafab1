use Rattle.std.proofs.Common.{◌≡◌, ◌≤◌, false}
use Rattle.lexer.specs.Numerals.{walk}
use Rattle.lexer.proofs.Numerals.{walk_at}
use Rattle.lexer.proofs.run.Run.size.Given as goal

abbrev pub invariant-loop-at : goal.invariant-loop-at
invariant-loop-at l = (l.size ≤ 2147483649) × (walk_at l.period l.digit l.size l.self.bytes.now l.self.from l.at ≡ walk false false 0 l.self.from l.self.bytes.now)
