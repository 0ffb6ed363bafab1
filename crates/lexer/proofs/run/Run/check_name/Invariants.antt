use Rattle.std.proofs.Common.{◌≡◌, ◌-◌, ◌≤◌, length}
use Rattle.format.specs.Names.{decode, plain}
use Rattle.lexer.specs.Spelled.{checked}
use Rattle.lexer.proofs.Names.{wrong_from}
use Rattle.lexer.proofs.run.Run.check_name.Given as goal

abbrev pub invariant-loop-at : goal.invariant-loop-at
invariant-loop-at l = (l.at ≤ length l.self.bytes.now) × (wrong_from l.self.bytes.now l.self.from l.at ≡ checked (decode plain l.self.from l.self.bytes.now))

abbrev pub decreases-loop-at : goal.decreases-loop-at
decreases-loop-at l = length l.self.bytes.now - l.at
