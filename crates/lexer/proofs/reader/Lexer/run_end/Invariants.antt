use Rattle.std.proofs.Common.{◌-◌, ◌≤◌, length}
use Rattle.format.specs.Bytes.{is_regular}
use Rattle.lexer.proofs.RunsByStep.{RunTo}
use Rattle.lexer.proofs.reader.Lexer.run_end.Given as goal

abbrev pub invariant-loop-at : goal.invariant-loop-at
invariant-loop-at l = (l.self.place ≤ l.at) × (l.at ≤ length l.self.src.now) × RunTo is_regular l.self.src.now l.self.place l.at

abbrev pub decreases-loop-at : goal.decreases-loop-at
decreases-loop-at l = length l.self.src.now - l.at
