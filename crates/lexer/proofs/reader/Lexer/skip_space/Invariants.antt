use Rattle.std.proofs.Common.{◌≡◌, ◌-◌, ◌≤◌, false, length}
use Rattle.lexer.proofs.Spaces.{skip_at}
use Rattle.lexer.proofs.reader.Lexer.skip_space.Given as goal

abbrev pub invariant-loop-at : goal.invariant-loop-at
invariant-loop-at l = (l.self.place ≤ l.at) × (l.at ≤ length l.self.src.now) × (skip_at l.comment l.self.src.now l.at ≡ skip_at false l.self.src.now l.self.place)

abbrev pub decreases-loop-at : goal.decreases-loop-at
decreases-loop-at l = length l.self.src.now - l.at
