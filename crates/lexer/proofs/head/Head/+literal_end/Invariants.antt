use Rattle.std.proofs.Common.{suc, ◌-◌, ◌<◌, length, drop}
use Rattle.format.specs.Strings.{string_by}
use Rattle.lexer.proofs.Literals.{Left}
use Rattle.lexer.proofs.head.Head.+literal_end.Given as goal

abbrev pub decreases-literal_end : goal.decreases-literal_end
decreases-literal_end l = l.depth

abbrev pub invariant-inside : goal.invariant-inside
invariant-inside l = (l.self.at < l.at) × Left (string_by (l.depth - 1)) l.self.src.now l.at (string_by l.depth l.self.at (drop (suc l.self.at) l.self.src.now))

abbrev pub decreases-inside : goal.decreases-inside
decreases-inside l = length l.self.src.now - l.at
