use Rattle.std.proofs.Common.{◌≡◌, ◌-◌, length, vec_items}
use Rattle.replay.specs.Readings.{TokensBetween}
use Rattle.replay.proofs.readings.tokens.Given as goal

abbrev pub invariant-loop-values : goal.invariant-loop-values
invariant-loop-values l = (l.lexer.src.now ≡ l.src) × TokensBetween l.src 0 (vec_items l.values) l.lexer.place

abbrev pub decreases-loop-values : goal.decreases-loop-values
decreases-loop-values l = length l.src - l.lexer.place
