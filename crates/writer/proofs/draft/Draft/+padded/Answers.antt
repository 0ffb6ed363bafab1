use Rattle.std.proofs.Common.{ℕ, [], ◌∷◌, sym, ap, arith}
use Rattle.writer.proofs.Decimals.{padded_last, padded_none}
use Rattle.writer.proofs.Joined.{adds_none, adds_then, adds_as}
use Rattle.writer.proofs.draft.Draft.+padded.Goals as goal

pub returns-then-k-gt0 : goal.returns-then-k-gt0
returns-then-k-gt0 t c = adds_as (adds_then c.padded.ensures (adds_as c.byte.ensures (ap (λ (m : ℕ). m ∷ []) c.last_digit.ensures))) (sym (padded_last c.args.k c.args.n (omega arith)))

pub returns-else-k-gt0 : goal.returns-else-k-gt0
returns-else-k-gt0 t c = adds_as (adds_none c.args.self.now) (sym (padded_none c.args.k c.args.n (omega arith)))
