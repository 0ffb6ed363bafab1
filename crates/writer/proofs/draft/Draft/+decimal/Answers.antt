use Rattle.std.proofs.Common.{ℕ, [], ◌∷◌, length, sym, ap, arith}
use Rattle.format.specs.Writing.{decimal}
use Rattle.writer.proofs.Decimals.{decimal_one, decimal_more, decimal_more_length}
use Rattle.writer.proofs.Joined.{adds_then, adds_as}
use Rattle.writer.proofs.draft.Draft.+decimal.Goals as goal

pub byte-requires : goal.byte-requires
byte-requires t c = omega (arith, ap length (decimal_one c.args.n.value (omega arith)))

pub decimal-requires : goal.decimal-requires
decimal-requires t c = omega (arith, decimal_more_length c.args.n.value (omega arith) c.args.n.small, ap (λ k. length (decimal k)) c.tens.ensures)

pub byte-requires-else-n-lt10 : goal.byte-requires-else-n-lt10
byte-requires-else-n-lt10 t c = omega (arith, decimal_more_length c.args.n.value (omega arith) c.args.n.small, ap (λ k. length (decimal k)) c.tens.ensures)

pub returns-then-n-lt10 : goal.returns-then-n-lt10
returns-then-n-lt10 t c = adds_as c.byte.ensures (sym (decimal_one c.args.n.value (omega arith)))

pub returns-else-n-lt10 : goal.returns-else-n-lt10
returns-else-n-lt10 t c =
    adds_as (adds_then (rw c.tens.ensures at c.decimal.ensures) (adds_as c.byte-else-n-lt10.ensures (ap (λ (m : ℕ). m ∷ []) c.last_digit.ensures))) (sym (decimal_more c.args.n.value (omega arith) c.args.n.small))
