use Rattle.std.proofs.Common.{◌*◌, ◌+◌, ◌-◌, get_or, sym, ap, ◌∙◌, arith, lit<}
use Rattle.opening.proofs.Digits.{next_power}
use Rattle.opening.proofs.Runs.{spelt_none, spelt_more}
use Rattle.opening.proofs.numbers.number.Goals as goal

pub loop-b-init : goal.loop-b-init
loop-b-init c = (spelt_none, lit< tt)

pub loop-b-preserved : goal.loop-b-preserved
loop-b-preserved c = (
  c.with_digit-n.ensures
      ∙ ap (λ m. m * 10 + (get_or c.args.digits.now c.loop-b.b-index 0 - 48)) c.loop-b.invariant.0
      ∙ sym (spelt_more c.args.digits.now c.loop-b.b-index (omega arith)),
  next_power c.loop-b.n _ _ c.loop-b.b-index (c.loop-b.b-index + 1) c.with_digit-n.ensures (omega arith) c.loop-b.invariant.1 (c.requires.digits c.loop-b.b-index 0 (omega arith)),
)
