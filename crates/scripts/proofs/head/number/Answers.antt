use Rattle.std.proofs.Common.{sym, ◌∙◌}
use Rattle.scripts.proofs.Words.{number_missing, number_there, number_said}
use Rattle.scripts.proofs.head.number.Goals as goal

pub returns-in_err-n : goal.returns-in_err-n
returns-in_err-n c =
    rw c.from_residual.ensures (sym (number_missing c.args.text.now c.digits.result c.ok.result (rw (c.new.ensures.src, c.new.ensures.place) at c.digits.ensures.is) c.ok.ensures.value c.in_err-n.was))

pub returns : goal.returns
returns c =
    let there = number_there c.args.text.now c.digits.result c.ok.result c.in_ok-n.n c.in_ok-n.end (rw (c.new.ensures.src, c.new.ensures.place) at c.digits.ensures.is) c.ok.ensures.value c.in_ok-n.was in
    c.then_some.ensures ∙ number_said _ _ _ c.in_ok-n.end there.0 there.1
