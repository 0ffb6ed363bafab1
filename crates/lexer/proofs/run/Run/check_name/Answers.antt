use Rattle.std.proofs.Common.{◌+◌, ◌<◌, length, arith}
use Rattle.lexer.proofs.Cases.{handed}
use Rattle.lexer.proofs.Names.{wrong_ends, wrong_plain, is_far, checked_given, checked_left, ok_or_some, ok_or_none}
use Rattle.lexer.proofs.run.Run.check_name.Goals as goal

pub loop-at-preserved-then-run-at-ne35 : goal.loop-at-preserved-then-run-at-ne35
loop-at-preserved-then-run-at-ne35 c = (omega arith, wrong_plain _ _ _ c.loop-at-test.true c.if-run-at-ne35.true c.loop-at.invariant.1)

pub loop-at-preserved : goal.loop-at-preserved
loop-at-preserved c =
    let s = ok_or_some _ _ _ c.in_ok-ok_or.ensures.value in
    let l : c.loop-at.at + 2 < length c.args.self.bytes.now = is_far _ _ c.loop-at-test.true c.if-run-at-ne35.false _ c.escaped.ensures.far c.escaped.ensures.near _ s in
    (omega arith, checked_given _ _ c.loop-at-test.true c.if-run-at-ne35.false _ c.escaped.ensures.far c.escaped.ensures.near _ _ _ s c.loop-at.invariant.1)

pub returns-in_err-ok_or : goal.returns-in_err-ok_or
returns-in_err-ok_or c =
    let z = handed c.from_residual.result c.in_err-ok_or.field-0.0 c.from_residual.ensures.1 in
    let n = ok_or_none _ _ _ c.in_err-ok_or.ensures.value in
    rw (z, n.1) (checked_left _ _ c.loop-at-test.true c.if-run-at-ne35.false _ c.escaped.ensures.far c.escaped.ensures.near _ _ n.0 c.loop-at.invariant.1)

pub returns : goal.returns
returns c = wrong_ends _ _ _ c.loop-at-test.false c.loop-at.invariant.1
