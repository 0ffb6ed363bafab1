use Rattle.std.proofs.Common.{length, vec_items, refl, ap, ◌∙◌}
use Rattle.book.specs.Books.{moment_of}
use Rattle.runs.proofs.Working.{run_none, run_more, one_more}
use Rattle.runs.proofs.work.make_calls.Goals as goal

pub loop-call-init : goal.loop-call-init
loop-call-init g c =
    (ap length c.requires.none, refl, run_none (moment_of g.S.Store.meaning c.args.book.now) _ _ c.requires.none, c.requires.tied)

pub loop-call-preserved : goal.loop-call-preserved
loop-call-preserved g c =
    let before = vec_items c.loop-call.answers in (
      one_more before _ _ c.loop-call.call-index c.loop-call.invariant.0 c.push_reserved.ensures.items,
      c.push_reserved.ensures.capacity ∙ c.loop-call.invariant.1,
      run_more g.S.Store.meaning _ c.args.calls.now before _ c.loop-call.book c.make_call-answer.new.book c.make_call-answer.new.slip _ c.make_call-answer.result c.loop-call.call-index c.loop-call.invariant.0 c.loop-call-test.true c.push_reserved.ensures.items c.loop-call.invariant.2 c.make_call-answer.ensures,
      c.make_call-answer.ensures.tied,
    )
