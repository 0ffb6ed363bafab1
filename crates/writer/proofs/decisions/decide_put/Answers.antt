use Rattle.std.proofs.Common.{◌≡◌, Err, sym, ap, ◌∙◌}
use Rattle.std.proofs.lemmas.Result.{err_from_is_err_and}
use Rattle.writer.specs.Helds.{update_of}
use Rattle.writer.proofs.Decided.{put_not_may, put_again, put_body, put_full, put_ok}
use Rattle.writer.proofs.decisions.decide_put.Goals as goal

pub returns-then-not-may_put : goal.returns-then-not-may_put
returns-then-not-may_put c = λ file v t.
    ap Err c.refused.ensures ∙ put_not_may v (update_of c.args.held.now) c.args.n c.args.bytes.now (sym (c.if-not-may_put.ensures file v t))

pub returns-then-has : goal.returns-then-has
returns-then-has c = λ file v t.
    ap Err c.refused-then-has.ensures
    ∙ put_again v (update_of c.args.held.now) c.args.n c.args.bytes.now (sym (c.if-not-may_put.ensures file v t)) (sym c.if-has.ensures)

pub returns-in_err-body_answer : goal.returns-in_err-body_answer
returns-in_err-body_answer c = λ file v t.
    let p = err_from_is_err_and c.from_residual.result c.from_residual.ensures.1 in
    let z : c.from_residual.result ≡ Err c.in_err-body_answer.field-0.0 = cc in
    z
    ∙ put_body v (update_of c.args.held.now) c.args.n c.args.bytes.now c.in_err-body_answer.field-0.0 (sym (c.if-not-may_put.ensures file v t)) (sym c.if-has.ensures) (sym c.in_err-body_answer.ensures)

pub returns-then-not-has_room : goal.returns-then-not-has_room
returns-then-not-has_room c = λ file v t.
    ap Err c.refused-then-not-has_room.ensures
    ∙ put_full v (update_of c.args.held.now) c.args.n c.args.bytes.now (sym (c.if-not-may_put.ensures file v t)) (sym c.if-has.ensures) (sym c.in_ok-body_answer.ensures) (sym c.if-not-has_room.ensures)

pub returns : goal.returns
returns c = λ file v t.
    put_ok v (update_of c.args.held.now) c.args.n c.args.bytes.now (sym (c.if-not-may_put.ensures file v t)) (sym c.if-has.ensures) (sym c.in_ok-body_answer.ensures) (sym c.if-not-has_room.ensures)
