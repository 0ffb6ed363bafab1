use Rattle.std.proofs.Common.{Some, sym, ap, ◌∙◌}
use Rattle.objects.proofs.Cases.{handed}
use Rattle.objects.proofs.Bodies.{put_loose, put_bad, put_more, put_all}
use Rattle.objects.proofs.body.check_body.Goals as goal

pub returns-then-starts_loose : goal.returns-then-starts_loose
returns-then-starts_loose c = ap Some c.met.ensures ∙ put_loose _ (sym c.if-starts_loose.ensures)

pub returns-then-end-src : goal.returns-then-end-src
returns-then-end-src c = ap Some c.met-then-end-src.ensures ∙ put_more _ (sym c.if-starts_loose.ensures) _ (rw (c.new.ensures.src, c.new.ensures.place) at c.in_ok-end.ensures.is) c.if-end-src.true

pub returns : goal.returns
returns c = put_all _ (sym c.if-starts_loose.ensures) _ (rw (c.new.ensures.src, c.new.ensures.place) at c.in_ok-end.ensures.is) c.if-end-src.false

pub returns-in_err-end : goal.returns-in_err-end
returns-in_err-end c =
    let z = handed c.from_residual.result c.in_err-end.field-0.0 c.from_residual.ensures.1 in
    rw z (put_bad _ (sym c.if-starts_loose.ensures) _ (rw (c.new.ensures.src, c.new.ensures.place) at c.in_err-end.ensures.is))
