use Rattle.objects.proofs.Cases.{handed}
use Rattle.objects.proofs.Frames.{body_bad, end_bad, framed_whole}
use Rattle.objects.proofs.frame.frame_body.Goals as goal

pub returns-clause-is : goal.returns-clause-is
returns-clause-is c =
    let b = rw (c.to.ensures.src, c.to.ensures.place) at c.in_ok-end.ensures.is in
    let w = rw (c.to-2.ensures.src, c.to-2.ensures.place) at c.in_ok-behind.ensures.is in
    framed_whole _ _ _ _ _ c.skip_space-start.ensures.is _ b _ w

pub returns-in_err-behind-clause-is : goal.returns-in_err-behind-clause-is
returns-in_err-behind-clause-is c =
    let z = handed c.from_residual-in_err-behind.result c.in_err-behind.field-0.0 c.from_residual-in_err-behind.ensures.1 in
    let b = rw (c.to.ensures.src, c.to.ensures.place) at c.in_ok-end.ensures.is in
    let w = rw (c.to-2.ensures.src, c.to-2.ensures.place) at c.in_err-behind.ensures.is in
    rw z (end_bad _ _ _ _ _ c.skip_space-start.ensures.is _ b _ w)

pub returns-in_err-end-clause-is : goal.returns-in_err-end-clause-is
returns-in_err-end-clause-is c =
    let z = handed c.from_residual.result c.in_err-end.field-0.0 c.from_residual.ensures.1 in
    let b = rw (c.to.ensures.src, c.to.ensures.place) at c.in_err-end.ensures.is in
    rw z (body_bad _ _ _ _ _ c.skip_space-start.ensures.is _ b)
