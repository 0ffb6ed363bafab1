use Rattle.std.proofs.Common.{ap, ◌∙◌}
use Rattle.format.specs.Bytes.{bad}
use Rattle.objects.proofs.Cases.{handed}
use Rattle.objects.proofs.Frames.{frame_loose, frame_bad, frame_there}
use Rattle.objects.proofs.frame.read_frame.Goals as goal

pub returns-then-skip_space-ne0-clause-is : goal.returns-then-skip_space-ne0-clause-is
returns-then-skip_space-ne0-clause-is c =
    let space = rw (c.new-at.ensures.src, c.new-at.ensures.place) at c.skip_space.ensures.is in
    ap bad c.met.ensures ∙ frame_loose _ _ space c.if-skip_space-ne0.true

pub returns-clause-is : goal.returns-clause-is
returns-clause-is c =
    let space = rw (c.new-at.ensures.src, c.new-at.ensures.place) at c.skip_space.ensures.is in
    let number = rw (c.new-at.ensures.src, c.new-at.ensures.place) at c.in_ok-number.ensures.is in
    let rest = rw (c.to.ensures.src, c.new-at.ensures.src, c.to.ensures.place) at c.frame_rest.ensures.is in
    frame_there _ _ space c.if-skip_space-ne0.false _ _ _ number rest

pub returns-in_err-number-clause-is : goal.returns-in_err-number-clause-is
returns-in_err-number-clause-is c =
    let z = handed c.from_residual.result c.in_err-number.field-0.0 c.from_residual.ensures.1 in
    let space = rw (c.new-at.ensures.src, c.new-at.ensures.place) at c.skip_space.ensures.is in
    let number = rw (c.new-at.ensures.src, c.new-at.ensures.place) at c.in_err-number.ensures.is in
    rw z (frame_bad _ _ space c.if-skip_space-ne0.false _ number)
