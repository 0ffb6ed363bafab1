use Rattle.std.proofs.Common.{◌≤◌, length, IfErr, rules}
use Rattle.objects.proofs.Cases.{handed, Moved, moved_ok, moved_err}
use Rattle.objects.proofs.FramesMoved.{frame_moved, fault_moved, fault_within}
use Rattle.objects.proofs.frame.read_frame_at.Goals as goal

pub map_err-requires : goal.map_err-requires
map_err-requires c = let h : IfErr c.read_frame.result (λ f. f.place ≤ length c.args.src.now) = fault_within _ _ c.read_frame.ensures.is in search rules

pub returns : goal.returns
returns c =
    let moved : Moved c.args.base c.read_frame.result c.map_err.result = search rules in
    let e = moved_ok _ _ _ _ moved c.in_ok-frame.was in
    let is = rw e at c.read_frame.ensures.is in
    let within = rw e at c.read_frame.ensures.within in
    let r = frame_moved _ _ _ _ is within c.later.ensures in
    record { is = r.0; within = r.1 }

pub returns-in_err-frame-clause-is : goal.returns-in_err-frame-clause-is
returns-in_err-frame-clause-is c =
    let z = handed c.from_residual.result c.in_err-frame.field-0.0 c.from_residual.ensures.1 in
    let moved : Moved c.args.base c.read_frame.result c.map_err.result = search rules in
    let e = moved_err _ _ _ _ moved c.in_err-frame.was in
    let is = rw e.1 at c.read_frame.ensures.is in
    rw z (fault_moved _ _ _ _ is e.2)
