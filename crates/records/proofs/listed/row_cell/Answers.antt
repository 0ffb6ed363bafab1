use Rattle.std.proofs.Common.{Err, sym, ap, ◌∙◌, rules}
use Rattle.records.proofs.Answering.{handed}
use Rattle.records.proofs.Reading.{Named, named_ok, named_err, free_read, frame_read, frame_refused}
use Rattle.records.proofs.listed.row_cell.Goals as goal

pub returns-in_ok-frame-in-Used-clause-is : goal.returns-in_ok-frame-in-Used-clause-is
returns-in_ok-frame-in-Used-clause-is g c =
    let file = (g.S.Store.meaning c.args.store.now).bytes in
    let named : Named c.args.row.number c.frame_at.result c.map_err.result = search rules in
    let e = named_ok _ _ _ _ named c.in_ok-frame-in-Used.was in
    let is = rw e at c.frame_at.ensures.is in
    let within = rw e at c.frame_at.ensures.within in
    rw c.in-Used.is (frame_read file c.args.offset c.args.row.number c.in-Used.object c.in-Used.generation _ c.frame_at.ensures.seen _ c.framed_cell.result is within c.framed_cell.ensures)

pub returns-in_err-frame-in-Used-clause-is : goal.returns-in_err-frame-in-Used-clause-is
returns-in_err-frame-in-Used-clause-is g c =
    let file = (g.S.Store.meaning c.args.store.now).bytes in
    let z = handed c.from_residual.result c.in_err-frame-in-Used.field-0.0 c.from_residual.ensures.1 in
    let named : Named c.args.row.number c.frame_at.result c.map_err.result = search rules in
    let e = named_err _ _ _ _ named c.in_err-frame-in-Used.was in
    let is = rw e.1 at c.frame_at.ensures.is in
    rw z (rw c.in-Used.is (frame_refused file c.args.offset c.args.row.number c.in-Used.object c.in-Used.generation _ c.frame_at.ensures.seen e.0 is ∙ ap Err (sym e.2)))

pub returns-in-Free-clause-is : goal.returns-in-Free-clause-is
returns-in-Free-clause-is g c =
    rw c.in-Free.is (free_read (g.S.Store.meaning c.args.store.now).bytes c.args.offset c.args.row.number c.in-Free.next c.in-Free.generation)
