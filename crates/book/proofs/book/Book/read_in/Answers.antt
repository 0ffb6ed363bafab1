use Rattle.std.proofs.Common.{Ok, Err, refl, ap}
use Rattle.format.specs.Book.{open_file, shut, standing}
use Rattle.records.proofs.Answering.{handed}
use Rattle.book.specs.Books.{update_in}
use Rattle.book.specs.Calls.{phase_of}
use Rattle.book.proofs.Performed.{performs_at}
use Rattle.book.proofs.Steps.{opened_step, unopened_step}
use Rattle.book.proofs.book.Book.read_in.Goals as goal

pub returns-in_err-open_file : goal.returns-in_err-open_file
returns-in_err-open_file g c =
    let b = c.args.self.now in
    let m = g.S.Store.meaning in
    let z = handed c.from_residual.result c.in_err-open_file.field-0.0 c.from_residual.ensures.1 in
    let e = ap (λ q. phase_of q (update_in b)) c.requires in
    rw z (performs_at b _ open_file (Err c.in_err-open_file.field-0.0) shut shut e e (unopened_step (m b.store) _ c.in_err-open_file.ensures.is))

pub returns : goal.returns
returns g c =
    let b = c.args.self.now in
    let m = g.S.Store.meaning in
    let o = c.in_ok-open_file.ensures.is in
    performs_at b _ open_file (Ok tt) shut standing (ap (λ q. phase_of q (update_in b)) c.requires) refl
    (opened_step (m b.store) o.0 o.1)
