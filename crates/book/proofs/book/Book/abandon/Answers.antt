use Rattle.std.proofs.Common.{refl}
use Rattle.format.specs.Book.{spent_after}
use Rattle.records.proofs.Answering.{handed}
use Rattle.book.proofs.book.Book.abandon.Goals as goal

pub returns-in_err-perform-clause-slip : goal.returns-in_err-perform-clause-slip
unfolding spent_after
returns-in_err-perform-clause-slip g c =
    let z = handed c.from_residual.result c.in_err-perform.field-0.0 c.from_residual.ensures.1 in
    rw z refl

pub returns-clause-slip : goal.returns-clause-slip
unfolding spent_after
returns-clause-slip g c = c.spend.ensures
