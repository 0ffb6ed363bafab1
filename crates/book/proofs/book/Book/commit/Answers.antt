use Rattle.std.proofs.Common.{Ok, refl, ap, ◌∙◌, subst}
use Rattle.format.specs.Book.{commit, spent_after, phase_after}
use Rattle.records.proofs.Answering.{handed}
use Rattle.book.specs.Books.{Performs}
use Rattle.book.proofs.Performed.{rows_counted, stands_after}
use Rattle.book.proofs.book.Book.commit.Goals as goal

pub returns-in_err-perform-clause-slip : goal.returns-in_err-perform-clause-slip
unfolding spent_after
returns-in_err-perform-clause-slip g c =
    let z = handed c.from_residual.result c.in_err-perform.field-0.0 c.from_residual.ensures.1 in
    rw z refl

pub returns-clause-counted : goal.returns-clause-counted
unfolding phase_after
returns-clause-counted g c =
    let k = ap commit c.is_spent-spent.ensures in
    let p = subst (λ x. Performs g.S.Store.meaning c.args.self.now x (Ok tt) c.perform.new.self) k c.in_ok-perform.ensures in
    c.len.ensures ∙ rows_counted g.S.Store.meaning c.perform.new.self p.sound (stands_after g.S.Store.meaning c.args.self.now c.perform.new.self _ refl p)

pub returns-clause-slip : goal.returns-clause-slip
unfolding spent_after
returns-clause-slip g c = c.spend.ensures
