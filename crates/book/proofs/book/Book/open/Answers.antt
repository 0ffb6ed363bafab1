use Rattle.std.proofs.Common.{refl, ◌∙◌}
use Rattle.format.specs.Book.{phase_after}
use Rattle.book.proofs.Performed.{rows_counted, stands_after}
use Rattle.book.proofs.book.Book.open.Goals as goal

pub returns-clause-counted : goal.returns-clause-counted
unfolding phase_after
returns-clause-counted g c =
    let p = c.in_ok-perform.ensures in
    c.len.ensures ∙ rows_counted g.S.Store.meaning c.perform.new.self p.sound (stands_after g.S.Store.meaning c.args.self.now c.perform.new.self _ refl p)
