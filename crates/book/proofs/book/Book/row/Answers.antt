use Rattle.std.proofs.Common.{Err, ok_or, sym, ap, ◌∙◌, subst}
use Rattle.book.specs.Asked.{RowAsked}
use Rattle.book.specs.Books.{moment_of, revisions_in, cells_in}
use Rattle.book.specs.Rows.{Found}
use Rattle.book.proofs.Questioned.{shut_row, row_asked, open_book}
use Rattle.book.proofs.book.Book.row.Goals as goal

pub returns-then-is_shut : goal.returns-then-is_shut
returns-then-is_shut g c = shut_row _ c.args.object c.args.k (sym c.if-is_shut.ensures) ∙ ap Err (sym c.refused.ensures)

pub returns : goal.returns
returns g c =
    let m = g.S.Store.meaning in
    let b = c.args.self.now in
    let f = subst (λ rs. Found rs c.args.k c.row_of.result) c.revisions.ensures c.row_of.ensures in
    let a = row_asked (moment_of m b) (revisions_in b) (cells_in b) c.args.object c.args.k c.row_of.result (open_book m b b.sound (sym c.if-is_shut.ensures)) f in
    let e = c.ok_or.ensures.value ∙ ap (ok_or c.row_of.result) c.refused-2.ensures in
    subst (λ r. RowAsked (moment_of m b) (revisions_in b) (cells_in b) c.args.object c.args.k r) (sym e) a
