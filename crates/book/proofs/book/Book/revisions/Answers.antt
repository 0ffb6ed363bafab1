use Rattle.std.proofs.Common.{length, Ok, Err, sym, ap, ◌∙◌}
use Rattle.keeping.proofs.Asked.{count_rows, shut_answers}
use Rattle.book.proofs.Questioned.{open_book}
use Rattle.book.proofs.book.Book.revisions.Goals as goal

pub returns-then-is_shut : goal.returns-then-is_shut
returns-then-is_shut g c = ap Err c.refused.ensures ∙ sym (shut_answers _ (sym c.if-is_shut.ensures)).count

pub returns : goal.returns
returns g c =
    ap (λ rs. Ok (length rs)) c.revisions.ensures
    ∙ sym (count_rows _ _ _ (open_book g.S.Store.meaning c.args.self.now c.args.self.now.sound (sym c.if-is_shut.ensures)))
