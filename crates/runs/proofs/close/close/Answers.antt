use Rattle.std.proofs.Common.{sym, ap, ◌∙◌}
use Rattle.book.specs.Books.{moment_of}
use Rattle.book.specs.Slips.{is_spent}
use Rattle.runs.proofs.Ties.{abandoned_spent, abandoned_store}
use Rattle.runs.proofs.close.close.Goals as goal

pub drop-slip-requires-2 : goal.drop-slip-requires-2
drop-slip-requires-2 g c =
    abandoned_spent (moment_of g.S.Store.meaning c.args.book) _ c.abandon.result (is_spent c.args.slip) _ (sym c.is_spent.ensures ∙ c.if-is_spent.false) c.requires c.abandon.ensures.performs.step c.abandon.ensures.slip

pub returns : goal.returns
returns g c =
    ap g.S.Store.meaning c.into_parts-2.ensures
    ∙ abandoned_store (moment_of g.S.Store.meaning c.args.book) (moment_of g.S.Store.meaning c.abandon.new.self) c.abandon.result (is_spent c.args.slip) c.abandon.ensures.performs.step
