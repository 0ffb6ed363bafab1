use Rattle.runs.proofs.Working.{finished, opened_tied, unopened}
use Rattle.runs.proofs.work.work_with.Goals as goal

pub make_calls-requires-clause-tied : goal.make_calls-requires-clause-tied
make_calls-requires-clause-tied g c =
    opened_tied g.S.Store.meaning c.new-book.result c.open.new.self c.spent-slip.result c.new-book.ensures.shut c.spent-slip.ensures c.in-Ok.ensures.performs

pub returns-in-Ok-clause-worked : goal.returns-in-Ok-clause-worked
returns-in-Ok-clause-worked g c =
    rw c.new-book.ensures.store at (finished g.S.Store.meaning c.new-book.result c.open.new.self _ c.args.calls.now _ _ c.new-book.ensures.shut c.in-Ok.ensures.performs c.make_calls.ensures)

pub returns-in-Err-clause-worked : goal.returns-in-Err-clause-worked
returns-in-Err-clause-worked g c =
    rw (c.given_back.ensures.cause, ← c.new-book.ensures.store) (unopened g.S.Store.meaning c.new-book.result c.open.new.self c.in-Err.fault _ c.new-book.ensures.shut c.in-Err.ensures.performs c.given_back.ensures.store)
