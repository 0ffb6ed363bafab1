use Rattle.std.proofs.Common.{refl, ap}
use Rattle.format.specs.Book.{commit, abandon}
use Rattle.book.specs.Books.{done, moment_of}
use Rattle.book.specs.Calls.{call_of}
use Rattle.book.specs.Slips.{is_spent}
use Rattle.runs.proofs.Making.{done_is, spends}
use Rattle.runs.proofs.Ties.{begun_idle, spent_by_commit, spent_by_abandon}
use Rattle.runs.proofs.step.make_with.Goals as goal

pub drop-slip-requires : goal.drop-slip-requires
drop-slip-requires g c =
    c.requires
    (begun_idle (moment_of g.S.Store.meaning c.args.book.now) (moment_of g.S.Store.meaning c.begin.new.self) tt c.in_ok-owed-in-Begin.ensures.performs.step)

pub returns-in-Commit : goal.returns-in-Commit
returns-in-Commit g c =
    let x = is_spent c.args.slip.now in
    spends g.S.Store.meaning c.args.book.now c.commit.new.self x (commit c.in-Commit.spent) (call_of c.args.call.now) (done c.commit.result) c.map-in-Commit.result c.commit.new.slip
    (ap call_of c.in-Commit.is) (done_is _ _ _ c.map-in-Commit.ensures.cases) c.commit.ensures.performs c.commit.ensures.slip (spent_by_commit _ x c.in-Commit.spent)

pub returns-in-Abandon : goal.returns-in-Abandon
returns-in-Abandon g c =
    let x = is_spent c.args.slip.now in
    spends g.S.Store.meaning c.args.book.now c.abandon.new.self x (abandon c.in-Abandon.spent) (call_of c.args.call.now) c.abandon.result c.abandon.result c.abandon.new.slip
    (ap call_of c.in-Abandon.is) refl c.abandon.ensures.performs c.abandon.ensures.slip (spent_by_abandon _ x c.in-Abandon.spent)
