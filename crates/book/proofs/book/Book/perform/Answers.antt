use Rattle.book.specs.declared.call.Phase.TheVariants.{Shut, Standing}
use Rattle.book.proofs.Obstacles.{shut_others, standing_others}
use Rattle.book.proofs.Performed.{not_allowed}
use Rattle.book.proofs.book.Book.perform.Goals as goal

pub returns-in_default : goal.returns-in_default
returns-in_default g c =
    not_allowed g.S.Store.meaning c.args.self.now Shut c.args.call.now _ c.in-Shut.is (shut_others c.args.call.now c.in_default.not-Open) c.refusal.ensures c.args.self.now.sound

pub returns-in_default-call : goal.returns-in_default-call
returns-in_default-call g c =
    not_allowed g.S.Store.meaning c.args.self.now Standing c.args.call.now _ c.in-Standing.is (standing_others c.args.call.now c.in_default-call.not-Begin c.in_default-call.not-Back) c.refusal-in_default-call.ensures c.args.self.now.sound
