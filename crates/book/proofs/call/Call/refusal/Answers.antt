use Rattle.std.proofs.Common.{◌≡◌, subst}
use Rattle.faults.specs.Faults.{refused}
use Rattle.book.specs.Calls.{Refuses, number_of, obstacle}
use Rattle.book.proofs.Obstacles.{refuses}
use Rattle.book.proofs.call.Call.refusal.Goals as goal

pub returns : goal.returns
returns c =
    let e : refused (obstacle c.args.phase c.args.self.now) (number_of c.args.self.now) ≡ c.refused.result = cc in
    subst (λ f. Refuses c.args.phase c.args.self.now f) e (refuses c.args.phase c.args.self.now)
