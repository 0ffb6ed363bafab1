use Rattle.std.proofs.Common.{◌+◌, length, arith, rules}
use Rattle.opening.proofs.Answered.{Faulted, placed_given}
use Rattle.opening.proofs.view.View.placed.Goals as goal

pub returns : goal.returns
returns g c =
    let self = c.args.self in
    let faulted : Faulted (self.base + self.at.place) (self.base + length self.at.src.now) c.args.part c.map_err.result = search rules in
    placed_given self.at.src.now self.at.place self.base _ _ (omega arith) faulted
