use Rattle.writer.proofs.numbers.planned.Goals as goal

pub returns-in-Some : goal.returns-in-Some
returns-in-Some c = λ file pool. rw c.in-Some.is (c.changed.ensures file pool c.args.before (c.generation_of.ensures file))

pub returns-in-None : goal.returns-in-None
returns-in-None c = λ file pool. rw c.in-None.is (c.unchanged.ensures file c.args.at)
