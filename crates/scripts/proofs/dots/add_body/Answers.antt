use Rattle.scripts.specs.Dots.{undotted}
use Rattle.scripts.proofs.dots.add_body.Goals as goal

pub returns : goal.returns
unfolding undotted
returns c = c.add_bytes.ensures
