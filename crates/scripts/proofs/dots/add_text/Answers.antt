use Rattle.scripts.specs.Dots.{dotted}
use Rattle.scripts.proofs.dots.add_text.Goals as goal

pub returns : goal.returns
unfolding dotted
returns c = c.add_bytes.ensures
