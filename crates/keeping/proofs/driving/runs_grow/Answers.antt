use Rattle.keeping.proofs.Runs.{runs_grow}
use Rattle.keeping.proofs.driving.runs_grow.Goals as goal

pub returns : goal.returns
returns c = runs_grow
