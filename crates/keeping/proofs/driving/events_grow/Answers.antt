use Rattle.keeping.proofs.Runs.{events_grow}
use Rattle.keeping.proofs.driving.events_grow.Goals as goal

pub returns : goal.returns
returns c = events_grow
