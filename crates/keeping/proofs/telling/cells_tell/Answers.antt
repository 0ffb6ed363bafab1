use Rattle.keeping.proofs.Told.{cells_tell}
use Rattle.keeping.proofs.telling.cells_tell.Goals as goal

pub returns : goal.returns
returns c = cells_tell
