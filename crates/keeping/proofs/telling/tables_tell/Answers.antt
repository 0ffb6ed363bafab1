use Rattle.keeping.proofs.Told.{tables_tell}
use Rattle.keeping.proofs.telling.tables_tell.Goals as goal

pub returns : goal.returns
returns c = tables_tell
