use Rattle.tables.proofs.ChangesBack.{rows_tell}
use Rattle.tables.proofs.tables.rows_tell_the_update.Goals as goal

pub returns : goal.returns
returns c = rows_tell
