use Rattle.tables.proofs.Made.{rows_make}
use Rattle.tables.proofs.tables.rows_make_the_revision.Goals as goal

pub returns : goal.returns
returns c = rows_make
