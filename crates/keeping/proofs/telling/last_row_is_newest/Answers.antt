use Rattle.keeping.proofs.Told.{last_row}
use Rattle.keeping.proofs.telling.last_row_is_newest.Goals as goal

pub returns : goal.returns
returns c = last_row
