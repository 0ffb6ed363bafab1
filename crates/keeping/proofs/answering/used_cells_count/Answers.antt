use Rattle.keeping.proofs.Asked.{used_count}
use Rattle.keeping.proofs.answering.used_cells_count.Goals as goal

pub returns : goal.returns
returns c = used_count
