use Rattle.keeping.proofs.Asked.{fetch_cells}
use Rattle.keeping.proofs.answering.fetch_from_cells.Goals as goal

pub returns : goal.returns
returns c = fetch_cells
