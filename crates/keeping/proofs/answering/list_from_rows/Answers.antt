use Rattle.keeping.proofs.Asked.{list_rows}
use Rattle.keeping.proofs.answering.list_from_rows.Goals as goal

pub returns : goal.returns
returns c = list_rows
