use Rattle.keeping.proofs.Asked.{count_rows}
use Rattle.keeping.proofs.answering.count_from_rows.Goals as goal

pub returns : goal.returns
returns c = count_rows
