use Rattle.keeping.proofs.Asked.{draw_rows}
use Rattle.keeping.proofs.answering.draw_from_rows.Goals as goal

pub returns : goal.returns
returns c = draw_rows
