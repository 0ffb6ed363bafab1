use Rattle.keeping.proofs.Kept.{tables_cut}
use Rattle.keeping.proofs.staying.tables_are_cut.Goals as goal

pub returns : goal.returns
returns c = tables_cut
