use Rattle.keeping.proofs.Kept.{tables_grow}
use Rattle.keeping.proofs.staying.tables_grow.Goals as goal

pub returns : goal.returns
returns c = tables_grow
