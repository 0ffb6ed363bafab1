use Rattle.keeping.proofs.Kept.{one_more}
use Rattle.keeping.proofs.staying.tables_take_one_more.Goals as goal

pub returns : goal.returns
returns c = one_more
