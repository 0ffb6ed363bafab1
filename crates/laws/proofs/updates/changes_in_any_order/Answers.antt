use Rattle.laws.proofs.AnyOrder.{any_order}
use Rattle.laws.proofs.updates.changes_in_any_order.Goals as goal

pub returns : goal.returns
returns c = any_order
