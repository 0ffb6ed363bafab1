use Rattle.laws.proofs.AnyOrder.{refused_alters_nothing}
use Rattle.laws.proofs.updates.refused_calls_alter_nothing.Goals as goal

pub returns : goal.returns
returns c = refused_alters_nothing
