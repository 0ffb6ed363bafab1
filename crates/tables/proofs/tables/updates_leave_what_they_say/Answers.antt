use Rattle.tables.proofs.Applied.{leaves_said}
use Rattle.tables.proofs.tables.updates_leave_what_they_say.Goals as goal

pub returns : goal.returns
returns c = leaves_said
