use Rattle.std.proofs.Common.{refl}
use Rattle.scripts.specs.Scripts.{said_by}
use Rattle.scripts.proofs.cursor.Cursor.new.Goals as goal

pub returns : goal.returns
unfolding said_by
returns c = refl
