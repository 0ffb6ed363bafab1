use Rattle.tables.proofs.SoundTables.{opened_sound}
use Rattle.tables.proofs.tables.opened_tables_are_sound.Goals as goal

pub returns : goal.returns
returns c = opened_sound
