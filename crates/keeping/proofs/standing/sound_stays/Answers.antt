use Rattle.keeping.proofs.Sound.{sound_stays}
use Rattle.keeping.proofs.standing.sound_stays.Goals as goal

pub returns : goal.returns
returns c = sound_stays
