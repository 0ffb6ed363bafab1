use Rattle.locality.proofs.LocalTrailers.{trailer_local}
use Rattle.locality.proofs.reading.trailers_are_local.Goals as goal

pub returns : goal.returns
returns c = trailer_local
