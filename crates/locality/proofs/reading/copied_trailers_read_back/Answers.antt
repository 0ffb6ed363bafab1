use Rattle.locality.proofs.Fits.{entries_fit}
use Rattle.locality.proofs.Tells.{new_told}
use Rattle.locality.proofs.Trailers.{new_fit, trailer_read}
use Rattle.locality.proofs.reading.copied_trailers_read_back.Goals as goal

pub returns : goal.returns
returns c = record { fit = entries_fit; stay_fit = new_fit; read_back = trailer_read; tell = new_told }
