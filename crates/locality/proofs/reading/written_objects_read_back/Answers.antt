use Rattle.locality.proofs.Written.{frame_read}
use Rattle.locality.proofs.reading.written_objects_read_back.Goals as goal

pub returns : goal.returns
returns c = frame_read
