use Rattle.objects.proofs.ShiftedFrames.{frame_later}
use Rattle.objects.proofs.theorems.places_shift.Goals as goal

pub returns : goal.returns
returns c = frame_later
