use Rattle.objects.proofs.PlacesOfFrames.{faults_within}
use Rattle.objects.proofs.theorems.faults_lie_within.Goals as goal

pub returns : goal.returns
returns c = faults_within
