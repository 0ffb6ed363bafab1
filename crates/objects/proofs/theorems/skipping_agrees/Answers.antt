use Rattle.objects.proofs.Extents.{skips}
use Rattle.objects.proofs.theorems.skipping_agrees.Goals as goal

pub returns : goal.returns
returns c = skips
