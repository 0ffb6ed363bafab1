use Rattle.objects.proofs.Walks.{finds}
use Rattle.objects.proofs.theorems.walks_find.Goals as goal

pub returns : goal.returns
returns c = finds
