use Rattle.std.proofs.Common.{rules}
use Rattle.objects.specs.Extents.{reached}
use Rattle.objects.proofs.ahead.is_reached.Goals as goal

pub returns : goal.returns
unfolding reached
returns c = search rules
