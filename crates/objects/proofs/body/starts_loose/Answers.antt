use Rattle.std.proofs.Common.{rules}
use Rattle.format.specs.Frames.{starts_loose}
use Rattle.objects.proofs.body.starts_loose.Goals as goal

pub returns : goal.returns
unfolding starts_loose
returns c = search rules
