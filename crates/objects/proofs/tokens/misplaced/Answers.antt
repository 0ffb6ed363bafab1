use Rattle.std.proofs.Common.{rules}
use Rattle.objects.specs.Steps.{misplaced}
use Rattle.objects.proofs.tokens.misplaced.Goals as goal

pub returns : goal.returns
unfolding misplaced
returns c = search rules
