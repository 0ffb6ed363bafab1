use Rattle.keeping.proofs.Delivers.{any_two}
use Rattle.keeping.proofs.delivering.any_two_compare.Goals as goal

pub returns : goal.returns
returns c = any_two
