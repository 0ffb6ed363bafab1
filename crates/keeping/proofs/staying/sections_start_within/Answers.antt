use Rattle.keeping.proofs.Starts.{sections_start}
use Rattle.keeping.proofs.staying.sections_start_within.Goals as goal

pub returns : goal.returns
returns c = sections_start
