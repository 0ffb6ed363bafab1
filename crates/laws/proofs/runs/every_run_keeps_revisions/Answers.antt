use Rattle.laws.proofs.Unconditional.{law}
use Rattle.laws.proofs.runs.every_run_keeps_revisions.Goals as goal

pub returns : goal.returns
returns c = law
