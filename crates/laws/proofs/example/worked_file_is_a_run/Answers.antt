use Rattle.laws.proofs.Computed.{worked_run}
use Rattle.laws.proofs.example.worked_file_is_a_run.Goals as goal

pub returns : goal.returns
returns c = worked_run
