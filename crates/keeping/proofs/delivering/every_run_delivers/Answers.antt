use Rattle.keeping.proofs.Delivers.{every_run}
use Rattle.keeping.proofs.delivering.every_run_delivers.Goals as goal

pub returns : goal.returns
returns c = every_run
