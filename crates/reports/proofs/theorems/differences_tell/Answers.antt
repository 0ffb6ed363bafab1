use Rattle.reports.proofs.Telling.{tell, whole}
use Rattle.reports.proofs.theorems.differences_tell.Goals as goal

pub returns : goal.returns
returns c = record { tell = tell; whole = whole }
