use Rattle.runs.proofs.Working.{compared}
use Rattle.runs.proofs.compare.equal_files_hold_equal_updates.Goals as goal

pub returns-clause-compared : goal.returns-clause-compared
returns-clause-compared g c = compared g.S.Store.meaning g.T.Store.meaning _ _ _ _ _ _ c.work-one.ensures c.work-other.ensures
