use Rattle.opening.proofs.Words.{eol_read, eol_within}
use Rattle.opening.proofs.lines.eol.Goals as goal

pub returns : goal.returns
returns c = record { is = λ base. eol_read _ _ base _ c.line_end.ensures.is; within = eol_within _ _ _ c.line_end.ensures.within }
