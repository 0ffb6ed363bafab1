use Rattle.objects.proofs.Streams.{eol_skipped}
use Rattle.objects.proofs.stream.skip_eol.Goals as goal

pub returns-clause-is : goal.returns-clause-is
returns-clause-is c = rw (c.to.ensures.src, c.to.ensures.place, c.unwrap_or.ensures) (eol_skipped _ _ _ c.line_end.ensures.is)
