use Rattle.sections.proofs.LastOffset.{last_found}
use Rattle.sections.proofs.SectionLocal.{read_found}
use Rattle.sections.proofs.Trailers.{trailers_local}
use Rattle.sections.proofs.found.tails_are_found_from_the_end.Goals as goal

pub returns : goal.returns
returns c = (last_found, read_found trailers_local)
