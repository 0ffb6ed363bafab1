use Rattle.sections.proofs.SectionLocal.{section_taken}
use Rattle.sections.proofs.Trailers.{trailers_local}
use Rattle.sections.proofs.own_bytes.sections_are_local.Goals as goal

pub returns : goal.returns
returns c = section_taken trailers_local
