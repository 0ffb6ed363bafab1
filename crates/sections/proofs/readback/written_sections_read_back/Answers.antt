use Rattle.sections.proofs.WrittenSection.{section_read}
use Rattle.sections.proofs.readback.written_sections_read_back.Goals as goal

pub returns : goal.returns
returns c = section_read
