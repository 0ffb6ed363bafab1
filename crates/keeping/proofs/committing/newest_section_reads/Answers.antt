use Rattle.keeping.proofs.Commits.{newest_section}
use Rattle.keeping.proofs.committing.newest_section_reads.Goals as goal

pub returns : goal.returns
returns c = newest_section
