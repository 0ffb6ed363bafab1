use Rattle.format.proofs.Computed.{worked_cases}
use Rattle.format.proofs.worked.worked_file_reads_as_written.Goals as goal

pub returns : goal.returns
returns c = worked_cases
