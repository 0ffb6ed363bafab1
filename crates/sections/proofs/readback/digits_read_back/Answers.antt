use Rattle.sections.proofs.Digits.{digits_read}
use Rattle.sections.proofs.readback.digits_read_back.Goals as goal

pub returns : goal.returns
returns c = digits_read
