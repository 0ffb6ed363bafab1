use Rattle.laws.proofs.Unconditional.{file_follows}
use Rattle.laws.proofs.consequences.file_follows_account.Goals as goal

pub returns : goal.returns
returns c = file_follows
