use Rattle.std.proofs.Common.{refl, rules}
use Rattle.format.specs.Book.{is_used}
use Rattle.writer.proofs.Tables.{told}
use Rattle.writer.proofs.table.is_used.Goals as goal

pub returns : goal.returns
unfolding is_used
returns c = told is_used c.args.cell c.is_some_and.result refl (search rules)
