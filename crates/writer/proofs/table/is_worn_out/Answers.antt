use Rattle.std.proofs.Common.{refl, rules}
use Rattle.std.proofs.lemmas.Bool.Decides.{nat_tests}
use Rattle.format.specs.Book.{is_worn_out}
use Rattle.writer.proofs.Tables.{told}
use Rattle.writer.proofs.table.is_worn_out.Goals as goal

pub returns : goal.returns
unfolding is_worn_out
returns c = told is_worn_out c.args.cell c.is_some_and.result refl (search (rules, nat_tests))
