use Rattle.std.proofs.Common.{◌≡◌, slice_get, ◌∙◌, arith}
use Rattle.std.proofs.lemmas.Grind.{common_steps}
use Rattle.std.proofs.lemmas.Option.{gets}
use Rattle.writer.proofs.Tables.{nth_got}
use Rattle.writer.proofs.table.cell_at.Goals as goal

pub returns : goal.returns
returns c =
    let e : c.copied.result ≡ slice_get c.args.cells.now c.args.n = grind (arith, common_steps, gets) in
    e ∙ nth_got c.args.n c.args.cells.now
