use Rattle.std.proofs.Common.{arith}
use Rattle.objects.proofs.Cases.{ok_none}
use Rattle.objects.proofs.Ends.{find_past}
use Rattle.objects.proofs.object.value_of.Goals as goal

pub returns-in_err-ok : goal.returns-in_err-ok
returns-in_err-ok c =
    let e = ok_none _ c.in_err-ok.ensures.value in
    let past = rw e.1 at c.lexer_at.ensures in
    let l = past.0 in
    rw c.from_residual.ensures (find_past _ _ _ (omega arith))
