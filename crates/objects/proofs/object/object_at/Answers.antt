use Rattle.std.proofs.Common.{ap, ◌∙◌, arith}
use Rattle.format.specs.Bytes.{bad}
use Rattle.objects.proofs.Cases.{handed}
use Rattle.objects.proofs.Ends.{object_past, object_read}
use Rattle.objects.proofs.object.object_at.Goals as goal

pub returns-in_err-lexer_at : goal.returns-in_err-lexer_at
returns-in_err-lexer_at c =
    let z = handed c.from_residual.result c.in_err-lexer_at.field-0.0 c.from_residual.ensures.1 in
    let past = c.in_err-lexer_at.ensures in
    let l = past.0 in
    rw z (ap bad past.1 ∙ object_past _ _ (omega arith))

pub returns : goal.returns
returns c = let at = c.in_ok-lexer_at.ensures in let e = rw (at.0, at.1, c.checked.ensures) at c.read_object.ensures.is in e ∙ object_read _ _
