use Rattle.std.proofs.Common.{ap, ◌∙◌, arith}
use Rattle.format.specs.Bytes.{bad}
use Rattle.objects.proofs.Cases.{handed}
use Rattle.objects.proofs.Ends.{body_past}
use Rattle.objects.proofs.body.body_at.Goals as goal

pub returns-in_err-lexer_at-clause-is : goal.returns-in_err-lexer_at-clause-is
returns-in_err-lexer_at-clause-is c =
    let z = handed c.from_residual.result c.in_err-lexer_at.field-0.0 c.from_residual.ensures.1 in
    let past = c.in_err-lexer_at.ensures in
    let l = past.0 in
    rw z (ap bad past.1 ∙ body_past _ _ (omega arith))
