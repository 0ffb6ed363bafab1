use Rattle.std.proofs.Common.{sym, ap, ◌∙◌}
use Rattle.format.specs.Bytes.{up_to}
use Rattle.format.specs.Tokens.{flawed}
use Rattle.lexer.proofs.Cases.{handed}
use Rattle.lexer.proofs.Names.{no_wrong, one_wrong}
use Rattle.lexer.proofs.Starts.{flawed_parts, name_reads, name_flaws}
use Rattle.lexer.proofs.head.Head.name.Goals as goal

pub returns-in_err-check_name-clause-is : goal.returns-in_err-check_name-clause-is
unfolding up_to
returns-in_err-check_name-clause-is c =
    let z = handed c.from_residual.result c.in_err-check_name.field-0.0 c.from_residual.ensures.1 in
    let n = one_wrong _ _ _ (rw (c.cut-name.ensures.bytes, c.cut-name.ensures.place) at c.in_err-check_name.ensures) in
    let t = flawed_parts _ _ _ _ _ _ (name_flaws _ _ _ _ _ c.run_end-to.ensures.is n.1) in
    rw z (t.0, t.1 ∙ ap flawed (sym n.2))

pub returns-clause-is : goal.returns-clause-is
unfolding up_to
returns-clause-is c =
    let right = rw (c.cut-name.ensures.bytes, c.cut-name.ensures.place) at c.in_ok-check_name.ensures in
    rw c.cut-name.ensures.bytes (name_reads _ _ _ _ _ c.run_end-to.ensures.is (no_wrong _ _ _ right))
