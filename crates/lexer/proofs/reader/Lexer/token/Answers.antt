use Rattle.std.proofs.Common.{◌<◌, length, drop, Some, sym, ap, ◌∙◌, rules, arith}
use Rattle.format.specs.Tokens.{start_at}
use Rattle.lexer.specs.Views.{token_fault_of}
use Rattle.lexer.proofs.Cases.{handed}
use Rattle.lexer.proofs.Tokens.{Told, told_ok, told_err, behind_space, ends_here, as_dropped, flaw_told}
use Rattle.lexer.proofs.reader.Lexer.token.Goals as goal

pub returns-then-at-self-clause-is : goal.returns-then-at-self-clause-is
returns-then-at-self-clause-is c =
    let space = c.skip_space-at.ensures in
    behind_space _ _ _ space.is ∙ ends_here _ _ c.if-at-self.true

pub returns-clause-is : goal.returns-clause-is
returns-clause-is c =
    let told : Told c.skip_space-at.result c.start.result c.map_err.result = search rules in
    let e = told_ok _ _ _ _ told c.in_ok-token.was in
    let read = rw e at c.start.ensures.is in
    let here : c.skip_space-at.result < length c.args.self.src.now = omega arith in
    behind_space _ _ _ c.skip_space-at.ensures.is ∙ as_dropped _ _ _ _ here read

pub returns-in_err-token-clause-is : goal.returns-in_err-token-clause-is
returns-in_err-token-clause-is c =
    let told : Told c.skip_space-at.result c.start.result c.map_err.result = search rules in
    let z = handed c.from_residual.result c.in_err-token.field-0.0 c.from_residual.ensures.1 in
    let e = told_err _ _ _ _ told c.in_err-token.was in
    let read = rw e.1 at c.start.ensures.is in
    rw z (
    ap token_fault_of (behind_space _ _ _ c.skip_space-at.ensures.is)
    ∙ flaw_told (start_at c.skip_space-at.result (drop c.skip_space-at.result c.args.self.src.now)) _ _ read.0 read.1
    ∙ ap Some (sym e.2))
