use Rattle.std.proofs.Common.{ap, ◌∙◌}
use Rattle.format.specs.Tokens.{text, stray}
use Rattle.lexer.specs.Endings.{span_flaw}
use Rattle.lexer.proofs.Cases.{handed}
use Rattle.lexer.proofs.Starts.{string_closed, string_flawed, string_is}
use Rattle.lexer.proofs.head.Head.text.Goals as goal

pub returns-in_err-to-clause-is : goal.returns-in_err-to-clause-is
returns-in_err-to-clause-is c =
    let z = handed c.from_residual.result c.in_err-to.field-0.0 c.from_residual.ensures.1 in
    rw z (string_flawed text (λ q. stray) _ _ c.args.self.stands _ _ (ap (span_flaw (λ q. stray) c.args.self.src.now) (string_is _ _) ∙ c.in_err-to.ensures.is))

pub returns-clause-is : goal.returns-clause-is
returns-clause-is c = string_closed text (λ q. stray) _ _ c.args.self.stands _ _ (string_is _ _ ∙ c.in_ok-to.ensures.is)
