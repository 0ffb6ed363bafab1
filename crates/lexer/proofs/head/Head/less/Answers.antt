use Rattle.std.proofs.Common.{sym, ◌∙◌, arith}
use Rattle.std.proofs.lemmas.Bool.{ltb-false}
use Rattle.format.specs.Tokens.{hex, bad_hex}
use Rattle.lexer.proofs.Cases.{handed}
use Rattle.lexer.proofs.Starts.{flawed_as, less_cut, less_dict, less_hex, string_closed, string_flawed}
use Rattle.lexer.proofs.head.Head.less.Goals as goal

pub returns-in-None-clause-is : goal.returns-in-None-clause-is
returns-in-None-clause-is c = less_cut _ _ (omega (arith, ltb-false _ _ (sym c.in-None.ensures.lookup.0)))

pub returns-in-Some-eq60-clause-is : goal.returns-in-Some-eq60-clause-is
returns-in-Some-eq60-clause-is c =
    let got = c.in-Some-eq60.ensures.lookup.3 in
    less_dict _ _ got.0 (sym (got.1 0) ∙ c.in-Some-eq60.field-0-test)

pub returns-in_err-to-in-Some-clause-is : goal.returns-in_err-to-in-Some-clause-is
returns-in_err-to-in-Some-clause-is c =
    let got = c.in-Some.ensures.lookup.3 in
    let z = handed c.from_residual.result c.in_err-to-in-Some.field-0.0 c.from_residual.ensures.1 in
    rw z (flawed_as _ _ _ _ (less_hex _ _ got.0 (λ e. c.in-Some.field-0-test.1 (got.1 0 ∙ e))) (string_flawed hex bad_hex _ _ c.args.self.stands _ _ c.in_err-to-in-Some.ensures.is))

pub returns-in_ok-to-in-Some-clause-is : goal.returns-in_ok-to-in-Some-clause-is
returns-in_ok-to-in-Some-clause-is c =
    let got = c.in-Some.ensures.lookup.3 in
    less_hex _ _ got.0 (λ e. c.in-Some.field-0-test.1 (got.1 0 ∙ e)) ∙ string_closed hex bad_hex _ _ c.args.self.stands _ _ c.in_ok-to-in-Some.ensures.is
