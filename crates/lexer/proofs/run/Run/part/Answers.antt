use Rattle.std.proofs.Common.{◌∙◌}
use Rattle.lexer.proofs.Cases.{handed}
use Rattle.lexer.proofs.Numerals.{walk_meets, sized}
use Rattle.lexer.proofs.run.Run.part.Goals as goal

pub returns-in_err-size : goal.returns-in_err-size
returns-in_err-size c =
    let z = handed c.from_residual.result c.in_err-size.field-0.0 c.from_residual.ensures.1 in
    λ w. rw z (walk_meets _ _ w _ _ _ c.in_err-size.ensures)

pub returns-in-Some : goal.returns-in-Some
returns-in-Some c = λ w. c.with_sign.ensures w ∙ sized _ _ w _ _ _ _ c.in-Some.is c.in_ok-size.ensures

pub returns-in-None : goal.returns-in-None
returns-in-None c = λ w. sized _ _ w _ _ _ _ c.in-None.is c.in_ok-size.ensures
