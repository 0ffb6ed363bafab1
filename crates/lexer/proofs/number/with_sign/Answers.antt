use Rattle.std.proofs.Common.{false, ap, ◌∙◌, w32, SFits, rules}
use Rattle.std.proofs.lemmas.Int.{to_z-of_z}
use Rattle.format.specs.Tokens.{int}
use Rattle.lexer.proofs.Cases.{handed}
use Rattle.lexer.proofs.Numerals.{past_is, signed_is, unsigned_is}
use Rattle.lexer.proofs.number.with_sign.Goals as goal

pub returns-in_err-z : goal.returns-in_err-z
returns-in_err-z c =
    let z = handed c.from_residual.result c.in_err-z.field-0.0 c.from_residual.ensures.1 in
    λ w. rw z (past_is _ _ _ c.is_minus.ensures w _ c.in_err-z.ensures.0 c.in_err-z.ensures.1)

pub returns-in-Absent : goal.returns-in-Absent
returns-in-Absent c = λ w. unsigned_is _ _ _ c.is_minus.ensures w _ c.in_ok-z.ensures.0 c.in_ok-z.ensures.1 c.in-Absent.is

pub returns-in-Plus : goal.returns-in-Plus
returns-in-Plus c =
    let fits : SFits w32 c.in_ok-z.z = search rules in
    λ w. ap (int false) (to_z-of_z w32 c.in_ok-z.z fits) ∙ signed_is _ _ _ c.is_minus.ensures w _ c.in_ok-z.ensures.0 c.in_ok-z.ensures.1 c.in-Plus.is
