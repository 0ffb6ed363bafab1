use Rattle.std.proofs.Common.{sym, ◌∙◌, arith}
use Rattle.std.proofs.lemmas.Bool.{ltb-false}
use Rattle.lexer.proofs.Starts.{greater_cut, greater_dict, greater_stray}
use Rattle.lexer.proofs.head.Head.greater.Goals as goal

pub returns-in-None-clause-is : goal.returns-in-None-clause-is
returns-in-None-clause-is c = greater_cut _ _ (omega (arith, ltb-false _ _ (sym c.in-None.ensures.lookup.0)))

pub returns-in-Some-eq62-clause-is : goal.returns-in-Some-eq62-clause-is
returns-in-Some-eq62-clause-is c =
    let got = c.in-Some-eq62.ensures.lookup.3 in
    greater_dict _ _ got.0 (sym (got.1 0) ∙ c.in-Some-eq62.field-0-test)

pub returns-in-Some-clause-is : goal.returns-in-Some-clause-is
returns-in-Some-clause-is c =
    let got = c.in-Some.ensures.lookup.3 in
    greater_stray _ _ got.0 (λ e. c.in-Some.field-0-test.1 (got.1 0 ∙ e))
