use Rattle.std.proofs.Common.{sym, ◌∙◌, arith}
use Rattle.std.proofs.lemmas.Bool.{ltb-false}
use Rattle.opening.proofs.Entries.{mark_short, mark_n, mark_f, mark_misfit}
use Rattle.opening.proofs.entry.use_mark.Goals as goal

pub returns-in-None : goal.returns-in-None
returns-in-None c = record { is = λ base. mark_short _ _ base (omega (arith, ltb-false _ _ (sym c.in-None.ensures.lookup.0))); within = tt }

pub returns-in-Some-eq110 : goal.returns-in-Some-eq110
returns-in-Some-eq110 c =
    let got = c.in-Some-eq110.ensures.lookup.3 in
    record { is = λ base. mark_n _ _ base got.0 (sym (got.1 0) ∙ c.in-Some-eq110.field-0-test); within = (omega arith, omega (arith, got.0)) }

pub returns-in-Some-eq102 : goal.returns-in-Some-eq102
returns-in-Some-eq102 c =
    let got = c.in-Some-eq102.ensures.lookup.3 in
    let e = sym (got.1 0) ∙ c.in-Some-eq102.field-0-test in
    record { is = λ base. mark_f _ _ base got.0 (λ h. omega (arith, e, h)) e; within = (omega arith, omega (arith, got.0)) }

pub returns-in-Some : goal.returns-in-Some
returns-in-Some c =
    let got = c.in-Some.ensures.lookup.3 in
    record { is = λ base. mark_misfit _ _ base got.0 (λ h. omega (arith, got.1 0 ∙ h)) (λ h. omega (arith, got.1 0 ∙ h)); within = tt }
