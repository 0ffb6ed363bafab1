use Rattle.std.proofs.Common.{◌-◌, length, drop, refl, ap, ◌∙◌, arith}
use Rattle.std.specs.Prelude.{nat_eq}
use Rattle.std.specs.List.{starts_with}
use Rattle.std.proofs.lemmas.List.{length-drop, length-take}
use Rattle.opening.proofs.Places.{rest_is}
use Rattle.opening.proofs.Words.{exact_took, exact_short, exact_misfit}
use Rattle.opening.proofs.lines.exact.Goals as goal

pub returns-then-starts_with : goal.returns-then-starts_with
returns-then-starts_with c =
    let r = rest_is c.args.at.src.now c.args.at.place in
    let e = c.if-starts_with.ensures.value ∙ ap (λ xs. starts_with nat_eq xs c.args.word.now) r in
    record {
      is = λ base. exact_took c.args.word.now c.args.at.src.now c.args.at.place base e;
      within = (omega arith, omega (arith, c.if-starts_with.ensures.bound refl, length-take (length c.args.at.src.now - c.args.at.place) (drop c.args.at.place c.args.at.src.now), length-drop c.args.at.place c.args.at.src.now));
    }

pub returns-then-starts_with-2 : goal.returns-then-starts_with-2
returns-then-starts_with-2 c =
    let r = rest_is c.args.at.src.now c.args.at.place in
    let e = c.if-starts_with.ensures.value ∙ ap (λ xs. starts_with nat_eq xs c.args.word.now) r in
    let f = c.if-starts_with-2.ensures.value ∙ ap (λ xs. starts_with nat_eq c.args.word.now xs) r in
    record { is = λ base. exact_short c.args.word.now c.args.at.src.now c.args.at.place base e f; within = tt }

pub returns : goal.returns
returns c =
    let r = rest_is c.args.at.src.now c.args.at.place in
    let e = c.if-starts_with.ensures.value ∙ ap (λ xs. starts_with nat_eq xs c.args.word.now) r in
    let f = c.if-starts_with-2.ensures.value ∙ ap (λ xs. starts_with nat_eq c.args.word.now xs) r in
    record { is = λ base. exact_misfit c.args.word.now c.args.at.src.now c.args.at.place base e f; within = tt }
