use Rattle.std.proofs.Common.{◌≡◌, ◌+◌, min, true, length, take, drop, sym, refl, ap, ◌∙◌, arith}
use Rattle.std.specs.List.{prefix_len}
use Rattle.std.proofs.lemmas.List.{length-drop, length-take}
use Rattle.std.proofs.lemmas.List.Elements.{All-same}
use Rattle.std.proofs.lemmas.List.Sums.{prefix_len-le-length}
use Rattle.format.specs.Bytes.{is_digit, value}
use Rattle.format.specs.Lines.{took}
use Rattle.opening.proofs.Digits.{exactly_took, exactly_short, exactly_misfit}
use Rattle.opening.proofs.Places.{rest_is}
use Rattle.opening.proofs.Runs.{front_pass}
use Rattle.opening.proofs.lines.digits_of.Goals as goal

pub slice_bounds-number-end : goal.slice_bounds-number-end
slice_bounds-number-end c =
    let rest = drop c.args.at.place c.args.at.src.now in
    let r = rest_is c.args.at.src.now c.args.at.place in
    let e = c.first_digits-found.ensures ∙ ap (λ xs. min c.args.count (prefix_len is_digit xs)) r in
    let l = prefix_len-le-length is_digit rest in
    let k = ap (λ xs. length (take c.args.count xs)) r in
    let m = length-take c.args.count rest in
    omega (arith, c.if-found-count.true)

pub number-requires-clause-digits : goal.number-requires-clause-digits
number-requires-clause-digits c =
    let r = rest_is c.args.at.src.now c.args.at.place in
    let e = c.first_digits-found.ensures ∙ ap (λ xs. min c.args.count (prefix_len is_digit xs)) r in
    All-same (λ x. is_digit x ≡ true) _ _ (ap (take c.args.count) r) (front_pass (drop c.args.at.place c.args.at.src.now) c.args.count (omega arith))

pub returns-then-found-count-clause-is : goal.returns-then-found-count-clause-is
returns-then-found-count-clause-is c =
    let rest = drop c.args.at.place c.args.at.src.now in
    let r = rest_is c.args.at.src.now c.args.at.place in
    let e = c.first_digits-found.ensures ∙ ap (λ xs. min c.args.count (prefix_len is_digit xs)) r in
    let l = prefix_len-le-length is_digit rest in
    let k = length-drop c.args.at.place c.args.at.src.now in
    let v = c.number.ensures.is ∙ ap (λ xs. value (take c.args.count xs)) r in
    record {
      is = λ base. exactly_took c.args.count c.args.at.src.now c.args.at.place base _ refl (omega (arith, c.if-found-count.true)) ∙ ap (λ m. took m (base + (c.args.at.place + c.args.count)) (drop (c.args.at.place + c.args.count) c.args.at.src.now)) (sym v);
      within = (omega arith, omega arith);
    }

pub returns-then-found-rest-clause-is : goal.returns-then-found-rest-clause-is
returns-then-found-rest-clause-is c =
    let r = rest_is c.args.at.src.now c.args.at.place in
    let e = c.first_digits-found.ensures ∙ ap (λ xs. min c.args.count (prefix_len is_digit xs)) r in
    record { is = λ base. exactly_short c.args.count c.args.at.src.now c.args.at.place base _ refl (omega arith) (omega (arith, c.if-found-rest.true ∙ ap length r)); within = tt }

pub returns-clause-is : goal.returns-clause-is
returns-clause-is c =
    let r = rest_is c.args.at.src.now c.args.at.place in
    let e = c.first_digits-found.ensures ∙ ap (λ xs. min c.args.count (prefix_len is_digit xs)) r in
    record { is = λ base. exactly_misfit c.args.count c.args.at.src.now c.args.at.place base _ refl (omega arith) (λ w. c.if-found-rest.false (omega arith ∙ w ∙ sym (ap length r))); within = tt }
