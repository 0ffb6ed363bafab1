use Rattle.std.proofs.Common.{◌≡◌, ◌+◌, min, true, length, take, drop, sym, refl, ap, ◌∙◌, arith}
use Rattle.std.specs.List.{prefix_len}
use Rattle.std.proofs.lemmas.List.{length-drop, length-take}
use Rattle.std.proofs.lemmas.List.Elements.{All-same}
use Rattle.std.proofs.lemmas.List.Sums.{prefix_len-le-length}
use Rattle.format.specs.Bytes.{is_digit, value}
use Rattle.format.specs.Lines.{took}
use Rattle.opening.proofs.Digits.{ten_at_most, unfit, digits_short, digits_misfit, digits_took}
use Rattle.opening.proofs.Places.{rest_is}
use Rattle.opening.proofs.Runs.{front_pass}
use Rattle.opening.proofs.lines.digits.Goals as goal

pub returns-then-at-clause-is : goal.returns-then-at-clause-is
returns-then-at-clause-is c = record { is = λ base. digits_short c.args.at.src.now c.args.at.place base (omega arith); within = tt }

pub returns-then-found-eq0-clause-is : goal.returns-then-found-eq0-clause-is
returns-then-found-eq0-clause-is c =
    let e = c.first_digits-found.ensures ∙ ap (λ xs. min 11 (prefix_len is_digit xs)) (rest_is c.args.at.src.now c.args.at.place) in
    record { is = λ base. digits_misfit c.args.at.src.now c.args.at.place base _ refl (omega arith) (unfit _ _ e c.then-found-eq0.either); within = tt }

pub slice_bounds-number-end : goal.slice_bounds-number-end
slice_bounds-number-end c =
    let n = c.first_digits-found.result in
    let r = rest_is c.args.at.src.now c.args.at.place in
    let told = c.first_digits-found.ensures ∙ ap (λ xs. min 11 (prefix_len is_digit xs)) r in
    let l = prefix_len-le-length is_digit (drop c.args.at.place c.args.at.src.now) in
    let k = ap (λ xs. length (take n xs)) r in
    let m = length-take n (drop c.args.at.place c.args.at.src.now) in
    omega arith

pub number-requires-clause-digits : goal.number-requires-clause-digits
number-requires-clause-digits c =
    let n = c.first_digits-found.result in
    let r = rest_is c.args.at.src.now c.args.at.place in
    let e = c.first_digits-found.ensures ∙ ap (λ xs. min 11 (prefix_len is_digit xs)) r in
    All-same (λ x. is_digit x ≡ true) _ _ (ap (take n) r) (front_pass (drop c.args.at.place c.args.at.src.now) n (omega arith))

pub returns-clause-is : goal.returns-clause-is
returns-clause-is c =
    let n = c.first_digits-found.result in
    let r = rest_is c.args.at.src.now c.args.at.place in
    let told = c.first_digits-found.ensures ∙ ap (λ xs. min 11 (prefix_len is_digit xs)) r in
    let e : n ≡ prefix_len is_digit (drop c.args.at.place c.args.at.src.now) = omega arith in
    let l = prefix_len-le-length is_digit (drop c.args.at.place c.args.at.src.now) in
    let k = length-drop c.args.at.place c.args.at.src.now in
    let v = c.number.ensures.is ∙ ap (λ xs. value (take n xs)) r in
    record {
      is = λ base. digits_took c.args.at.src.now c.args.at.place base n e (omega arith) (omega arith) ∙ ap (λ m. took m (base + (c.args.at.place + n)) (drop (c.args.at.place + n) c.args.at.src.now)) (sym v);
      within = (omega arith, omega arith);
    }

pub returns-clause-small : goal.returns-clause-small
returns-clause-small c = ten_at_most _ _ c.number.ensures.small (rw length-take (omega arith))
