use Rattle.std.proofs.Common.{◌≡◌, ◌+◌, ◌-◌, true, length, refl, ap, ◌∙◌, arith}
use Rattle.std.specs.List.{suffix_len}
use Rattle.std.proofs.lemmas.List.Elements.{All-same}
use Rattle.std.proofs.lemmas.List.Sums.{suffix_len-le-length}
use Rattle.format.specs.Bytes.{is_digit, value}
use Rattle.opening.proofs.Backwards.{back_unfit, back_taken}
use Rattle.opening.proofs.Digits.{unfit}
use Rattle.opening.proofs.Places.{rest_is}
use Rattle.opening.proofs.Runs.{end_pass}
use Rattle.opening.proofs.last.back_digits.Goals as goal

pub returns-then-found-eq0 : goal.returns-then-found-eq0
returns-then-found-eq0 c = back_unfit c.args.bytes.now _ refl (unfit _ _ c.last_digits-found.ensures c.then-found-eq0.either)

pub overflow_sub-start : goal.overflow_sub-start
overflow_sub-start c = omega (arith, c.last_digits-found.ensures, suffix_len-le-length is_digit c.args.bytes.now)

pub number-requires-clause-digits : goal.number-requires-clause-digits
number-requires-clause-digits c =
    let n = c.last_digits-found.result in
    let xs = c.args.bytes.now in
    let e : n ≡ suffix_len is_digit xs = omega (arith, c.last_digits-found.ensures) in
    let l : length xs - n + n ≡ length xs = omega (arith, c.last_digits-found.ensures, suffix_len-le-length is_digit xs) in
    All-same (λ x. is_digit x ≡ true) _ _ (rest_is xs (length xs - n)) (end_pass xs n (length xs - n) e l)

pub returns : goal.returns
returns c =
    let n = c.last_digits-found.result in
    let xs = c.args.bytes.now in
    let e : n ≡ suffix_len is_digit xs = omega (arith, c.last_digits-found.ensures) in
    back_taken xs n e (omega arith) (omega arith) (c.number.ensures.is ∙ ap value (rest_is xs (length xs - n)))
