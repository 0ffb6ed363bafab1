use Rattle.std.proofs.Common.{take, ap, ◌∙◌}
use Rattle.std.specs.List.{prefix_len}
use Rattle.std.proofs.lemmas.List.{take_min}
use Rattle.format.specs.Bytes.{is_digit}
use Rattle.opening.proofs.Runs.{run_within}
use Rattle.opening.proofs.numbers.first_digits.Goals as goal

pub returns : goal.returns
returns c =
    let xs = c.args.src.now in
    c.digits_in_front.ensures ∙ ap (λ n. prefix_len is_digit (take n xs)) c.min.ensures ∙ ap (prefix_len is_digit) (take_min c.args.most xs) ∙ run_within c.args.most xs
