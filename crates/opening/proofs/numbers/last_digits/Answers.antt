use Rattle.std.proofs.Common.{drop, ap, ◌∙◌}
use Rattle.std.specs.List.{suffix_len}
use Rattle.format.specs.Bytes.{is_digit}
use Rattle.opening.proofs.Places.{rest_is}
use Rattle.opening.proofs.Runs.{end_within}
use Rattle.opening.proofs.numbers.last_digits.Goals as goal

pub returns : goal.returns
returns c =
    let xs = c.args.src.now in
    c.digits_at_end.ensures ∙ ap (suffix_len is_digit) (rest_is xs c.saturating_sub.result) ∙ ap (λ n. suffix_len is_digit (drop n xs)) c.saturating_sub.ensures ∙ end_within c.args.most xs
