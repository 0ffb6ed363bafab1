use Rattle.std.proofs.Common.{◌≡◌, false, rules, MatchOption}
use Rattle.format.specs.Bytes.{is_digit}
use Rattle.opening.proofs.AllSubs.{digit_there}
use Rattle.opening.proofs.subsections.begins_digit.Goals as goal

pub returns : goal.returns
returns c =
    let cases : MatchOption c.get.result (c.is_some_and.result ≡ false) (λ x. c.is_some_and.result ≡ is_digit x.now) = search rules in
    digit_there c.args.at.src.now c.args.at.place c.get.result c.is_some_and.result c.get.ensures.lookup cases
