use Rattle.std.proofs.Common.{◌≡◌, false, MatchOption, sym, ap, ◌∙◌, rules}
use Rattle.format.specs.Bytes.{bad, is_regular}
use Rattle.objects.proofs.Cases.{handed, ok_or_ok, ok_or_err}
use Rattle.objects.proofs.StreamEnds.{begins, end_other, end_goes_on, end_stops, first_regular}
use Rattle.objects.proofs.stream.end_stream.Goals as goal

pub returns-in_err-rest-clause-is : goal.returns-in_err-rest-clause-is
returns-in_err-rest-clause-is c =
    let z = handed c.from_residual.result c.in_err-rest.field-0.0 c.from_residual.ensures.1 in
    let none = ok_or_err _ _ _ c.in_err-rest.ensures.value in
    let is = begins c.args.at.src.now c.args.at.place c.strip_prefix.result c.strip_prefix.ensures.cases in
    let other = rw (sym none.0) at is in
    rw z (ap bad (none.1 ∙ c.met-broken.ensures) ∙ end_other _ _ other)

pub returns-then-is_some_and-clause-is : goal.returns-then-is_some_and-clause-is
returns-then-is_some_and-clause-is c =
    let some = ok_or_ok _ _ _ c.in_ok-rest.ensures.value in
    let is = begins c.args.at.src.now c.args.at.place c.strip_prefix.result c.strip_prefix.ensures.cases in
    let there = rw (sym some) at is in
    let cases : MatchOption c.first.result (c.is_some_and.result ≡ false) (λ x. c.is_some_and.result ≡ is_regular x.now) = search rules in
    let first = first_regular _ _ _ c.first.ensures.value cases in
    ap bad c.met-broken.ensures ∙ end_goes_on _ _ _ there (rw c.if-is_some_and.true at first)

pub returns-clause-is : goal.returns-clause-is
returns-clause-is c =
    let some = ok_or_ok _ _ _ c.in_ok-rest.ensures.value in
    let is = begins c.args.at.src.now c.args.at.place c.strip_prefix.result c.strip_prefix.ensures.cases in
    let there = rw (sym some) at is in
    let cases : MatchOption c.first.result (c.is_some_and.result ≡ false) (λ x. c.is_some_and.result ≡ is_regular x.now) = search rules in
    let first = first_regular _ _ _ c.first.ensures.value cases in
    end_stops _ _ _ there (rw c.if-is_some_and.false at first)
