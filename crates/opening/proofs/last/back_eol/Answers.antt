use Rattle.std.proofs.Common.{Some, None, codes}
use Rattle.std.proofs.lemmas.Bool.Decides.{Decides-eqb}
use Rattle.std.proofs.lemmas.Slice.Eq.{strip_suffix_is}
use Rattle.opening.proofs.Backwards.{ends_crlf, ends_lf, ends_cr}
use Rattle.opening.proofs.last.back_eol.Goals as goal

pub returns-in-Some : goal.returns-in-Some
returns-in-Some c =
    ends_crlf c.args.bytes.now _ (strip_suffix_is Decides-eqb c.args.bytes.now (codes "\r\n") (Some c.in-Some.front) c.in-Some.ensures.cases)

pub returns-in-Some-strip_suffix : goal.returns-in-Some-strip_suffix
returns-in-Some-strip_suffix c =
    ends_lf c.args.bytes.now _ (strip_suffix_is Decides-eqb c.args.bytes.now (codes "\n") (Some c.in-Some-strip_suffix.front) c.in-Some-strip_suffix.ensures.cases)
    (strip_suffix_is Decides-eqb c.args.bytes.now (codes "\r\n") None c.in_default.ensures.cases)

pub returns : goal.returns
returns c =
    ends_cr c.args.bytes.now c.strip_suffix-3.result
    (strip_suffix_is Decides-eqb c.args.bytes.now (codes "\n") None c.in_default-strip_suffix.ensures.cases)
    (strip_suffix_is Decides-eqb c.args.bytes.now (codes "\r") c.strip_suffix-3.result c.strip_suffix-3.ensures.cases)
