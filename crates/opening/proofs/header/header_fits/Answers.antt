use Rattle.std.proofs.Common.{◌≡◌, false, codes, rules, MatchOption}
use Rattle.std.proofs.lemmas.Bool.Decides.{Decides-eqb}
use Rattle.std.proofs.lemmas.Slice.Eq.{strip_prefix_is}
use Rattle.format.specs.Revisions.{version_fits}
use Rattle.opening.proofs.Headers.{header_read, header_in_file}
use Rattle.opening.proofs.header.header_fits.Goals as goal

pub returns : goal.returns
returns c =
    let word = strip_prefix_is Decides-eqb c.args.src.now (codes "%PDF-1.") c.strip_prefix.result c.strip_prefix.ensures.cases in
    let fits : MatchOption c.strip_prefix.result (c.is_some_and.result ≡ false) (λ x. c.is_some_and.result ≡ version_fits x.now) = search rules in
    let e = header_read c.args.src.now c.is_some_and.result c.strip_prefix.result word fits in
    record { is = e; begins = header_in_file _ _ e }
