use Rattle.std.proofs.Common.{rules, w64, to_z, of_z}
use Rattle.std.proofs.lemmas.Int.{to_z-of_z}
use Rattle.std.proofs.lemmas.Result.{MatchResult-weaker}
use Rattle.records.proofs.Listings.{under_told}
use Rattle.records.proofs.rows.under_size.Goals as goal

pub returns : goal.returns
returns c =
    under_told c.args.n c.args.size (to_z w64 (of_z w64 c.args.size)) c.try_from.result c.is_ok_and.result c.ranges.size (to_z-of_z w64 c.args.size c.ranges.size) c.try_from.ensures
    (MatchResult-weaker c.try_from.result c.is_ok_and.ensures (λ k p. search rules) (λ d p. p))
