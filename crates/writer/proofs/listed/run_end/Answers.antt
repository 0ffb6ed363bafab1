use Rattle.std.proofs.Common.{subst, rules, tests}
use Rattle.std.proofs.lemmas.Iterator.{first_from_Range}
use Rattle.writer.specs.Plans.{rows_of}
use Rattle.writer.proofs.Listing.{Listed, Passed, entry_listed, run_found}
use Rattle.writer.proofs.listed.run_end.Goals as goal

pub returns : goal.returns
returns c =
    let plan = rows_of c.args.plan.now in
    let found = first_from_Range _ _ _ _ (Passed plan) (Listed plan) c.find.ensures.ran
    (λ x q k. search (rules, tests))
    (λ x q k. (search rules, subst (Listed plan) k.shows (search (rules, tests, entry_listed)))) in
    let r = run_found plan c.args.from _ _ _ c.requires c.len-len.ensures c.unwrap_or.ensures found in
    record { is = r.0; within = r.1 }
