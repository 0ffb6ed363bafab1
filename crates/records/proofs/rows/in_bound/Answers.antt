use Rattle.std.proofs.Common.{leb, ◌∙◌, rules, tests}
use Rattle.std.proofs.lemmas.Iterator.{YieldsList-from_slice}
use Rattle.std.proofs.lemmas.Iterator.Search.{all_from_yields_List}
use Rattle.entries.specs.declared.entry.Row.{Row}
use Rattle.records.proofs.Listings.{bound_all}
use Rattle.records.proofs.rows.in_bound.Goals as goal

pub returns : goal.returns
returns c =
    all_from_yields_List (λ (r : Row). leb r.number 999) _ _ _ c.all.ensures.ran (YieldsList-from_slice c.args.rows.now cc) (λ x b q k. search (rules, tests))
    ∙ bound_all c.args.rows.now
