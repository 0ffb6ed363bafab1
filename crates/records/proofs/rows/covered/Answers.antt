use Rattle.std.proofs.Common.{◌-◌, is_some, ◌∙◌, refl, rules, tests}
use Rattle.std.proofs.lemmas.Iterator.{YieldsList-from_range}
use Rattle.std.proofs.lemmas.Iterator.Search.{all_from_yields_List}
use Rattle.records.specs.Listing.{numbers_of, place_from}
use Rattle.records.proofs.Listings.{covered_all}
use Rattle.records.proofs.rows.covered.Goals as goal

pub returns : goal.returns
returns c =
    all_from_yields_List (λ n. is_some (place_from 0 n (numbers_of c.args.rows.now))) _ _ _ c.all.ensures.ran (YieldsList-from_range c.args.old c.args.size (c.args.size - c.args.old) (cc) refl) (λ x b q k. search (rules, tests))
    ∙ covered_all c.args.size c.args.rows.now c.args.old
