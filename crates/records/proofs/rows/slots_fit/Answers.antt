use Rattle.std.proofs.Common.{◌≡◌, not, Bor, Some, None, Err, sym, ap, ◌∙◌, rules, tests}
use Rattle.std.proofs.lemmas.Iterator.{YieldsList-from_slice}
use Rattle.std.proofs.lemmas.Iterator.Search.{find_from_yields_List}
use Rattle.std.specs.List.{find}
use Rattle.std.specs.Option.{option_map}
use Rattle.format.specs.Revisions.{slot_fits}
use Rattle.entries.specs.declared.entry.Row.{Row}
use Rattle.entries.specs.Rows.{slot_of}
use Rattle.records.proofs.Listings.{answer_of, slots_found}
use Rattle.records.proofs.rows.slots_fit.Goals as goal

pub returns-in-None : goal.returns-in-None
returns-in-None c =
    let f = find_from_yields_List (λ (r : Row). not (slot_fits c.args.offset c.args.size r.number (slot_of r.entry))) _ _ c.find.result c.find.ensures.ran (YieldsList-from_slice c.args.rows.now cc) (λ x b q k. search (rules, tests)) in
    let z : find (λ (r : Row). not (slot_fits c.args.offset c.args.size r.number (slot_of r.entry))) c.args.rows.now ≡ None = sym f ∙ ap (option_map (λ (x : Bor Row). x.now)) c.in-None.is in
    sym (slots_found c.args.offset c.args.size c.args.rows.now ∙ ap (answer_of c.args.offset) z)

pub returns-in-Some : goal.returns-in-Some
returns-in-Some c =
    let f = find_from_yields_List (λ (r : Row). not (slot_fits c.args.offset c.args.size r.number (slot_of r.entry))) _ _ c.find.result c.find.ensures.ran (YieldsList-from_slice c.args.rows.now cc) (λ x b q k. search (rules, tests)) in
    let z : find (λ (r : Row). not (slot_fits c.args.offset c.args.size r.number (slot_of r.entry))) c.args.rows.now ≡ Some c.in-Some.row.now = sym f ∙ ap (option_map (λ (x : Bor Row). x.now)) c.in-Some.is in
    ap Err c.broken_rule.ensures ∙ sym (slots_found c.args.offset c.args.size c.args.rows.now ∙ ap (answer_of c.args.offset) z)
