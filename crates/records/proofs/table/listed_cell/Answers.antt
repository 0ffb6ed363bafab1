use Rattle.std.proofs.Common.{◌≡◌, ℕ, ◌+◌, eqb, get_or, Some, None, sym, ap, ◌∙◌, arith, rules, tests}
use Rattle.std.specs.List.{position_from}
use Rattle.std.proofs.lemmas.Iterator.{YieldsList-from_slice}
use Rattle.std.proofs.lemmas.Iterator.Adapters.{position_from-zero}
use Rattle.std.proofs.lemmas.Iterator.Search.{position_from_yields_List}
use Rattle.entries.specs.declared.cell.Cell.{Cell}
use Rattle.entries.specs.declared.cell.Cell.TheVariants.{Used}
use Rattle.records.proofs.Laying.{cell_at, cell_none}
use Rattle.records.proofs.table.listed_cell.Goals as goal

pub returns-in_err-place : goal.returns-in_err-place
returns-in_err-place c =
    let place = position_from_yields_List (λ (x : ℕ × Cell). eqb x.0 c.args.n) _ _ _ c.position.ensures.ran (YieldsList-from_slice c.args.listed.now cc) (λ x b q k. search (rules, tests)) ∙ position_from-zero (λ (x : ℕ × Cell). eqb x.0 c.args.n) c.args.listed.now in
    let none : c.position.result ≡ None = search rules in
    let gone : c.from_residual.result ≡ None = search rules in
    gone ∙ sym (cell_none 0 c.args.n c.args.listed.now (sym place ∙ none))

pub returns : goal.returns
returns c =
    let place = position_from_yields_List (λ (x : ℕ × Cell). eqb x.0 c.args.n) _ _ _ c.position.ensures.ran (YieldsList-from_slice c.args.listed.now cc) (λ x b q k. search (rules, tests)) ∙ position_from-zero (λ (x : ℕ × Cell). eqb x.0 c.args.n) c.args.listed.now in
    let some : c.position.result ≡ Some c.in_ok-place.place = search rules in
    let found = cell_at 0 c.args.n c.in_ok-place.place c.args.listed.now (sym place ∙ some) (0, Used 0 0 0) in
    let same : found.0 ≡ c.in_ok-place.place = omega (arith, found.1) in
    ap (λ (i : ℕ). Some (get_or c.args.listed.now i (0, Used 0 0 0)).1) (sym same) ∙ sym found.2
