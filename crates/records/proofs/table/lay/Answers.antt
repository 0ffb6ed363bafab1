use Rattle.std.proofs.Common.{◌≡◌, ◌+◌, MatchOption, get_or, length, ap, ◌∙◌, arith, rules, length-append}
use Rattle.entries.specs.Reserving.{items_of}
use Rattle.records.proofs.Laying.{lay_told, lay_end}
use Rattle.records.proofs.table.lay.Goals as goal

pub loop-n-preserved : goal.loop-n-preserved
loop-n-preserved c =
    let items = items_of c.loop-n.cells in
    let seen = c.as_slice-held.result.now in
    let told : MatchOption c.listed_cell.result (c.unwrap_or_else-cell.result ≡ get_or seen (c.args.first + c.loop-n.n-counter) c.unwrap_or_else-cell.result) (λ x. c.unwrap_or_else-cell.result ≡ x) = search rules in (
      ap length c.push.ensures ∙ length-append items _ ∙ omega arith,
      lay_told items (items_of c.args.cells.now) _ c.args.first c.args.size c.loop-n.n-counter c.args.listed.now c.listed_cell.result c.unwrap_or_else-cell.result c.loop-n-test.true c.listed_cell.ensures
          (λ e. let h = c.requires.covered c.loop-n.n-counter c.loop-n-test.true e in (omega arith, omega arith)) (rw c.as_slice-held.ensures at told) c.push.ensures c.loop-n.invariant.1,
    )

pub returns-clause-items : goal.returns-clause-items
returns-clause-items c =
    lay_end (items_of c.loop-n.cells) (items_of c.args.cells.now) c.args.first c.args.size c.loop-n.n-counter c.args.listed.now c.loop-n-test.false c.loop-n.invariant.1
