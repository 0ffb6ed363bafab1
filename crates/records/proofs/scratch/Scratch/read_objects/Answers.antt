use Rattle.std.proofs.Common.{◌≡◌, Err, length, ap, ◌∙◌, refl, subst, arith, length-append}
use Rattle.std.proofs.lemmas.List.{take_all}
use Rattle.format.specs.Revisions.{states_of}
use Rattle.entries.specs.Reserving.{items_of}
use Rattle.entries.specs.Rows.{rows_of}
use Rattle.records.specs.Listing.{numbers_of}
use Rattle.records.specs.Objects.{CellsOf}
use Rattle.records.proofs.Answering.{handed}
use Rattle.records.proofs.Listings.{no_row}
use Rattle.records.proofs.Reading.{read_start, read_more, read_stop, read_end, paired_more, ends_more}
use Rattle.records.proofs.scratch.Scratch.read_objects.Goals as goal

pub loop-row-init : goal.loop-row-init
loop-row-init g c =
    let file = (g.S.Store.meaning c.args.store.now).bytes in
    record {
      len = ap length c.clear.ensures;
      so = rw c.clear.ensures (read_start file c.args.offset c.as_slice-row-items.result.now);
      paired = rw c.clear.ensures refl;
      ends = λ size e. rw c.clear.ensures tt;
    }

pub returns-in_err-cell-clause-is : goal.returns-in_err-cell-clause-is
returns-in_err-cell-clause-is g c =
    let file = (g.S.Store.meaning c.args.store.now).bytes in
    let z = handed c.from_residual.result c.in_err-cell.field-0.0 c.from_residual.ensures.1 in
    let stop = read_stop file c.args.offset c.as_slice-row-items.result.now c.loop-row.row-index no_row c.loop-row-test.true (items_of c.loop-row.self.1.1.1.0) c.in_err-cell.field-0.0 c.in_err-cell.ensures.is c.loop-row.invariant.so in
    rw z (subst (λ rs. states_of file c.args.offset (rows_of rs) ≡ Err c.in_err-cell.field-0.0) c.as_slice-row-items.ensures stop)

pub loop-row-preserved : goal.loop-row-preserved
loop-row-preserved g c =
    let file = (g.S.Store.meaning c.args.store.now).bytes in
    let rows = c.as_slice-row-items.result.now in
    let before = items_of c.loop-row.self.1.1.1.0 in
    record {
      len = rw (c.push.ensures, length-append) (omega (arith, c.loop-row.invariant.len));
      so = read_more file c.args.offset rows c.loop-row.row-index no_row c.loop-row-test.true before _ c.in_ok-cell.cell c.push.ensures c.in_ok-cell.ensures.is c.loop-row.invariant.so;
      paired = paired_more file c.args.offset rows c.loop-row.row-index no_row c.loop-row-test.true before _ c.in_ok-cell.cell c.push.ensures c.loop-row.invariant.paired;
      ends = ends_more file c.args.offset rows c.loop-row.row-index no_row c.loop-row-test.true before _ c.in_ok-cell.cell c.push.ensures c.loop-row.invariant.ends c.in_ok-cell.ensures.ends;
    }

pub returns-clause-is : goal.returns-clause-is
returns-clause-is g c =
    let file = (g.S.Store.meaning c.args.store.now).bytes in
    let rows = c.as_slice-row-items.result.now in
    let cells = items_of c.loop-row.self.1.1.1.0 in
    subst (λ rs. CellsOf file c.args.offset rs cells) c.as_slice-row-items.ensures
    (record {
      is = read_end file c.args.offset rows c.loop-row.row-index cells c.loop-row-test.false c.loop-row.invariant.so;
      paired = c.loop-row.invariant.paired ∙ ap numbers_of (take_all c.loop-row.row-index rows c.loop-row-test.false);
      ends = c.loop-row.invariant.ends;
    })
