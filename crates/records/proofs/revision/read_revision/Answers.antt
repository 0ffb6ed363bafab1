use Rattle.std.proofs.Common.{◌≡◌, List, length, sym, ap, ◌∙◌}
use Rattle.format.specs.Revisions.{covered, states_of}
use Rattle.entries.specs.declared.cell.Cell.{Cell}
use Rattle.entries.specs.Reserving.{items_of}
use Rattle.entries.specs.Rows.{rows_of}
use Rattle.records.specs.Laid.{numbers_in}
use Rattle.records.specs.Listing.{numbers_of}
use Rattle.records.specs.Tabled.{cells_held, revisions_held}
use Rattle.records.proofs.Answering.{handed}
use Rattle.records.proofs.Laying.{covers}
use Rattle.records.proofs.Revising.{next_no_link, next_no_rows, next_no_objects, revised, cells_as, laid_as, tabled_more}
use Rattle.records.proofs.revision.read_revision.Goals as goal

pub returns-in_err-link-clause-is : goal.returns-in_err-link-clause-is
returns-in_err-link-clause-is g c =
    let z = handed c.from_residual.result c.in_err-link.field-0.0 c.from_residual.ensures.1 in
    rw z (λ h t later. next_no_link (g.S.Store.meaning c.args.store.now).bytes h (revisions_held c.args.tables.now) (cells_held c.args.tables.now) t c.args.offset c.in_err-link.field-0.0 c.in_err-link.ensures.is)

pub returns-in_err-size-clause-is : goal.returns-in_err-size-clause-is
returns-in_err-size-clause-is g c =
    let z = handed c.from_residual-in_err-size.result c.in_err-size.field-0.0 c.from_residual-in_err-size.ensures.1 in
    rw z (λ h t later. next_no_rows (g.S.Store.meaning c.args.store.now).bytes h (revisions_held c.args.tables.now) (cells_held c.args.tables.now) t c.args.offset c.read_link.new.self.rows c.in_ok-link.link c.in_ok-link.ensures.is c.subsections_fit-fits.result c.is_empty.result c.as_slice.result.now c.newest_cells.result.now c.subsections_fit-fits.ensures c.is_empty.ensures c.as_slice.ensures c.newest_cells.ensures.is c.in_err-size.field-0.0 (c.in_err-size.ensures.is (g.S.Store.meaning c.args.store.now).bytes))

pub returns-in_err-read_objects-clause-is : goal.returns-in_err-read_objects-clause-is
returns-in_err-read_objects-clause-is g c =
    let z = handed c.from_residual-in_err-read_objects.result c.in_err-read_objects.field-0.0 c.from_residual-in_err-read_objects.ensures.1 in
    rw z (λ h t later. next_no_objects (g.S.Store.meaning c.args.store.now).bytes h (revisions_held c.args.tables.now) (cells_held c.args.tables.now) t c.args.offset c.read_link.new.self.rows c.in_ok-link.link c.in_ok-link.ensures.is c.subsections_fit-fits.result c.is_empty.result c.as_slice.result.now c.newest_cells.result.now c.subsections_fit-fits.ensures c.is_empty.ensures c.as_slice.ensures c.newest_cells.ensures.is c.in_ok-size.size (c.in_ok-size.ensures.is (g.S.Store.meaning c.args.store.now).bytes) c.in_err-read_objects.field-0.0 (ap (λ rs. states_of (g.S.Store.meaning c.args.store.now).bytes c.args.offset (rows_of rs)) c.as_slice.ensures ∙ c.in_err-read_objects.ensures.is))

pub push-requires-clause-covered : goal.push-requires-clause-covered
push-requires-clause-covered g c =
    let p : numbers_in c.as_slice-2.result.now ≡ numbers_of c.as_slice.result.now = ap numbers_in c.as_slice-2.ensures ∙ c.in_ok-read_objects.ensures.is.paired ∙ ap numbers_of (sym c.as_slice.ensures) in
    covers c.in_ok-size.size _ c.as_slice.result.now c.as_slice-2.result.now (ap (λ (cs : List Cell). covered c.in_ok-size.size 0 (rows_of c.as_slice.result.now) (length cs)) (sym c.newest_cells.ensures.is) ∙ c.in_ok-size.ensures.covered) p

pub returns-clause-is : goal.returns-clause-is
returns-clause-is g c =
    let file = (g.S.Store.meaning c.args.store.now).bytes in
    let fresh = items_of c.read_objects.new.self.listed in
    λ h t later.
    revised (g.S.Store.meaning c.args.store.now).bytes h (revisions_held c.args.tables.now) (cells_held c.args.tables.now) t c.args.offset c.read_link.new.self.rows c.in_ok-link.link c.in_ok-link.ensures.is c.subsections_fit-fits.result c.is_empty.result c.as_slice.result.now c.newest_cells.result.now c.subsections_fit-fits.ensures c.is_empty.ensures c.as_slice.ensures c.newest_cells.ensures.is c.in_ok-size.size (c.in_ok-size.ensures.is (g.S.Store.meaning c.args.store.now).bytes) c.in_ok-link.link.told.size c.in_ok-size.ensures.fits fresh
    (cells_as file c.args.offset _ c.as_slice.result.now fresh (sym c.as_slice.ensures) c.in_ok-read_objects.ensures.is)
    (revisions_held c.push.new.self) (cells_held c.push.new.self) c.push.ensures.revisions
    (laid_as c.in_ok-size.size c.as_slice-2.result.now fresh _ (cells_held c.args.tables.now) _ c.as_slice-2.ensures c.push.ensures.cells)
    c.push.ensures.len later

pub returns-clause-tabled : goal.returns-clause-tabled
returns-clause-tabled g c =
    tabled_more (revisions_held c.args.tables.now) (revisions_held c.push.new.self) (cells_held c.args.tables.now) (cells_held c.push.new.self) c.in_ok-link.link c.in_ok-size.size c.requires.tabled c.in_ok-size.ensures.small c.push.ensures.revisions c.push.ensures.len
