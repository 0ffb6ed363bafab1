use Rattle.std.proofs.Common.{◌≡◌, ℤ, Ok, take, length}
use Rattle.format.specs.Revisions.{slots_fit}
use Rattle.entries.specs.Cells.{AllEndBy}
use Rattle.entries.specs.Reserving.{items_of}
use Rattle.entries.specs.Rows.{rows_of}
use Rattle.records.specs.Laid.{cells_in, numbers_in}
use Rattle.records.specs.Listing.{numbers_of}
use Rattle.records.proofs.Reading.{ReadSo}
use Rattle.records.proofs.scratch.Scratch.read_objects.Given as goal

-- while the rows are lent the memory is known field by field: the third is the list of numbered cells
abbrev pub invariant-loop-row : goal.invariant-loop-row
invariant-loop-row g l = record {
  len : length (items_of l.self.1.1.1.0) ≡ l.row-index;
  so : ReadSo (g.S.Store.meaning l.store).bytes l.offset l.row-items l.row-index (items_of l.self.1.1.1.0);
  paired : numbers_in (items_of l.self.1.1.1.0) ≡ numbers_of (take l.row-index l.row-items);
  ends : (size : ℤ) → slots_fit l.offset size (rows_of l.row-items) ≡ Ok tt → AllEndBy l.offset (cells_in (items_of l.self.1.1.1.0));
}
