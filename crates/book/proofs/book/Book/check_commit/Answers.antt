use Rattle.std.proofs.Common.{◌≤◌, length, Err, sym, ap, ◌∙◌, arith}
use Rattle.bounds.specs.Deciding.{KeepsLimits}
use Rattle.bounds.proofs.Bounded.{bounded}
use Rattle.bounds.proofs.Decided.{decided}
use Rattle.book.specs.Books.{update_in, revisions_in, cells_in}
use Rattle.book.proofs.Performed.{updating_sound, some_row, newest_sized}
use Rattle.book.proofs.book.Book.check_commit.Goals as goal

pub last_row-row-requires : goal.last_row-row-requires
last_row-row-requires g c = some_row g.S.Store.meaning c.args.self.now c.args.self.now.sound c.requires.updating _ c.revisions.ensures

pub overflow_add-row : goal.overflow_add-row
overflow_add-row g c =
    let b = c.args.self.now in
    let s = g.S.Store.meaning b.store in
    let st = (updating_sound g.S.Store.meaning b c.args.self.now.sound c.requires.updating).0 in
    let known = bounded s.bytes (revisions_in b) (cells_in b) st in
    let size = newest_sized g.S.Store.meaning b c.args.self.now.sound c.requires.updating _ c.revisions.ensures c.last_row-row.result c.last_row-row.ensures in
    omega (arith, known.size, size.0, c.new_numbers.ensures.few)

pub overflow_sub-len : goal.overflow_sub-len
overflow_sub-len g c =
    let b = c.args.self.now in
    let s = g.S.Store.meaning b.store in
    let st = (updating_sound g.S.Store.meaning b c.args.self.now.sound c.requires.updating).0 in
    omega (arith, (bounded s.bytes (revisions_in b) (cells_in b) st).short, c.len-3.ensures)

pub overflow_sub-added : goal.overflow_sub-added
overflow_sub-added g c =
    let b = c.args.self.now in
    let s = g.S.Store.meaning b.store in
    omega (arith, c.len-added.ensures, ap length c.requires.drafted.bytes, c.requires.drafted.count, (decided s (update_in b)).objects)

pub returns-then-len-eq0 : goal.returns-then-len-eq0
returns-then-len-eq0 g c =
    let b = c.args.self.now in
    let s = g.S.Store.meaning b.store in
    let D = decided s (update_in b) in
    ap Err c.refused.ensures ∙ sym (D.nothing (omega (arith, c.len.ensures)))

pub returns-then-len-ge-MOST_REVISIONS : goal.returns-then-len-ge-MOST_REVISIONS
returns-then-len-ge-MOST_REVISIONS g c =
    let b = c.args.self.now in
    let s = g.S.Store.meaning b.store in
    let D = decided s (update_in b) in
    let some : 1 ≤ length (update_in b) = omega (arith, c.len.ensures) in
    let st = (updating_sound g.S.Store.meaning b c.args.self.now.sound c.requires.updating).0 in
    let known = bounded s.bytes (revisions_in b) (cells_in b) st in
    let size = newest_sized g.S.Store.meaning b c.args.self.now.sound c.requires.updating _ c.revisions.ensures c.last_row-row.result c.last_row-row.ensures in
    let long = ap length c.requires.drafted.bytes in
    ap Err c.refused-then-len-ge-MOST_REVISIONS.ensures ∙ sym (D.many some (omega (arith, c.len-2.ensures, known.counted)))

pub returns-then-row-new_numbers-gt-MOST_SIZE : goal.returns-then-row-new_numbers-gt-MOST_SIZE
returns-then-row-new_numbers-gt-MOST_SIZE g c =
    let b = c.args.self.now in
    let s = g.S.Store.meaning b.store in
    let D = decided s (update_in b) in
    let some : 1 ≤ length (update_in b) = omega (arith, c.len.ensures) in
    let st = (updating_sound g.S.Store.meaning b c.args.self.now.sound c.requires.updating).0 in
    let known = bounded s.bytes (revisions_in b) (cells_in b) st in
    let size = newest_sized g.S.Store.meaning b c.args.self.now.sound c.requires.updating _ c.revisions.ensures c.last_row-row.result c.last_row-row.ensures in
    let long = ap length c.requires.drafted.bytes in
    ap Err c.refused-then-row-new_numbers-gt-MOST_SIZE.ensures ∙ sym (D.high some (omega (arith, size.1 (update_in b), c.new_numbers.ensures.is)))

pub returns-then-added-len : goal.returns-then-added-len
returns-then-added-len g c =
    let b = c.args.self.now in
    let s = g.S.Store.meaning b.store in
    let D = decided s (update_in b) in
    let some : 1 ≤ length (update_in b) = omega (arith, c.len.ensures) in
    let st = (updating_sound g.S.Store.meaning b c.args.self.now.sound c.requires.updating).0 in
    let known = bounded s.bytes (revisions_in b) (cells_in b) st in
    let size = newest_sized g.S.Store.meaning b c.args.self.now.sound c.requires.updating _ c.revisions.ensures c.last_row-row.result c.last_row-row.ensures in
    let long = ap length c.requires.drafted.bytes in
    ap Err c.refused-then-added-len.ensures ∙ sym (D.long some (omega (arith, c.len-3.ensures, c.len-added.ensures, long)))

pub returns-then-added-objects-gt-SECTION_BYTES : goal.returns-then-added-objects-gt-SECTION_BYTES
returns-then-added-objects-gt-SECTION_BYTES g c =
    let b = c.args.self.now in
    let s = g.S.Store.meaning b.store in
    let D = decided s (update_in b) in
    let some : 1 ≤ length (update_in b) = omega (arith, c.len.ensures) in
    let st = (updating_sound g.S.Store.meaning b c.args.self.now.sound c.requires.updating).0 in
    let known = bounded s.bytes (revisions_in b) (cells_in b) st in
    let size = newest_sized g.S.Store.meaning b c.args.self.now.sound c.requires.updating _ c.revisions.ensures c.last_row-row.result c.last_row-row.ensures in
    let long = ap length c.requires.drafted.bytes in
    ap Err c.refused-then-added-objects-gt-SECTION_BYTES.ensures ∙ sym (D.wide some (omega (arith, c.len-added.ensures, long, c.requires.drafted.count)))

pub returns-then-added-space : goal.returns-then-added-space
returns-then-added-space g c =
    let b = c.args.self.now in
    let s = g.S.Store.meaning b.store in
    let D = decided s (update_in b) in
    let some : 1 ≤ length (update_in b) = omega (arith, c.len.ensures) in
    let st = (updating_sound g.S.Store.meaning b c.args.self.now.sound c.requires.updating).0 in
    let known = bounded s.bytes (revisions_in b) (cells_in b) st in
    let size = newest_sized g.S.Store.meaning b c.args.self.now.sound c.requires.updating _ c.revisions.ensures c.last_row-row.result c.last_row-row.ensures in
    let long = ap length c.requires.drafted.bytes in
    let keeps : KeepsLimits s.bytes (update_in b) =
    record {
      revisions = omega (arith, c.len-2.ensures, known.counted);
      size = omega (arith, size.1 (update_in b), c.new_numbers.ensures.is);
      whole = omega (arith, c.len-3.ensures, c.len-added.ensures, long, known.short);
      section = omega (arith, c.len-added.ensures, long, c.requires.drafted.count);
    } in
    ap Err c.refused-then-added-space.ensures ∙ sym (D.full some keeps (omega (arith, c.len-added.ensures, long, c.space.ensures)))

pub returns : goal.returns
returns g c =
    let b = c.args.self.now in
    let s = g.S.Store.meaning b.store in
    let D = decided s (update_in b) in
    let some : 1 ≤ length (update_in b) = omega (arith, c.len.ensures) in
    let st = (updating_sound g.S.Store.meaning b c.args.self.now.sound c.requires.updating).0 in
    let known = bounded s.bytes (revisions_in b) (cells_in b) st in
    let size = newest_sized g.S.Store.meaning b c.args.self.now.sound c.requires.updating _ c.revisions.ensures c.last_row-row.result c.last_row-row.ensures in
    let long = ap length c.requires.drafted.bytes in
    let keeps : KeepsLimits s.bytes (update_in b) =
    record {
      revisions = omega (arith, c.len-2.ensures, known.counted);
      size = omega (arith, size.1 (update_in b), c.new_numbers.ensures.is);
      whole = omega (arith, c.len-3.ensures, c.len-added.ensures, long, known.short);
      section = omega (arith, c.len-added.ensures, long, c.requires.drafted.count);
    } in
    sym (D.accepted some keeps (omega (arith, c.len-added.ensures, long, c.space.ensures)))
