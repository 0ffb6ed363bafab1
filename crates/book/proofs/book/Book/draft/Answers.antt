use Rattle.std.proofs.Common.{length, sym, refl, ap, ◌∙◌, subst, arith}
use Rattle.format.specs.Book.{newest, addition}
use Rattle.format.specs.Writing.{update_bytes, update_objects}
use Rattle.entries.specs.Tables.{cells_of}
use Rattle.keeping.specs.Staying.{RowAt}
use Rattle.keeping.proofs.Commits.{newest_section}
use Rattle.records.specs.Trailers.{TrailerSeen}
use Rattle.writer.specs.Plans.{GenerationsFit}
use Rattle.writer.proofs.Copied.{reads}
use Rattle.bounds.proofs.Bounded.{bounded}
use Rattle.book.specs.Books.{update_in, revisions_in, cells_in}
use Rattle.book.proofs.Committed.{newest_is_read, newest_trailer}
use Rattle.book.proofs.Performed.{updating_sound, some_row, row_inside, newest_offset, newest_table, newest_place}
use Rattle.book.proofs.book.Book.draft.Goals as goal

pub last_row-row-requires : goal.last_row-row-requires
last_row-row-requires g c = some_row g.S.Store.meaning c.args.self.now c.args.self.now.sound c.requires _ c.revisions.ensures

pub unreachable-requires : goal.unreachable-requires
unreachable-requires g c =
    let f = (g.S.Store.meaning c.args.self.now.store).bytes in
    let st = (updating_sound g.S.Store.meaning c.args.self.now c.args.self.now.sound c.requires).0 in
    newest_is_read f c.last_row-row.result.offset _ c.read_trailer.result (newest_section f st.opened st.accepted)
    (newest_place g.S.Store.meaning c.args.self.now c.args.self.now.sound c.requires _ c.revisions.ensures c.last_row-row.result c.last_row-row.ensures)
    c.read_trailer.ensures.is c.in_default.not-Ok

pub cells_of-cells-requires : goal.cells_of-cells-requires
cells_of-cells-requires g c = row_inside g.S.Store.meaning c.args.self.now c.args.self.now.sound c.requires _ c.revisions.ensures c.last_row-row.result c.last_row-row.ensures _ c.cells.ensures

pub invariant_of-newest : goal.invariant_of-newest
invariant_of-newest g c =
    let b = c.args.self.now in
    let f = (g.S.Store.meaning b.store).bytes in
    let st = (updating_sound g.S.Store.meaning c.args.self.now c.args.self.now.sound c.requires).0 in
    let known = bounded f (revisions_in b) (cells_in b) st in
    let t = newest_table g.S.Store.meaning c.args.self.now c.args.self.now.sound c.requires _ c.revisions.ensures c.last_row-row.result c.last_row-row.ensures _ c.cells.ensures _ c.cells_of-cells.ensures in
    let o = newest_offset g.S.Store.meaning c.args.self.now c.args.self.now.sound c.requires _ c.revisions.ensures c.last_row-row.result c.last_row-row.ensures _ c.cells.ensures in
    let a = subst (λ rs. RowAt rs (length rs) c.last_row-row.result) c.revisions.ensures c.last_row-row.ensures in
    let cells_are = c.cells_of-cells.ensures ∙ ap (λ cs. cells_of cs c.last_row-row.result) c.cells.ensures in
    let seen = subst (λ w. TrailerSeen f c.last_row-row.result.offset w c.in-Ok.inside) (sym c.seen.ensures) c.in-Ok.ensures.is in
    record {
      small = omega (arith, t.size, known.size);
      generations = subst GenerationsFit (sym cells_are) (known.generations c.last_row-row.result a);
      short = omega (arith, c.len.ensures, known.short);
      placed = omega (arith, o, known.offset, known.short);
      narrow = seen.few;
      readable = reads _ _ (seen.sec.trailer, (seen.closes, seen.behind, seen.trailer));
    }

pub returns : goal.returns
unfolding addition
returns g c =
    let b = c.args.self.now in
    let f = (g.S.Store.meaning b.store).bytes in
    let st = (updating_sound g.S.Store.meaning c.args.self.now c.args.self.now.sound c.requires).0 in
    let t = newest_table g.S.Store.meaning c.args.self.now c.args.self.now.sound c.requires _ c.revisions.ensures c.last_row-row.result c.last_row-row.ensures _ c.cells.ensures _ c.cells_of-cells.ensures in
    let o = newest_offset g.S.Store.meaning c.args.self.now c.args.self.now.sound c.requires _ c.revisions.ensures c.last_row-row.result c.last_row-row.ensures _ c.cells.ensures in
    let seen = subst (λ w. TrailerSeen f c.last_row-row.result.offset w c.in-Ok.inside) (sym c.seen.ensures) c.in-Ok.ensures.is in
    let w = c.write.ensures f (newest f) t o (newest_trailer f c.last_row-row.result.offset _ c.in-Ok.inside (newest_section f st.opened st.accepted) o seen) in
    record {
      store = refl;
      phase = refl;
      tables = refl;
      held = refl;
      drafted = record {
        bytes = w.0 ∙ ap (λ n. update_bytes n (newest f) (update_in b)) c.len.ensures;
        count = w.1 ∙ ap (λ n. length (update_objects n (newest f) (update_in b))) c.len.ensures;
      };
    }
