use Rattle.std.proofs.Common.{false, Ok, sym, refl, ap, ◌∙◌, subst}
use Rattle.format.specs.Book.{remove, updating, decide, newest}
use Rattle.format.specs.Updates.{with_change, removed}
use Rattle.keeping.specs.Standing.{SoundIn}
use Rattle.keeping.proofs.Sound.{sound_stays}
use Rattle.records.proofs.Answering.{handed}
use Rattle.book.specs.Books.{update_in, revisions_in, cells_in}
use Rattle.writer.specs.Helds.{update_of}
use Rattle.book.specs.Calls.{phase_of}
use Rattle.book.proofs.Performed.{performs_at, refused_to, updating_sound, updating_phase, some_row, row_inside, newest_root, newest_table, remove_room}
use Rattle.book.proofs.Steps.{remove_step}
use Rattle.book.proofs.book.Book.hold_removal.Goals as goal

pub last_row-row-requires : goal.last_row-row-requires
last_row-row-requires g c = some_row g.S.Store.meaning c.args.self.now c.args.self.now.sound c.requires _ c.revisions.ensures

pub cells_of-cells-requires : goal.cells_of-cells-requires
cells_of-cells-requires g c =
    row_inside g.S.Store.meaning c.args.self.now c.args.self.now.sound c.requires _ c.revisions.ensures c.last_row-row.result c.last_row-row.ensures _ c.cells.ensures

pub returns-in_err-decide_remove : goal.returns-in_err-decide_remove
unfolding decide
returns-in_err-decide_remove g c =
    let b = c.args.self.now in
    let m = g.S.Store.meaning in
    let f = (g.S.Store.meaning b.store).bytes in
    let t = newest_table g.S.Store.meaning b c.args.self.now.sound c.requires _ c.revisions.ensures c.last_row-row.result c.last_row-row.ensures _ c.cells.ensures _ c.cells_of-cells.ensures in
    let d = c.in_err-decide_remove.ensures f (newest f) t (newest_root m b c.args.self.now.sound c.requires _ c.revisions.ensures c.last_row-row.result c.last_row-row.ensures _ c.cells.ensures) in
    let z = handed c.from_residual.result c.in_err-decide_remove.field-0.0 c.from_residual.ensures.1 in
    rw z (refused_to b _ (remove false c.args.number) c.in_err-decide_remove.field-0.0 (updating (update_in b)) (updating_phase g.S.Store.meaning b b.sound c.requires) (sym d) refl)

pub remove-requires : goal.remove-requires
remove-requires g c =
    let b = c.args.self.now in
    let m = g.S.Store.meaning in
    let f = (g.S.Store.meaning b.store).bytes in
    let t = newest_table g.S.Store.meaning b c.args.self.now.sound c.requires _ c.revisions.ensures c.last_row-row.result c.last_row-row.ensures _ c.cells.ensures _ c.cells_of-cells.ensures in
    let r = remove_room (newest f) (update_in b) c.args.number (sym (c.in_ok-decide_remove.ensures f (newest f) t (newest_root m b c.args.self.now.sound c.requires _ c.revisions.ensures c.last_row-row.result c.last_row-row.ensures _ c.cells.ensures))) in
    record { free = r.0; room = r.1 }

pub returns : goal.returns
returns g c =
    let b = c.args.self.now in
    let m = g.S.Store.meaning in
    let f = (m b.store).bytes in
    let t = newest_table m b c.args.self.now.sound c.requires _ c.revisions.ensures c.last_row-row.result c.last_row-row.ensures _ c.cells.ensures _ c.cells_of-cells.ensures in
    let d = sym (c.in_ok-decide_remove.ensures f (newest f) t (newest_root m b c.args.self.now.sound c.requires _ c.revisions.ensures c.last_row-row.result c.last_row-row.ensures _ c.cells.ensures)) in
    let u = with_change c.args.number removed (update_in b) in
    performs_at b _ (remove false c.args.number) (Ok tt) (updating (update_in b)) (updating u)
    (updating_phase m b c.args.self.now.sound c.requires)
    (ap (λ p. phase_of p (update_of c.remove.new.self)) c.requires ∙ ap updating c.remove.ensures)
    (remove_step (m b.store) (update_in b) c.args.number d)

pub invariant_of-self-2 : goal.invariant_of-self-2
invariant_of-self-2 g c =
    let b = c.args.self.now in
    let m = g.S.Store.meaning in
    let f = (m b.store).bytes in
    let t = newest_table m b c.args.self.now.sound c.requires _ c.revisions.ensures c.last_row-row.result c.last_row-row.ensures _ c.cells.ensures _ c.cells_of-cells.ensures in
    let d = sym (c.in_ok-decide_remove.ensures f (newest f) t (newest_root m b c.args.self.now.sound c.requires _ c.revisions.ensures c.last_row-row.result c.last_row-row.ensures _ c.cells.ensures)) in
    record {
      sound = subst (λ p. SoundIn p f (revisions_in b) (cells_in b)) (sym (ap (λ p. phase_of p (update_of c.remove.new.self)) c.requires ∙ ap updating c.remove.ensures))
          (sound_stays.remove f _ _ (update_in b) c.args.number (updating_sound m b c.args.self.now.sound c.requires) d);
    }
