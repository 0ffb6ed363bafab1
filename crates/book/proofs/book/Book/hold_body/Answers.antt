use Rattle.std.proofs.Common.{false, Ok, sym, refl, ap, ◌∙◌, subst}
use Rattle.format.specs.Book.{put, updating, decide, newest}
use Rattle.format.specs.Updates.{with_change, body}
use Rattle.keeping.specs.Standing.{SoundIn}
use Rattle.keeping.proofs.Sound.{sound_stays}
use Rattle.records.proofs.Answering.{handed}
use Rattle.book.specs.Books.{update_in, revisions_in, cells_in}
use Rattle.writer.specs.Helds.{update_of}
use Rattle.book.specs.Calls.{phase_of}
use Rattle.book.proofs.Performed.{performs_at, refused_to, updating_sound, updating_phase, some_row, row_inside, newest_table, put_room}
use Rattle.book.proofs.Steps.{put_step}
use Rattle.book.proofs.book.Book.hold_body.Goals as goal

pub last_row-row-requires : goal.last_row-row-requires
last_row-row-requires g c = some_row g.S.Store.meaning c.args.self.now c.args.self.now.sound c.requires _ c.revisions.ensures

pub cells_of-cells-requires : goal.cells_of-cells-requires
cells_of-cells-requires g c =
    row_inside g.S.Store.meaning c.args.self.now c.args.self.now.sound c.requires _ c.revisions.ensures c.last_row-row.result c.last_row-row.ensures _ c.cells.ensures

pub returns-in_err-decide_put : goal.returns-in_err-decide_put
unfolding decide
returns-in_err-decide_put g c =
    let b = c.args.self.now in
    let f = (g.S.Store.meaning b.store).bytes in
    let t = newest_table g.S.Store.meaning b c.args.self.now.sound c.requires _ c.revisions.ensures c.last_row-row.result c.last_row-row.ensures _ c.cells.ensures _ c.cells_of-cells.ensures in
    let d = c.in_err-decide_put.ensures f (newest f) t in
    let z = handed c.from_residual.result c.in_err-decide_put.field-0.0 c.from_residual.ensures.1 in
    rw z (refused_to b _ (put false c.args.number c.args.body.now) c.in_err-decide_put.field-0.0 (updating (update_in b)) (updating_phase g.S.Store.meaning b b.sound c.requires) (sym d) refl)

pub put-requires : goal.put-requires
put-requires g c =
    let b = c.args.self.now in
    let f = (g.S.Store.meaning b.store).bytes in
    let t = newest_table g.S.Store.meaning b c.args.self.now.sound c.requires _ c.revisions.ensures c.last_row-row.result c.last_row-row.ensures _ c.cells.ensures _ c.cells_of-cells.ensures in
    let r = put_room (newest f) (update_in b) c.args.number c.args.body.now (sym (c.in_ok-decide_put.ensures f (newest f) t)) in
    record { free = r.0; room = r.1 }

pub returns : goal.returns
returns g c =
    let b = c.args.self.now in
    let m = g.S.Store.meaning in
    let f = (m b.store).bytes in
    let t = newest_table m b c.args.self.now.sound c.requires _ c.revisions.ensures c.last_row-row.result c.last_row-row.ensures _ c.cells.ensures _ c.cells_of-cells.ensures in
    let d = sym (c.in_ok-decide_put.ensures f (newest f) t) in
    let u = with_change c.args.number (body c.args.body.now) (update_in b) in
    performs_at b _ (put false c.args.number c.args.body.now) (Ok tt) (updating (update_in b)) (updating u)
    (updating_phase m b c.args.self.now.sound c.requires)
    (ap (λ p. phase_of p (update_of c.put.new.self)) c.requires ∙ ap updating c.put.ensures)
    (put_step (m b.store) (update_in b) c.args.number c.args.body.now d)

pub invariant_of-self-2 : goal.invariant_of-self-2
invariant_of-self-2 g c =
    let b = c.args.self.now in
    let m = g.S.Store.meaning in
    let f = (m b.store).bytes in
    let t = newest_table m b c.args.self.now.sound c.requires _ c.revisions.ensures c.last_row-row.result c.last_row-row.ensures _ c.cells.ensures _ c.cells_of-cells.ensures in
    let d = sym (c.in_ok-decide_put.ensures f (newest f) t) in
    record {
      sound = subst (λ p. SoundIn p f (revisions_in b) (cells_in b)) (sym (ap (λ p. phase_of p (update_of c.put.new.self)) c.requires ∙ ap updating c.put.ensures))
          (sound_stays.put f _ _ (update_in b) c.args.number c.args.body.now (updating_sound m b c.args.self.now.sound c.requires) d);
    }
