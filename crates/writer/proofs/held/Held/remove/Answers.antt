use Rattle.std.proofs.Common.{◌≡◌, length, insert, refl, ap, ◌∙◌, arith}
use Rattle.entries.specs.Reserving.{items_of}
use Rattle.format.specs.Updates.{removed, body_bytes, body_length}
use Rattle.writer.specs.declared.change.Content.TheVariants.{Removed}
use Rattle.writer.specs.declared.change.Change.{Change}
use Rattle.writer.specs.Changes.{update_in, place_for}
use Rattle.writer.specs.Helds.{pool_of}
use Rattle.writer.proofs.Changes.{body_removed, bytes_with, room, still_within}
use Rattle.writer.proofs.held.Held.remove.Goals as goal

pub insert_change-requires : goal.insert_change-requires
insert_change-requires c =
    let h = c.args.self.now in
    let r = room 0 (pool_of h) (items_of h.changes) c.requires.room in
    omega arith

pub invariant_of-self : goal.invariant_of-self
unfolding body_length
invariant_of-self c =
    let h = c.args.self.now in
    let pool = pool_of h in
    let cs = items_of h.changes in
    let w = h.all in
    let one : Change = record { number = c.args.n; content = Removed } in
    let e : items_of c.insert_change.new.changes ≡ insert cs (place_for c.args.n cs) one = c.insert_change.ensures in
    let view = body_removed c.args.n pool cs (items_of c.insert_change.new.changes) c.requires.free e in
    let sum = ap body_bytes view ∙ bytes_with c.args.n removed (update_in pool cs) c.requires.free in
    record { within = rw e (still_within (length pool) (length pool) (place_for c.args.n cs) one cs h.within (omega arith) refl); all = omega arith }

pub returns : goal.returns
returns c =
    let h = c.args.self.now in
    let cs = items_of h.changes in
    let one : Change = record { number = c.args.n; content = Removed } in
    body_removed c.args.n (pool_of h) cs (items_of c.insert_change.new.changes) c.requires.free c.insert_change.ensures
