use Rattle.std.proofs.Common.{◌≡◌, ◌+◌, length, insert, refl, ap, ◌∙◌, arith, length-append}
use Rattle.entries.specs.Reserving.{items_of}
use Rattle.format.specs.Updates.{body, body_bytes, body_length}
use Rattle.writer.specs.declared.change.Content.TheVariants.{Body}
use Rattle.writer.specs.declared.change.Change.{Change}
use Rattle.writer.specs.Changes.{update_in, place_for}
use Rattle.writer.specs.Helds.{pool_of}
use Rattle.writer.proofs.Changes.{body_put, bytes_with, new_within, room, still_within}
use Rattle.writer.proofs.held.Held.put.Goals as goal

pub extend_from_slice-requires : goal.extend_from_slice-requires
extend_from_slice-requires c =
    let h = c.args.self.now in
    let r = room (length c.args.bytes.now) (pool_of h) (items_of h.changes) c.requires.room in
    let w = h.all in
    omega arith

pub insert_change-requires : goal.insert_change-requires
insert_change-requires c =
    let h = c.args.self.now in
    let r = room (length c.args.bytes.now) (pool_of h) (items_of h.changes) c.requires.room in
    omega arith

pub invariant_of-self : goal.invariant_of-self
unfolding body_length
invariant_of-self c =
    let h = c.args.self.now in
    let pool = pool_of h in
    let cs = items_of h.changes in
    let more = c.args.bytes.now in
    let start = c.body_bytes-start.result in
    let pool' = items_of c.extend_from_slice.new.self in
    let w = h.all in
    let start_is : start ≡ length pool = c.body_bytes-start.ensures ∙ h.all in
    let grown : length pool' ≡ length pool + length more = ap length c.extend_from_slice.ensures ∙ length-append pool more in
    let one : Change = record { number = c.args.n; content = Body start (start + length more) } in
    let e : items_of c.insert_change.new.changes ≡ insert cs (place_for c.args.n cs) one = c.insert_change.ensures in
    let view = body_put c.args.n start (start + length more) (length pool) pool more pool' cs (items_of c.insert_change.new.changes) c.requires.free h.within refl start_is refl c.extend_from_slice.ensures e in
    let sum = ap body_bytes view ∙ bytes_with c.args.n (body more) (update_in pool cs) c.requires.free in
    let fits = new_within start (start + length more) (length pool') (omega arith) (omega arith) in
    record { within = rw e (still_within (length pool) (length pool') (place_for c.args.n cs) one cs h.within (omega arith) fits); all = omega arith }

pub returns : goal.returns
returns c =
    let h = c.args.self.now in
    let pool = pool_of h in
    let cs = items_of h.changes in
    let more = c.args.bytes.now in
    let start = c.body_bytes-start.result in
    let one : Change = record { number = c.args.n; content = Body start (start + length more) } in
    body_put c.args.n start (start + length more) (length pool) pool more (items_of c.extend_from_slice.new.self) cs (items_of c.insert_change.new.changes) c.requires.free h.within refl (c.body_bytes-start.ensures ∙ h.all) refl c.extend_from_slice.ensures
    c.insert_change.ensures
