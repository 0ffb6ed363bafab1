use Rattle.std.proofs.Common.{arith}
use Rattle.writer.specs.Helds.{update_of}
use Rattle.writer.proofs.Changes.{room_is, no_room}
use Rattle.writer.proofs.held.Held.has_room.Goals as goal

pub returns-then-len-lt-MOST_CHANGES : goal.returns-then-len-lt-MOST_CHANGES
returns-then-len-lt-MOST_CHANGES c =
    let h = c.args.self.now in
    let b = c.body_bytes.ensures in
    let few = h.bodies.few in
    let ok = h.bodies.items.ok in
    let all = h.all in
    room_is c.args.len c.len.result c.body_bytes.result (update_of h) c.len.ensures b (omega arith) (omega arith)

pub returns-else-len-lt-MOST_CHANGES : goal.returns-else-len-lt-MOST_CHANGES
returns-else-len-lt-MOST_CHANGES c = no_room c.args.len c.len.result (update_of c.args.self.now) c.len.ensures (omega arith)
