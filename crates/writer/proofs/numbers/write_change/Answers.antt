use Rattle.std.proofs.Common.{length, Some, ap, ◌∙◌, arith}
use Rattle.writer.specs.Helds.{pool_of}
use Rattle.writer.specs.Plans.{room_for}
use Rattle.writer.proofs.Lengths.{framed_at_most}
use Rattle.writer.proofs.Planning.{body_there}
use Rattle.writer.proofs.numbers.write_change.Goals as goal

pub object-requires : goal.object-requires
object-requires c =
    let f = rw c.in-Some-Body.is at c.in-Some-Body.field-0-is in
    let there = ap room_for (body_there (pool_of c.args.held.now) c.args.change c.in-Some-Body.start c.in-Some-Body.end (c.in-Some-Body.is ∙ ap Some f)) in
    let len = ap length c.body.ensures in
    let h = framed_at_most c.args.n c.args.generation c.body.result.now (omega arith) (omega arith) in
    let r = c.requires.room in
    omega arith
