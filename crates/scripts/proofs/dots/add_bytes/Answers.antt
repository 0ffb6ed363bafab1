use Rattle.std.proofs.Common.{true, vec_items, sym, refl, arith}
use Rattle.scripts.specs.Dots.{dot_as}
use Rattle.scripts.proofs.Dotting.{each_none, each_more, starts_more}
use Rattle.scripts.proofs.dots.add_bytes.Goals as goal

pub loop-b-init : goal.loop-b-init
loop-b-init c = (each_none (dot_as c.args.dot.now) true _, refl)

pub loop-b-preserved : goal.loop-b-preserved
loop-b-preserved c =
    let pushed = c.in_ok-push_byte.ensures in
    let before = c.loop-b.invariant.0 in
    let more = each_more (dot_as c.args.dot.now) (vec_items c.args.out.now) c.args.bytes.now c.loop-b.b-index c.loop-b.starts (omega arith) c.loop-b.invariant.1 in
    (cc, sym (starts_more c.args.bytes.now c.loop-b.b-index (omega arith)))
