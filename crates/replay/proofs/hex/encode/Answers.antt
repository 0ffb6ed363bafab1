use Rattle.std.proofs.Common.{vec_items, arith}
use Rattle.replay.proofs.Hexes.{encoded_more}
use Rattle.replay.proofs.hex.encode.Goals as goal

pub loop-b-preserved : goal.loop-b-preserved
loop-b-preserved c =
    let added = c.in_ok-extend_from_slice.ensures.items in
    let more = encoded_more (vec_items c.args.text.now) c.args.bytes.now c.loop-b.b-index (omega arith) in
    cc
