use Rattle.writer.proofs.Joined.{adds_then, adds_as}
use Rattle.writer.proofs.Pieces.{framed_parts}
use Rattle.writer.proofs.draft.Draft.object.Goals as goal

pub returns : goal.returns
returns c =
    let a = rw c.from.ensures at c.number.ensures in
    let b = rw c.from-2.ensures at c.number-2.ensures in
    adds_as (adds_then a (adds_then b (adds_then c.text.ensures c.object_end.ensures))) (framed_parts c.args.number c.args.generation c.args.body.now)
