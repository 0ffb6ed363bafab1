use Rattle.writer.proofs.Joined.{adds_then, adds_as}
use Rattle.writer.proofs.Pieces.{entry_parts}
use Rattle.writer.proofs.draft.Draft.marked_entry.Goals as goal

pub returns : goal.returns
returns c =
    adds_as
    (adds_then c.ten_digits.ensures
    (adds_then c.byte.ensures
    (adds_then (rw c.from.ensures at c.padded.ensures)
    (adds_then c.byte-2.ensures
    (adds_then c.byte-3.ensures c.entry_end.ensures)))))
    (entry_parts c.args.field c.args.generation c.args.mark)
