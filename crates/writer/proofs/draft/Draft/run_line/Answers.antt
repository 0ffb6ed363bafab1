use Rattle.writer.proofs.Joined.{adds_then, adds_as}
use Rattle.writer.proofs.Pieces.{line_parts}
use Rattle.writer.proofs.draft.Draft.run_line.Goals as goal

pub returns : goal.returns
returns c = adds_as (adds_then (rw c.from.ensures at c.number.ensures) c.number-2.ensures) (line_parts c.args.first c.args.count.value)
