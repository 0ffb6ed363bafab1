use Rattle.writer.proofs.Joined.{adds_then, adds_as}
use Rattle.writer.proofs.Pieces.{run_of_parts}
use Rattle.writer.proofs.draft.Draft.run.Goals as goal

pub returns : goal.returns
returns c = adds_as (adds_then c.run_line.ensures c.entries.ensures) (run_of_parts c.args.first c.args.all.now)
