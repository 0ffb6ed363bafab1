use Rattle.writer.proofs.Pieces.{parts}
use Rattle.writer.proofs.parts.pieces_make_a_section.Goals as goal

pub returns : goal.returns
returns c = parts
