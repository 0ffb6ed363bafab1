use Rattle.sections.proofs.Entries.{slot_length}
use Rattle.writer.proofs.Decimals.{decimal_length}
use Rattle.writer.proofs.Lengths.{framed_at_most, run_at_most, pair_length, size_at_most, prev_at_most, close_at_most}
use Rattle.writer.proofs.parts.pieces_are_bounded.Goals as goal

pub returns : goal.returns
returns c = record {
  number = decimal_length;
  object = framed_at_most;
  entry = slot_length;
  run = run_at_most;
  pair = pair_length;
  size = size_at_most;
  prev = prev_at_most;
  close = close_at_most;
}
