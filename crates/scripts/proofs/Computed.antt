-- The examples, by computation.
use Rattle.std.proofs.Common.{refl}
use Rattle.format.specs.Bytes.{computes_bytes}
use Rattle.format.specs.Frames.{computes_frames}
use Rattle.format.specs.Lines.{computes_lines}
use Rattle.format.specs.Revisions.{computes_revisions}
use Rattle.format.specs.Updates.{computes_updates}
use Rattle.format.specs.Writing.{computes_writing}
use Rattle.scripts.specs.Dots.{computes_dots}
use Rattle.scripts.specs.Examples.{Examples}
use Rattle.scripts.specs.Lines.{computes_script_lines}
use Rattle.scripts.specs.Scripts.{computes_scripts}

pub examples : Examples
unfolding computes_bytes computes_frames computes_lines computes_revisions computes_updates computes_writing computes_dots computes_script_lines computes_scripts
examples = record {
  read = refl;
  printed = refl;
  no_line = refl;
  empty_line = refl;
  two_empty_lines = refl;
  no_comment = refl;
  last_line = refl;
  last_dot = refl;
  zeros = refl;
  again = refl;
  unended = refl;
  single_dot = refl;
  eleven_digits = refl;
  space_behind = refl;
  space_before = refl;
  first_wrong = refl;
}
