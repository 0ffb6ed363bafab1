-- The table of a revision, as cells.
use Rattle.std.specs.Prelude.{◌≡◌, List, length}
use Rattle.format.specs.Bytes.{Bytes}
use Rattle.format.specs.Revisions.{Revision}
use Rattle.entries.specs.declared.cell.Cell.{Cell}
use Rattle.entries.specs.Cells.{states_in}

-- the cells are those of a revision, in the file that they point into
pub record TableOf (file : Bytes) (cells : List Cell) (v : Revision) : Type 0 where
  pub states : v.states ≡ states_in file cells
  pub size : v.size ≡ length cells
