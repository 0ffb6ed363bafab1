-- What an update makes of a number, without the bodies.
use Rattle.std.specs.Prelude.{[]}
use Rattle.format.specs.Revisions.{used, free}
use Rattle.format.specs.Writing as format
use Rattle.format.specs.Writing.{kept, wrote, freed}
use Rattle.writer.specs.declared.plan.Planned.{Planned}
use Rattle.writer.specs.declared.plan.Planned.TheVariants.{Kept, Vacant, Wrote, Freed}

abbrev pub planned_of : format.Cell → Planned
planned_of (kept (used g b)) = Kept
planned_of (kept (free g l)) = Vacant g l
planned_of (wrote g p b) = Wrote g p
planned_of (freed g) = Freed g

-- a cell that is planned so
abbrev pub cell_of : Planned → format.Cell
cell_of Kept = kept (used 0 [])
cell_of (Vacant g l) = kept (free g l)
cell_of (Wrote g p) = wrote g p []
cell_of (Freed g) = freed g
