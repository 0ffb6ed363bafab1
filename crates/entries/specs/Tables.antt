-- The tables of an open file, as the revisions that opening gives.
use Rattle.std.specs.Prelude.{◌≡◌, List, [], ◌∷◌, map, ℕ, ◌+◌, length, take, drop}
use Rattle.format.specs.Bytes.{Bytes}
use Rattle.format.specs.Objects.{no_entries}
use Rattle.format.specs.Revisions as format
use Rattle.entries.specs.declared.cell.Cell.{Cell}
use Rattle.entries.specs.declared.revision.Revision.{Revision}
use Rattle.entries.specs.Cells.{states_in, AllEndBy}

-- a revision without its trailer's entries, which no table keeps
abbrev pub bare : format.Revision → format.Revision
bare r =
    record {
      offset = r.offset;
      end = r.end;
      size = r.size;
      root = r.root;
      root_gen = r.root_gen;
      trailer = no_entries;
      states = r.states;
    }

-- the cells of a revision among those of all
abbrev pub cells_of : List Cell → Revision → List Cell
cells_of cells r = take r.size (drop r.first cells)

-- the revision that a row of the table stands for, in the file that its cells point into
abbrev pub revision_in : Bytes → List Cell → Revision → format.Revision
revision_in file cells r =
    record {
      offset = r.offset;
      end = r.end;
      size = r.size;
      root = r.root;
      root_gen = r.root_generation;
      trailer = no_entries;
      states = states_in file (cells_of cells r);
    }

-- the cells of the revisions stand one behind the other, from a place up to another
abbrev pub Stacked : (start end : ℕ) → List Revision → Type 0
Stacked start end [] = start ≡ end
Stacked start end (r ∷ rs) = (r.first ≡ start) × Stacked (start + r.size) end rs

-- the bodies that a revision's cells point at end before its section
abbrev pub Within : List Cell → List Revision → Type 0
Within cells [] = Unit {0}
Within cells (r ∷ rs) = AllEndBy r.offset (cells_of cells r) × Within cells rs

-- the tables are those of a file whose revisions are given
pub record TablesOf (file : Bytes) (history : List format.Revision) (revisions : List Revision) (cells : List Cell) : Type 0 where
  pub is : map bare history ≡ map (revision_in file cells) revisions
  pub stacked : Stacked 0 (length cells) revisions
  pub within : Within cells revisions
