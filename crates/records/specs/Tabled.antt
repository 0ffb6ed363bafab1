-- The tables of revisions, in memory that was taken once.
use Rattle.std.specs.Prelude.{◌≡◌, ℕ, ◌≤◌, List, [], ◌∷◌, ◌++◌, length, drop, Ok, Err, Result, MatchResult}
use Rattle.faults.specs.declared.fault.Fault.{Fault}
use Rattle.format.specs.Bytes.{Bytes}
use Rattle.format.specs.Revisions as format
use Rattle.entries.specs.declared.cell.Cell.{Cell}
use Rattle.entries.specs.declared.revision.Revision.{Revision}
use Rattle.entries.specs.Reserving.{items_of}
use Rattle.entries.specs.Tables.{Stacked, TablesOf}
use Rattle.records.specs.declared.link.Link.{Link}
use Rattle.records.specs.declared.revision_tables.Tables.{Tables}
use Rattle.records.specs.Links.{next_revision}

abbrev pub revisions_held : Tables → List Revision
revisions_held t = items_of t.revisions

abbrev pub cells_held : Tables → List Cell
cells_held t = items_of t.cells

-- every Size is at most 1000
abbrev pub AllSmall : List Revision → Type 0
AllSmall [] = Unit {0}
AllSmall (r ∷ rs) = (r.size ≤ 1000) × AllSmall rs

-- the tables stand one behind the other, and none is too large
pub record Tabled (revisions : List Revision) (cells : List Cell) : Type 0 where
  pub small : AllSmall revisions
  pub stacked : Stacked 0 (length cells) revisions

-- where the newest table starts, which is at n where there is none
unfoldable pub last_first : ℕ → List Revision → ℕ
last_first n [] = n
last_first n (r ∷ rs) = last_first r.first rs

-- the cells of the newest table
abbrev pub newest_cells : List Revision → List Cell → List Cell
newest_cells revisions cells = drop (last_first (length cells) revisions) cells

-- the revision of a section and its Size, whose cells start at a place
abbrev pub held_as : Link → ℕ → ℕ → Revision
held_as k n first =
    record {
      offset = k.offset;
      end = k.end;
      size = n;
      root = k.told.root;
      root_generation = k.told.root_generation;
      first = first;
    }

-- the tables of a file's revisions with the one that the section at an offset makes, or its fault
abbrev pub Revised : Bytes → List format.Revision → ℕ → Result (Unit {0}) Fault → List Revision → List Cell → Type 0
Revised file h off r revisions cells =
    MatchResult r (λ _. (new : format.Revision) × (next_revision file h off ≡ Ok new) × (new.offset ≡ off) × TablesOf file (h ++ new ∷ []) revisions cells) (λ f. next_revision file h off ≡ Err f)
