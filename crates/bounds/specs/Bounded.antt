-- The bounds that the numbers of an open file and of its tables keep.
use Rattle.std.specs.Prelude.{◌≡◌, ◌<◌, ◌≤◌, List, length}
use Rattle.format.specs.Book.{history, newest, most_size}
use Rattle.format.specs.Bytes.{Bytes}
use Rattle.format.specs.Revisions.{file_bytes, most_revisions}
use Rattle.entries.specs.declared.cell.Cell.{Cell}
use Rattle.entries.specs.declared.revision.Revision.{Revision}
use Rattle.entries.specs.Tables.{cells_of}
use Rattle.keeping.specs.Standing.{Stands}
use Rattle.keeping.specs.Staying.{RowAt}
use Rattle.records.specs.Tabled.{Tabled}
use Rattle.writer.specs.Plans.{GenerationsFit}

-- A file with its tables: every Size is at most 1000, and the tables stand one behind the other; there are 1 to 64 rows, one for each revision;
-- the file has at most 9,999,999 bytes, and its newest section starts before its end; the generations in the newest table are at most 65535.
pub record Bounded (file : Bytes) (rs : List Revision) (cs : List Cell) : Type 0 where
  pub tabled : Tabled rs cs
  pub some : 1 ≤ length rs
  pub few : length rs ≤ most_revisions
  pub counted : length (history file) ≡ length rs
  pub short : length file ≤ file_bytes
  pub offset : (newest file).offset < length file
  pub size : (newest file).size ≤ most_size
  pub generations : (q : Revision) → RowAt rs (length rs) q → GenerationsFit (cells_of cs q)

abbrev pub OpenFilesAreBounded : Type 0
OpenFilesAreBounded = (file : Bytes) (rs : List Revision) (cs : List Cell) → Stands file rs cs → Bounded file rs cs
