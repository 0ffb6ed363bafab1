-- When the tables of a file are those of another: of the file with more bytes behind it, with one more revision, or cut at a revision's end.
use Rattle.std.specs.Prelude.{◌≡◌, ℕ, ◌+◌, ◌-◌, ◌≤◌, List, [], ◌∷◌, ◌++◌, length, take, Ok, slice_index_or}
use Rattle.format.specs.Book.{end_of_revision}
use Rattle.format.specs.Bytes.{Bytes}
use Rattle.format.specs.Revisions as format
use Rattle.format.specs.Revisions.{Opened, opens}
use Rattle.entries.specs.declared.cell.Cell.{Cell}
use Rattle.entries.specs.declared.revision.Revision.{Revision}
use Rattle.entries.specs.Cells.{AllEndBy}
use Rattle.entries.specs.Tables.{bare, revision_in, TablesOf}

-- every section starts at a place or before it
abbrev pub StartBy : ℕ → List Revision → Type 0
StartBy limit [] = Unit {0}
StartBy limit (r ∷ rs) = (r.offset ≤ limit) × StartBy limit rs

-- the tables of a file that opens: every section starts within the file
abbrev pub SectionsStartWithin : Type 0
SectionsStartWithin =
    (file : Bytes) (o : Opened) (rs : List Revision) (cs : List Cell) →
    opens file ≡ Ok o → TablesOf file o.history rs cs → StartBy (length file) rs

-- Bytes behind a file leave its tables as they are: no body reaches into them.
abbrev pub TablesGrow : Type 0
TablesGrow =
    (file more : Bytes) (history : List format.Revision) (rs : List Revision) (cs : List Cell) →
    TablesOf file history rs cs → StartBy (length file) rs → TablesOf (file ++ more) history rs cs

-- a row q with new cells behind those of the table, which stand for the revision r
pub record NextRow (file : Bytes) (cs new : List Cell) (r : format.Revision) (q : Revision) : Type 0 where
  pub is : bare r ≡ revision_in file (cs ++ new) q
  pub first : q.first ≡ length cs
  pub size : length new ≡ q.size
  pub within : AllEndBy q.offset new

-- one more row behind the tables, for one more revision
abbrev pub TablesTakeOneMore : Type 0
TablesTakeOneMore =
    (file : Bytes) (history : List format.Revision) (rs : List Revision) (cs new : List Cell) (r : format.Revision) (q : Revision) →
    TablesOf file history rs cs → NextRow file cs new r q → TablesOf file (history ++ (r ∷ [])) (rs ++ (q ∷ [])) (cs ++ new)

-- the row q of revision k, counted from 1, as an index reads it
pub record RowAt (rs : List Revision) (k : ℕ) (q : Revision) : Type 0 where
  pub low : 1 ≤ k
  pub high : k ≤ length rs
  pub read : q ≡ slice_index_or rs (k - 1) q

-- A file cut where its revision k ends, by the row q of that revision: it opens as the first k revisions, and the first rows and cells are its tables.
pub record CutAt (file : Bytes) (o : Opened) (rs : List Revision) (cs : List Cell) (k : ℕ) (q : Revision) : Type 0 where
  pub end : end_of_revision k o.history ≡ q.end
  pub short : q.end ≤ length file
  pub few : q.first + q.size ≤ length cs
  pub opened : opens (take q.end file) ≡ Ok (record { header = o.header; history = take k o.history })
  pub tables : TablesOf (take q.end file) (take k o.history) (take k rs) (take (q.first + q.size) cs)

abbrev pub TablesAreCut : Type 0
TablesAreCut =
    (file : Bytes) (o : Opened) (rs : List Revision) (cs : List Cell) (k : ℕ) (q : Revision) →
    opens file ≡ Ok o → TablesOf file o.history rs cs → RowAt rs k q → CutAt file o rs cs k q
