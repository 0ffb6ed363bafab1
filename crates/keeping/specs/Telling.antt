-- What the tables of a file tell of its revisions, row by row and cell by cell.
use Rattle.std.specs.Prelude.{◌≡◌, ℕ, ◌+◌, ◌<◌, ◌≤◌, Bool, true, false, List, length, Some, None, Ok, ◌==◌, slice_index_or}
use Rattle.format.specs.Book.{revision_at, blank, newest_or, newest, is_used, is_worn_out}
use Rattle.format.specs.Bytes.{Bytes}
use Rattle.format.specs.Revisions as format
use Rattle.format.specs.Revisions.{Opened, opens, nth}
use Rattle.format.specs.Updates.{shown_of, objects_of, Update, new_numbers}
use Rattle.format.specs.Writing.{new_size}
use Rattle.entries.specs.declared.cell.Cell.{Cell}
use Rattle.entries.specs.declared.cell.Cell.TheVariants.{Used, Free}
use Rattle.entries.specs.declared.revision.Revision.{Revision}
use Rattle.entries.specs.Cells.{state_in, states_in, EndsBy, AllEndBy}
use Rattle.entries.specs.Tables.{bare, cells_of, revision_in, TablesOf}
use Rattle.keeping.specs.Staying.{RowAt}

-- the row q stands for the revision r, its cells for the states of its numbers
pub record RowOf (file : Bytes) (cs : List Cell) (r : format.Revision) (q : Revision) : Type 0 where
  pub is : bare r ≡ revision_in file cs q
  pub offset : r.offset ≡ q.offset
  pub end : r.end ≡ q.end
  pub size : r.size ≡ q.size
  pub root : r.root ≡ q.root
  pub root_gen : r.root_gen ≡ q.root_generation
  pub states : r.states ≡ states_in file (cells_of cs q)
  pub within : q.first + q.size ≤ length cs
  pub before : AllEndBy q.offset (cells_of cs q)

-- there is no such revision
abbrev pub NoRow : List Revision → ℕ → Type 0
NoRow rs k = 1 ≤ k → k ≤ length rs → ⊥

-- the tables of a file whose revisions are given: as many rows as revisions, and each row stands for its revision
pub record Tells (file : Bytes) (history : List format.Revision) (rs : List Revision) (cs : List Cell) : Type 0 where
  pub counted : length rs ≡ length history
  pub row : (k : ℕ) (q : Revision) → RowAt rs k q → (r : format.Revision) × (revision_at k history ≡ Some r) × RowOf file cs r q
  pub none : (k : ℕ) → NoRow rs k → revision_at k history ≡ None
  pub last : (q : Revision) → RowAt rs (length rs) q → RowOf file cs (newest_or blank history) q

abbrev pub TablesTell : Type 0
TablesTell =
    (file : Bytes) (history : List format.Revision) (rs : List Revision) (cs : List Cell) → TablesOf file history rs cs → Tells file history rs cs

-- the last row of an open file stands for its newest revision
abbrev pub LastRowIsNewest : Type 0
LastRowIsNewest =
    (file : Bytes) (o : Opened) (rs : List Revision) (cs : List Cell) → opens file ≡ Ok o → TablesOf file o.history rs cs →
    (1 ≤ length rs) × ((q : Revision) → RowAt rs (length rs) q → RowOf file cs (newest file) q)

-- the cell c of the number n in the row q, as an index reads it
pub record CellAt (cs : List Cell) (q : Revision) (n : ℕ) (c : Cell) : Type 0 where
  pub below : n < q.size
  pub read : c ≡ slice_index_or cs (q.first + n) c

abbrev pub in_use : Cell → Bool
in_use (Used g s e) = true
in_use (Free g n) = false

-- free for good
abbrev pub worn_out : Cell → Bool
worn_out (Used g s e) = false
worn_out (Free g n) = g == 65535

-- each cell of a row stands for the state of its number, and its body ends before the section; there are no others
pub record CellsTold (file : Bytes) (cs : List Cell) (r : format.Revision) (q : Revision) : Type 0 where
  pub state : (n : ℕ) (c : Cell) → CellAt cs q n c → nth n r.states ≡ Some (state_in file c)
  pub shown : (n : ℕ) (c : Cell) → CellAt cs q n c → nth n (objects_of r).numbers ≡ Some (shown_of (state_in file c))
  pub ends : (n : ℕ) (c : Cell) → CellAt cs q n c → EndsBy q.offset c
  pub past : (n : ℕ) → q.size ≤ n → nth n r.states ≡ None
  pub nothing : (n : ℕ) → q.size ≤ n → nth n (objects_of r).numbers ≡ None
  -- what put and remove ask of a number
  pub used : (n : ℕ) (c : Cell) → CellAt cs q n c → is_used (nth n r.states) ≡ in_use c
  pub worn : (n : ℕ) (c : Cell) → CellAt cs q n c → is_worn_out (nth n r.states) ≡ worn_out c
  pub unused : (n : ℕ) → q.size ≤ n → is_used (nth n r.states) ≡ false
  pub unworn : (n : ℕ) → q.size ≤ n → is_worn_out (nth n r.states) ≡ false
  pub size : (u : Update) → new_size r u ≡ q.size + new_numbers q.size u

abbrev pub CellsTell : Type 0
CellsTell = (file : Bytes) (cs : List Cell) (r : format.Revision) (q : Revision) → RowOf file cs r q → CellsTold file cs r q
