-- What the questions to an open book answer, read off its tables.
use Rattle.std.specs.Prelude.{◌≡◌, ℕ, ◌+◌, ◌-◌, ◌<◌, ◌≤◌, true, false, List, [], ◌∷◌, length, take, drop, Ok, Err, nat_le, slice_index_or}
use Rattle.faults.specs.declared.reason.Reason.TheVariants.{BookShut, NoRevision, NotInUse, ShortBuffer, NoSpace}
use Rattle.faults.specs.Faults.{refused}
use Rattle.format.specs.Book.{Moment}
use Rattle.format.specs.Bytes.{Bytes}
use Rattle.format.specs.Chain.{Answer, must}
use Rattle.format.specs.Questions.{is_shut, ask_count, ask_list, ask_fetch, ask_draw}
use Rattle.format.specs.Revisions.{Opened, opens}
use Rattle.entries.specs.declared.cell.Cell.{Cell}
use Rattle.entries.specs.declared.cell.Cell.TheVariants.{Used, Free}
use Rattle.entries.specs.declared.revision.Revision.{Revision}
use Rattle.entries.specs.Cells.{part, EndsBy}
use Rattle.entries.specs.Tables.{cells_of, TablesOf}
use Rattle.keeping.specs.Staying.{RowAt}
use Rattle.keeping.specs.Telling.{NoRow, CellAt}

-- a shut book answers no question
pub record ShutAnswers (m : Moment) : Type 0 where
  pub count : ask_count m ≡ Err (refused BookShut 0)
  pub list : (k : ℕ) → ask_list m k ≡ Err (refused BookShut 0)
  pub fetch : (k n room : ℕ) → ask_fetch m k n room ≡ Err (refused BookShut n)
  pub draw : (k space : ℕ) → ask_draw m k space ≡ Err (refused BookShut 0)

abbrev pub ShutBooksAnswerNothing : Type 0
ShutBooksAnswerNothing = (m : Moment) → is_shut m.phase ≡ true → ShutAnswers m

-- a book that is not shut, over bytes that open, with the tables of these
pub record OpenBook (m : Moment) (rs : List Revision) (cs : List Cell) : Type 0 where
  pub unshut : is_shut m.phase ≡ false
  pub opened : Opened
  pub accepted : opens m.store.bytes ≡ Ok opened
  pub tables : TablesOf m.store.bytes opened.history rs cs

-- the count is that of the rows
abbrev pub CountFromRows : Type 0
CountFromRows = (m : Moment) (rs : List Revision) (cs : List Cell) → OpenBook m rs cs → ask_count m ≡ Ok (length rs)

-- one for a cell in use
abbrev pub used_one : Cell → ℕ
used_one (Used g s e) = 1
used_one (Free g n) = 0

-- how many cells are in use
abbrev pub used_among : List Cell → ℕ
used_among [] = 0
used_among (c ∷ cs) = used_one c + used_among cs

-- they can be counted one after the other
abbrev pub UsedCellsCount : Type 0
UsedCellsCount =
    (cs : List Cell) (first i : ℕ) (c : Cell) → first + i < length cs → c ≡ slice_index_or cs (first + i) c →
    used_among (take (i + 1) (drop first cs)) ≡ used_among (take i (drop first cs)) + used_one c

-- list of revision k: what its row has, and how many of its cells, which are there, are in use
pub record ListFrom (m : Moment) (rs : List Revision) (cs : List Cell) (k : ℕ) : Type 0 where
  pub none : NoRow rs k → ask_list m k ≡ Err (refused NoRevision 0)
  pub there : (q : Revision) → RowAt rs k q → q.first + q.size ≤ length cs
  pub some : (q : Revision) → RowAt rs k q →
      ask_list m k ≡ Ok (record { offset = q.offset; end = q.end; size = q.size; count = used_among (cells_of cs q) })

abbrev pub ListFromRows : Type 0
ListFromRows = (m : Moment) (rs : List Revision) (cs : List Cell) (k : ℕ) → OpenBook m rs cs → ListFrom m rs cs k

-- what fetch answers of the number n whose cell is given: the generation and the body, if the buffer has room for it
abbrev pub fetched_from : Bytes → (n room : ℕ) → Cell → Answer (ℕ × Bytes)
fetched_from file n room (Used g s e) = must (nat_le (e - s) room) (refused ShortBuffer n) (λ _. Ok (g, part file s e))
fetched_from file n room (Free g l) = Err (refused NotInUse n)

-- fetch of the number n in revision k: from its cell, whose body lies within the file
pub record FetchFrom (m : Moment) (rs : List Revision) (cs : List Cell) (k n room : ℕ) : Type 0 where
  pub none : NoRow rs k → ask_fetch m k n room ≡ Err (refused NoRevision n)
  pub past : (q : Revision) → RowAt rs k q → q.size ≤ n → ask_fetch m k n room ≡ Err (refused NotInUse n)
  pub cell : (q : Revision) (c : Cell) → RowAt rs k q → CellAt cs q n c → ask_fetch m k n room ≡ fetched_from m.store.bytes n room c
  pub there : (q : Revision) → RowAt rs k q → n < q.size → q.first + n < length cs
  pub ends : (q : Revision) (c : Cell) → RowAt rs k q → CellAt cs q n c → EndsBy (length m.store.bytes) c

abbrev pub FetchFromCells : Type 0
FetchFromCells = (m : Moment) (rs : List Revision) (cs : List Cell) (k n room : ℕ) → OpenBook m rs cs → FetchFrom m rs cs k n room

-- drawing out revision k: the bytes up to the end that its row has, which lies within the file
pub record DrawFrom (m : Moment) (rs : List Revision) (k space : ℕ) : Type 0 where
  pub none : NoRow rs k → ask_draw m k space ≡ Err (refused NoRevision 0)
  pub some : (q : Revision) → RowAt rs k q →
      ask_draw m k space ≡ must (nat_le q.end space) (refused NoSpace 0) (λ _. Ok (take q.end m.store.bytes))
  pub short : (q : Revision) → RowAt rs k q → q.end ≤ length m.store.bytes

abbrev pub DrawFromRows : Type 0
DrawFromRows = (m : Moment) (rs : List Revision) (cs : List Cell) (k space : ℕ) → OpenBook m rs cs → DrawFrom m rs k space
