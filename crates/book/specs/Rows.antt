-- A row that is looked for.
use Rattle.std.specs.Prelude.{◌≡◌, ℕ, ◌<◌, Bool, true, false, List, length, slice_index_or, Some, None, Option}
use Rattle.entries.specs.declared.cell.Cell.{Cell}
use Rattle.entries.specs.declared.cell.Cell.TheVariants.{Used, Free}
use Rattle.entries.specs.declared.revision.Revision.{Revision}
use Rattle.book.specs.declared.rows.Body.{Body}
use Rattle.keeping.specs.Staying.{RowAt}
use Rattle.keeping.specs.Telling.{NoRow, CellAt}

abbrev pub is_free : Cell → Bool
is_free (Used g s e) = false
is_free (Free g l) = true

-- the row of revision k, or there is none
abbrev pub Found : List Revision → ℕ → Option Revision → Type 0
Found rs k None = NoRow rs k
Found rs k (Some q) = RowAt rs k q

-- the number n has no cell in a row, or a free one
abbrev pub NotUsed : List Cell → Revision → ℕ → Type 0
NotUsed cs q n = (c : Cell) → CellAt cs q n c → is_free c ≡ true

-- the body of the number n in a row, by its cell; or it is not in use
abbrev pub BodyFound : List Cell → Revision → ℕ → Option Body → Type 0
BodyFound cs q n None = NotUsed cs q n
BodyFound cs q n (Some b) = CellAt cs q n (Used b.generation b.start b.end)

-- the same among the cells of a row alone
abbrev pub BodyAmong : List Cell → ℕ → Option Body → Type 0
BodyAmong own n None = (c : Cell) → n < length own → c ≡ slice_index_or own n c → is_free c ≡ true
BodyAmong own n (Some b) = (n < length own) × (Used b.generation b.start b.end ≡ slice_index_or own n (Used b.generation b.start b.end))
