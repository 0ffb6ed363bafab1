-- What a plan holds, and how it grows with the objects written.
use Rattle.std.specs.Prelude.{◌≡◌, ℕ, ◌+◌, ◌≤◌, List, [], ◌∷◌, ◌++◌, map, length, Some, None, Option}
use Rattle.std.specs.Coded.{×_prop, Unit-prop, le_prop}
use Rattle.entries.specs.declared.cell.Cell.{Cell}
use Rattle.entries.specs.declared.cell.Cell.TheVariants.{Used, Free}
use Rattle.entries.specs.declared.reserved.Reserved.{Reserved}
use Rattle.entries.specs.Cells.{states_in}
use Rattle.entries.specs.Reserving.{items_of}
use Rattle.format.specs.Bytes.{Bytes}
use Rattle.format.specs.Revisions.{find, nth}
use Rattle.format.specs.Updates.{Change, Update, body, removed}
use Rattle.format.specs.Writing as format
use Rattle.format.specs.Writing.{framed_bytes, cell, cell_bytes, cells, object_bytes}
use Rattle.writer.specs.declared.draft.Draft.{Draft}
use Rattle.writer.specs.declared.plan.Planned.{Planned}
use Rattle.writer.specs.Drafts.{Adds, count}
use Rattle.writer.specs.Planned.{planned_of}
use Rattle.writer.specs.Sizes.{most_numbers}

abbrev pub Plan : Type 0
Plan = Reserved Planned most_numbers

abbrev pub rows_of : Plan → List Planned
rows_of p = items_of p

abbrev pub plan_count : Plan → ℕ
plan_count p = length (rows_of p)

-- the generations of a table's cells are at most 65535
abbrev pub generation_in : Cell → ℕ
generation_in (Used g s e) = g
generation_in (Free g n) = g

abbrev pub GenerationsFit : List Cell → Type 0
GenerationsFit [] = Unit {0}
GenerationsFit (c ∷ cs) = (generation_in c ≤ 65535) × GenerationsFit cs

pub GenerationsFit-prop : (cs : List Cell) → IsProp (GenerationsFit cs)
GenerationsFit-prop [] = Unit-prop
GenerationsFit-prop (c ∷ cs) = ×_prop le_prop (GenerationsFit-prop cs)

-- the bytes that a change of the number n adds, where its generation is g
abbrev pub change_bytes : ℕ → ℕ → Option Change → Bytes
change_bytes n g None = []
change_bytes n g (Some (body b)) = framed_bytes n g b
change_bytes n g (Some removed) = []

-- how many bytes the object of a change may need
abbrev pub room_for : Option Change → ℕ
room_for None = 0
room_for (Some (body b)) = 34 + length b
room_for (Some removed) = 0

-- what an update makes of the number n, behind a file of that length and what is in the draft
abbrev pub made_of : Bytes → List Cell → Update → ℕ → Draft → ℕ → format.Cell
made_of file cs u len d n = cell (len + count d) (nth n (states_in file cs)) (find n u)

-- the next number: its object goes into the draft, what becomes of it into the plan
pub record Writes (file : Bytes) (cs : List Cell) (u : Update) (len n : ℕ) (d : Draft) (p : Plan) (d' : Draft) (p' : Plan) : Type 0 where
  pub bytes : Adds d (cell_bytes n (made_of file cs u len d n)) d'
  pub rows : rows_of p' ≡ rows_of p ++ planned_of (made_of file cs u len d n) ∷ []

-- what an update makes of the numbers below a size, behind a file of that length
abbrev pub all_made : Bytes → List Cell → Update → ℕ → ℕ → List format.Cell
all_made file cs u len size = cells size 0 len (states_in file cs) u

-- all numbers below a size: their objects are in the draft, what becomes of them in the plan
pub record WritesAll (file : Bytes) (cs : List Cell) (u : Update) (len size : ℕ) (d : Draft) (d' : Draft) (p' : Plan) : Type 0 where
  pub bytes : Adds d (object_bytes 0 (all_made file cs u len size)) d'
  pub rows : rows_of p' ≡ map planned_of (all_made file cs u len size)
