-- What a book is at a moment, and what it keeps true.
use Rattle.std.specs.Prelude.{List, Ok, Err, Result}
use Rattle.faults.specs.declared.fault.Fault.{Fault}
use Rattle.stores.specs.Meanings.{Meaning}
use Rattle.stores.specs.declared.store.Store.{Ghosts}
use Rattle.entries.specs.declared.cell.Cell.{Cell}
use Rattle.entries.specs.declared.revision.Revision.{Revision}
use Rattle.format.specs.Book as format
use Rattle.format.specs.Chain.{Answer}
use Rattle.format.specs.Updates.{Update}
use Rattle.book.specs.declared.book.Book.{Book}
use Rattle.writer.specs.Helds.{update_of}
use Rattle.book.specs.Calls.{phase_of}
use Rattle.book.specs.Keeps.{SoundOf}
use Rattle.records.specs.Tabled.{revisions_held, cells_held}

abbrev pub store_in : {S : Type 0} {g : Ghosts S} → Book S g → S
store_in b = b.store

-- the changes that it holds
abbrev pub update_in : {S : Type 0} {g : Ghosts S} → Book S g → Update
update_in b = update_of b.memory.held

-- a book at a moment: what its store means, and its state
abbrev pub moment_of : {S : Type 0} {g : Ghosts S} → (S → Meaning) → Book S g → format.Moment
moment_of meaning b = record { store = meaning b.store; phase = phase_of b.phase (update_in b) }

-- the rows and the cells of its tables
abbrev pub revisions_in : {S : Type 0} {g : Ghosts S} → Book S g → List Revision
revisions_in b = revisions_held b.memory.tables

abbrev pub cells_in : {S : Type 0} {g : Ghosts S} → Book S g → List Cell
cells_in b = cells_held b.memory.tables

-- The tables of an open book are those of its store's bytes, and an open update is acceptable on the newest revision.
-- Every book is so: it is the invariant of the type.
abbrev pub Sound : {S : Type 0} {g : Ghosts S} → (S → Meaning) → Book S g → Type 0
Sound meaning b = SoundOf meaning b.store b.phase b.memory

-- whether a call was accepted, whatever it gives
abbrev pub done : {A : Type 0} → Result A Fault → Answer (Unit {0})
done (Ok a) = Ok tt
done (Err f) = Err f

-- a call that was made: one step from the book's moment to the next, and the book is sound again
pub record Performs {S : Type 0} {g : Ghosts S} (meaning : S → Meaning) (b : Book S g) (c : format.Call) (a : Answer (Unit {0})) (b' : Book S g) : Type 0 where
  pub step : format.Step (moment_of meaning b) c a (moment_of meaning b')
  pub sound : Sound meaning b'
