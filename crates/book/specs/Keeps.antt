-- What a book keeps true, said of its store, its state and its memory.
use Rattle.stores.specs.Meanings.{Meaning}
use Rattle.keeping.specs.Standing.{SoundIn}
use Rattle.records.specs.Tabled.{revisions_held, cells_held}
use Rattle.writer.specs.Helds.{update_of}
use Rattle.book.specs.declared.book.Memory.{Memory}
use Rattle.book.specs.declared.call.Phase.{Phase}
use Rattle.book.specs.Calls.{phase_of}
use Rattle.book.specs.Single.{SoundIn-prop}

-- The tables of an open book are those of its store's bytes, and an open update is acceptable on the newest revision.
abbrev pub SoundOf : {S : Type 0} → (S → Meaning) → S → Phase → Memory → Type 0
SoundOf meaning store phase memory = SoundIn (phase_of phase (update_of memory.held)) (meaning store).bytes (revisions_held memory.tables) (cells_held memory.tables)

pub SoundOf-prop : {S : Type 0} (meaning : S → Meaning) (store : S) (phase : Phase) (memory : Memory) → IsProp (SoundOf meaning store phase memory)
SoundOf-prop meaning store phase memory = SoundIn-prop (phase_of phase (update_of memory.held)) (meaning store).bytes (revisions_held memory.tables) (cells_held memory.tables)
