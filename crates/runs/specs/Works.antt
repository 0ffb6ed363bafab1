-- What a list of calls on a new book leaves.
use Rattle.std.specs.Prelude.{◌≡◌, Bool, true, false, List, map, length, Ok, Err, vec_items, Result}
use Rattle.stores.specs.Meanings.{Meaning}
use Rattle.stores.specs.declared.store.Store.{Ghosts}
use Rattle.format.specs.Account.{Event}
use Rattle.format.specs.Chain.{Answer}
use Rattle.format.specs.Law.{RunFrom}
use Rattle.format.specs.Revisions.{opens}
use Rattle.keeping.specs.Delivering.{Delivered, SameExactly}
use Rattle.keeping.specs.Driving.{events_of}
use Rattle.book.specs.declared.book.Book.{Book}
use Rattle.book.specs.declared.call.Call.{Call}
use Rattle.book.specs.declared.slip.Slip.{Slip}
use Rattle.book.specs.Books.{Sound, moment_of, store_in}
use Rattle.book.specs.Calls.{call_of}
use Rattle.runs.specs.declared.outcome.Stopped.{Stopped}
use Rattle.runs.specs.declared.outcome.Work.{Work}
use Rattle.runs.specs.declared.outcome.WorkError.{WorkError}
use Rattle.runs.specs.declared.outcome.WorkError.TheVariants.{NoMemory, Refused}
use Rattle.runs.specs.Made.{Tied}

-- the calls asked, each with its answer
abbrev pub events_in : List Call → List (Answer (Unit {0})) → List Event
events_in calls answers = events_of (map call_of calls) answers

-- All calls of the list were made on a book that was opened from what its store meant then, and each was answered.
pub record Finished {S : Type 0} {g : Ghosts S} (meaning : S → Meaning) (was : Meaning) (calls : List Call) (b : Book S g) (s : Slip) (answers : List (Answer (Unit {0}))) : Type 0 where
  -- every call has its answer
  pub counted : length answers ≡ length calls
  -- the calls with their answers are a run from the opening bytes to the book as it is now
  pub run : RunFrom was.bytes was.space (events_in calls answers) (moment_of meaning b)
  -- the file is the opening bytes up to the last opening revision kept and then the updates held, by the account of these calls and answers;
  -- and every revision in it, opened alone and in the file, shows what the opening and the updates up to it leave
  pub delivered : Delivered was.bytes was.space (events_in calls answers) (meaning (store_in b)).bytes
  -- the book is ready for further calls, and the slip is owed exactly while an update is open
  pub sound : Sound meaning b
  pub tied : Tied meaning b s

-- Why no call was made, and the store that comes back: without memory for the answers nothing was done; where the bytes do not open, the
-- store means what it meant.
abbrev pub NotWorked : {S : Type 0} → (S → Meaning) → S → WorkError → S → Type 0
NotWorked meaning store NoMemory s = s ≡ store
NotWorked meaning store (Refused f) s = (opens (meaning store).bytes ≡ Err f) × (meaning s ≡ meaning store)

-- A list of calls on a new book round a store.
abbrev pub Worked : {S : Type 0} {g : Ghosts S} → (S → Meaning) → S → List Call → Result (Work S g) (Stopped S WorkError) → Type 0
Worked meaning store calls (Ok w) = Finished meaning (meaning store) calls w.book w.slip (vec_items w.answers)
Worked meaning store calls (Err e) = NotWorked meaning store e.cause e.store

-- there was memory for the answers
abbrev pub had_memory_for : WorkError → Bool
had_memory_for NoMemory = false
had_memory_for (Refused f) = true

abbrev pub had_memory : {S : Type 0} {g : Ghosts S} → Result (Work S g) (Stopped S WorkError) → Bool
had_memory (Ok w) = true
had_memory (Err e) = had_memory_for e.cause

-- Two lists of calls, each on a new book, round stores of any two kinds. Where both were done and both stores had the same opening bytes,
-- two files that keep equally many opening revisions are equal, byte for byte, exactly when they hold the same updates in the same order.
abbrev pub Compared : {S T : Type 0} {p : Ghosts S} {q : Ghosts T} → (S → Meaning) → (T → Meaning) → S → T → List Call → List Call → Result (Work S p) (Stopped S WorkError) → Result (Work T q) (Stopped T WorkError) → Type 0
Compared f g first second cs ds (Ok v) (Ok w) =
    (f first).bytes ≡ (g second).bytes →
    SameExactly (f first).bytes (events_in cs (vec_items v.answers)) (events_in ds (vec_items w.answers)) (f (store_in v.book)).bytes (g (store_in w.book)).bytes
Compared f g first second cs ds (Ok v) (Err e) = Unit {0}
Compared f g first second cs ds (Err e) w = Unit {0}
