-- Calls of a list, made one after the other by whoever holds the slip.
use Rattle.std.specs.Prelude.{◌≡◌, Bool, true, false, not, List, map, length, Ok, Err}
use Rattle.stores.specs.Meanings.{Meaning}
use Rattle.stores.specs.declared.store.Store.{Ghosts}
use Rattle.format.specs.Book as format
use Rattle.format.specs.Chain.{Answer}
use Rattle.format.specs.Law.{Run}
use Rattle.keeping.specs.Driving.{events_of, is_updating}
use Rattle.book.specs.declared.book.Book.{Book}
use Rattle.book.specs.declared.call.Call.{Call}
use Rattle.book.specs.declared.slip.Slip.{Slip}
use Rattle.book.specs.Books.{Performs, Sound, moment_of}
use Rattle.book.specs.Calls.{call_of}
use Rattle.book.specs.Slips.{is_spent}

-- the slip held is owed exactly while an update is open
abbrev pub Tied : {S : Type 0} {g : Ghosts S} → (S → Meaning) → Book S g → Slip → Type 0
Tied meaning b s = is_updating (moment_of meaning b).phase ≡ not (is_spent s)

-- a call with this slip shown to it
abbrev pub with_slip : Bool → format.Call → format.Call
with_slip x format.open_file = format.open_file
with_slip x format.begin = format.begin
with_slip x (format.put y n b) = format.put x n b
with_slip x (format.remove y n) = format.remove x n
with_slip x (format.commit y) = format.commit x
with_slip x (format.abandon y) = format.abandon x
with_slip x (format.back k) = format.back k

-- whether the slip that was shown to a call is spent then: an accepted begin puts in its place one that is not
abbrev pub held_after : format.Call → Answer (Unit {0}) → Bool → Bool
held_after format.open_file a x = x
held_after format.begin (Ok u) x = false
held_after format.begin (Err f) x = x
held_after (format.put y n b) a x = x
held_after (format.remove y n) a x = x
held_after (format.commit y) (Ok u) x = true
held_after (format.commit y) (Err f) x = x
held_after (format.abandon y) (Ok u) x = true
held_after (format.abandon y) (Err f) x = x
held_after (format.back k) a x = x

-- one call that was made with this slip, spent or not, and the slip that is in its place then
pub record MadeWith {S : Type 0} {g : Ghosts S} (meaning : S → Meaning) (b : Book S g) (x : Bool) (c : format.Call) (a : Answer (Unit {0})) (b' : Book S g) (s : Slip) : Type 0 where
  pub performs : Performs meaning b (with_slip x c) a b'
  pub slip : is_spent s ≡ held_after c a x

-- one call that was made, and the slip that is held then
pub record Makes {S : Type 0} {g : Ghosts S} (meaning : S → Meaning) (b : Book S g) (c : format.Call) (a : Answer (Unit {0})) (b' : Book S g) (s : Slip) : Type 0 where
  pub performs : Performs meaning b c a b'
  pub tied : Tied meaning b' s

-- all calls of a list, each with its answer: a run of the book from the moment before to the moment after
pub record MakesAll {S : Type 0} {g : Ghosts S} (meaning : S → Meaning) (b : Book S g) (calls : List Call) (answers : List (Answer (Unit {0}))) (b' : Book S g) (s : Slip) : Type 0 where
  pub counted : length answers ≡ length calls
  pub run : Run (moment_of meaning b) (events_of (map call_of calls) answers) (moment_of meaning b')
  pub sound : Sound meaning b'
  pub tied : Tied meaning b' s
