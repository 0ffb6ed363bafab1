-- Runs of a book for whoever makes its calls one after the other.
use Rattle.std.specs.Prelude.{◌≡◌, ℕ, ◌<◌, Bool, true, false, List, [], ◌∷◌, ◌++◌, length, Ok, slice_index_or}
use Rattle.format.specs.Account.{Event, after_event}
use Rattle.format.specs.Book.{Phase, shut, standing, updating, Moment, Call, open_file, put, remove, commit, abandon, Step}
use Rattle.format.specs.Bytes.{Bytes}
use Rattle.format.specs.Chain.{Answer}
use Rattle.format.specs.Law.{Run, shut_over, RunFrom, account_of}

-- calls, each with its answer
abbrev pub events_of : List Call → List (Answer (Unit {0})) → List Event
events_of [] xs = []
events_of (c ∷ cs) [] = []
events_of (c ∷ cs) (a ∷ xs) = record { call = c; answer = a } ∷ events_of cs xs

-- the answer to the next call goes behind the answers so far
abbrev pub EventsGrow : Type 0
EventsGrow =
    (calls : List Call) (answers : List (Answer (Unit {0}))) (c : Call) (a : Answer (Unit {0})) →
    length answers < length calls → c ≡ slice_index_or calls (length answers) c →
    events_of calls (answers ++ (a ∷ [])) ≡ events_of calls answers ++ (record { call = c; answer = a } ∷ [])

-- A run with one call more behind it. A run from opening bytes begins with an accepted opening, and its account goes on with each call.
pub record RunsGrow : Type 0 where
  pub more : (m x y : Moment) (es : List Event) (c : Call) (a : Answer (Unit {0})) →
      Run m es x → Step x c a y → Run m (es ++ (record { call = c; answer = a } ∷ [])) y
  pub opened : (was : Bytes) (space : ℕ) (m : Moment) → Step (shut_over was space) open_file (Ok tt) m → RunFrom was space [] m
  pub onward : (was : Bytes) (space : ℕ) (es : List Event) (x y : Moment) (c : Call) (a : Answer (Unit {0})) →
      RunFrom was space es x → Step x c a y → RunFrom was space (es ++ (record { call = c; answer = a } ∷ [])) y
  pub account : (was : Bytes) (es : List Event) (e : Event) → account_of was (es ++ (e ∷ [])) ≡ after_event was (account_of was es) e

abbrev pub is_updating : Phase → Bool
is_updating shut = false
is_updating standing = false
is_updating (updating u) = true

-- whether the slip shown is spent makes no difference
pub record AnySlip (m : Moment) : Type 0 where
  pub put : (s t : Bool) (n : ℕ) (b : Bytes) (a : Answer (Unit {0})) (m' : Moment) → Step m (put s n b) a m' → Step m (put t n b) a m'
  pub remove : (s t : Bool) (n : ℕ) (a : Answer (Unit {0})) (m' : Moment) → Step m (remove s n) a m' → Step m (remove t n) a m'
  pub commit : (s t : Bool) (a : Answer (Unit {0})) (m' : Moment) → Step m (commit s) a m' → Step m (commit t) a m'
  pub abandon : (s t : Bool) (a : Answer (Unit {0})) (m' : Moment) → Step m (abandon s) a m' → Step m (abandon t) a m'

-- while no update is open
abbrev pub SlipsWaitForUpdates : Type 0
SlipsWaitForUpdates = (m : Moment) → is_updating m.phase ≡ false → AnySlip m
