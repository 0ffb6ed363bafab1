-- What every run of calls keeps: the law over whole runs of a book, over any store.
use Rattle.std.specs.Prelude.{◌≡◌, ℕ, ◌≤◌, List, [], ◌∷◌, length, take, Ok}
use Rattle.format.specs.Bytes.{Bytes}
use Rattle.format.specs.Book.{shut, Moment, open_file, Step, history, end_of_revision}
use Rattle.format.specs.Revisions.{Opened, opens}
use Rattle.format.specs.Account.{Account, Event, account, file_of, revisions_held, objects_at, left_for}

-- the bytes are accepted as that many revisions
pub record OpensAs (file : Bytes) (count : ℕ) : Type 0 where
  pub opened : Opened
  pub accepted : opens file ≡ Ok opened
  pub counted : length opened.history ≡ count

-- a run: each event, the first first, is a step from where the one before ended
abbrev pub Run : Moment → List Event → Moment → Type 0
Run m [] m' = m' ≡ m
Run m (e ∷ es) m' = (n : Moment) × Step m e.call e.answer n × Run n es m'

-- a shut book over a store of these bytes and that space
abbrev pub shut_over : Bytes → ℕ → Moment
shut_over file space = record { store = record { bytes = file; space = space }; phase = shut }

-- an accepted opening
abbrev pub opening : Event
opening = record { call = open_file; answer = Ok tt }

-- Revision k of the file: its bytes up to its end, opened alone, are accepted as k revisions;
-- and there and in the file, it shows exactly what the opening and the updates up to k leave.
pub record RevisionKept (was : Bytes) (a : Account) (file : Bytes) (k : ℕ) : Type 0 where
  pub alone : OpensAs (take (end_of_revision k (history file)) file) k
  pub shows_alone : objects_at (take (end_of_revision k (history file)) file) k ≡ left_for was a k
  pub shows : objects_at file k ≡ left_for was a k

-- the file is what the account describes, and so is each revision still in it
pub record Keeps (was : Bytes) (a : Account) (file : Bytes) : Type 0 where
  pub bytes : file ≡ file_of was a
  pub opens : OpensAs file (revisions_held a)
  pub each : (k : ℕ) → 1 ≤ k → k ≤ revisions_held a → RevisionKept was a file k

-- a run from the opening bytes `was`, over a store that had that space then, which ended at a moment after these events
abbrev pub RunFrom : Bytes → ℕ → List Event → Moment → Type 0
RunFrom was space es m = Run (shut_over was space) (opening ∷ es) m

-- the account of such a run
abbrev pub account_of : Bytes → List Event → Account
account_of was es = account was (opening ∷ es)

-- After every list of calls, accepted or refused, that begins with an accepted opening.
abbrev pub EveryRunKeepsRevisions : Type 0
EveryRunKeepsRevisions =
    (was : Bytes) (space : ℕ) (es : List Event) (m : Moment) →
    RunFrom was space es m → Keeps was (account_of was es) m.store.bytes

-- Two files from the same bytes that keep equally many opening revisions are equal exactly when they hold the same updates in the same order.
abbrev pub EqualFilesHoldEqualUpdates : Type 0
EqualFilesHoldEqualUpdates =
    (was : Bytes) (space space' : ℕ) (es es' : List Event) (m m' : Moment) →
    RunFrom was space es m →
    RunFrom was space' es' m' →
    (account_of was es).kept ≡ (account_of was es').kept →
    (m.store.bytes ≡ m'.store.bytes → (account_of was es).held ≡ (account_of was es').held)
    × ((account_of was es).held ≡ (account_of was es').held → m.store.bytes ≡ m'.store.bytes)

abbrev pub Law : Type 0
Law = EveryRunKeepsRevisions × EqualFilesHoldEqualUpdates
