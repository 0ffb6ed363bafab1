-- What is owed of the file that a run of a book leaves, and of two such files.
use Rattle.std.specs.Prelude.{◌≡◌, ℕ, ◌+◌, ◌≤◌, List, length, take}
use Rattle.format.specs.Account.{Event, with_updates, objects_at, left_for}
use Rattle.format.specs.Book.{Moment, history, end_of_revision}
use Rattle.format.specs.Bytes.{Bytes}
use Rattle.format.specs.Law.{OpensAs, RunFrom, account_of}
use Rattle.format.specs.Updates.{Update}

-- By the account of these calls and answers: how many opening revisions are kept, the updates held behind them,
-- and how many revisions that makes.
abbrev pub kept_after : Bytes → List Event → ℕ
kept_after was es = (account_of was es).kept

abbrev pub held_after : Bytes → List Event → List Update
held_after was es = (account_of was es).held

abbrev pub count_after : Bytes → List Event → ℕ
count_after was es = kept_after was es + length (held_after was es)

-- the bytes of a file up to the end of its revision k
abbrev pub up_to : Bytes → ℕ → Bytes
up_to file k = take (end_of_revision k (history file)) file

-- Revision k of a file: its bytes up to its end, opened alone, are accepted as k revisions;
-- and there and in the file it shows exactly the objects that the opening bytes and the updates up to k leave.
pub record RevisionDelivered (was : Bytes) (es : List Event) (file : Bytes) (k : ℕ) : Type 0 where
  pub alone : OpensAs (up_to file k) k
  pub objects_alone : objects_at (up_to file k) k ≡ left_for was (account_of was es) k
  pub objects : objects_at file k ≡ left_for was (account_of was es) k

-- The file that a book leaves which was opened from the bytes `was`, over a store that had that space then, after these calls and answers.
pub record Delivered (was : Bytes) (space : ℕ) (es : List Event) (file : Bytes) : Type 0 where
  -- the calls with their answers are a run of the book, and the file is what its store then has
  pub end : Moment
  pub run : RunFrom was space es end
  pub left : end.store.bytes ≡ file
  -- the opening bytes were accepted; of their revisions at least the first is kept
  pub opening : OpensAs was (length (history was))
  pub some : 1 ≤ kept_after was es
  pub most : kept_after was es ≤ length (history was)
  -- the file is the opening bytes up to the last opening revision kept, and then the updates held, each as written on what stands before it
  pub bytes : file ≡ with_updates (held_after was es) (up_to was (kept_after was es))
  -- it is accepted as the opening revisions kept and one for each update held, and each of them is as it should be
  pub revisions : OpensAs file (count_after was es)
  pub each : (k : ℕ) → 1 ≤ k → k ≤ count_after was es → RevisionDelivered was es file k

-- Two files from the same opening bytes that keep equally many opening revisions are equal exactly when they hold the same updates in the same order.
pub record SameExactly (was : Bytes) (es es' : List Event) (file file' : Bytes) : Type 0 where
  pub updates : kept_after was es ≡ kept_after was es' → file ≡ file' → held_after was es ≡ held_after was es'
  pub files : kept_after was es ≡ kept_after was es' → held_after was es ≡ held_after was es' → file ≡ file'

-- Every run delivers.
abbrev pub EveryRunDelivers : Type 0
EveryRunDelivers = (was : Bytes) (space : ℕ) (es : List Event) (m : Moment) → RunFrom was space es m → Delivered was space es m.store.bytes

-- Any two runs from the same bytes, over any two stores, compare so.
abbrev pub AnyTwoCompare : Type 0
AnyTwoCompare =
    (was : Bytes) (space space' : ℕ) (es es' : List Event) (file file' : Bytes) →
    Delivered was space es file → Delivered was space' es' file' → SameExactly was es es' file file'
