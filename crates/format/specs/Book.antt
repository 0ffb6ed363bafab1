-- The book over a store: its states, its calls, and what each call decides and leaves.
use Rattle.std.specs.Prelude.{◌≡◌, ℕ, zero, suc, ◌+◌, ◌-◌, ◌≤◌, Bool, true, false, not, ◌&&◌, List, [], ◌∷◌, ◌++◌, length, take, is_some, Some, None, Ok, Err, Option, ◌==◌, nat_le, nat_lt}
use Rattle.faults.specs.declared.fault.Fault.{Fault}
use Rattle.faults.specs.declared.reason.Reason.TheVariants.{BookShut, OpenAlready, UpdateOpen, NoUpdate, SlipSpent, NoRevision, NotInUse, CannotPut, RootNumber, ChangedAlready, UpdateFull, NoChanges, PastLimits, NoSpace}
use Rattle.faults.specs.Faults.{refused, of_object}
use Rattle.stores.specs.Meanings.{Meaning}
use Rattle.format.specs.Bytes.{Bytes}
use Rattle.format.specs.Chain.{Answer, also, must, window_bytes}
use Rattle.format.specs.Frames.{body_fault}
use Rattle.format.specs.Objects.{no_entries}
use Rattle.format.specs.Revisions.{State, used, free, Revision, find, nth, Opened, opens, file_bytes, most_revisions}
use Rattle.format.specs.Updates.{body, removed, Update, with_change, body_bytes}
use Rattle.format.specs.Writing.{new_size, update_section, update_bytes}

-- A book is put round a store. It is shut until it has opened the store's bytes; then it stands; and it holds an update from begin to commit or abandon.
pub data Phase : Type 0 where
  shut : Phase
  standing : Phase
  updating : Update → Phase

-- a moment of a book: what its store means, and its state
pub record Moment : Type 0 where
  pub store : Meaning
  pub phase : Phase

-- The calls that can change a book. Begin hands out a slip, owed until an accepted commit or abandon spends it;
-- put, remove, commit and abandon are shown a slip, and say here whether that one is spent.
pub data Call : Type 0 where
  open_file : Call
  begin : Call
  put : (spent : Bool) → (number : ℕ) → Bytes → Call
  remove : (spent : Bool) → (number : ℕ) → Call
  commit : (spent : Bool) → Call
  abandon : (spent : Bool) → Call
  back : (revision : ℕ) → Call

-- the revisions of the bytes, the oldest first; none where opening refuses them
unfoldable pub history_in : Answer Opened → List Revision
history_in (Ok o) = o.history
history_in (Err f) = []

unfoldable pub history : Bytes → List Revision
history file = history_in (opens file)

-- revision k, counted from 1
unfoldable pub revision_at : ℕ → List Revision → Option Revision
revision_at zero rs = None
revision_at (suc i) rs = nth i rs

-- no revision at all: what stands for the newest of an empty list, which no open book has
abbrev pub blank : Revision
blank = record { offset = 0; end = 0; size = 0; root = 0; root_gen = 0; trailer = no_entries; states = [] }

unfoldable pub newest_or : Revision → List Revision → Revision
newest_or r [] = r
newest_or r (s ∷ rs) = newest_or s rs

-- the newest revision of the bytes
unfoldable pub newest : Bytes → Revision
newest file = newest_or blank (history file)

-- the bytes that an update adds to a file
unfoldable pub addition : Bytes → Update → Bytes
addition file u = update_bytes (length file) (newest file) u

-- a number that is in use in a revision
unfoldable pub is_used : Option State → Bool
is_used None = false
is_used (Some (used g b)) = true
is_used (Some (free g l)) = false

-- a free number whose generation is 65535 is never used again
unfoldable pub is_worn_out : Option State → Bool
is_worn_out None = false
is_worn_out (Some (used g b)) = false
is_worn_out (Some (free g l)) = g == 65535

-- the next new number: Size plus the new numbers held
unfoldable pub may_put : Revision → Update → ℕ → Bool
may_put r u n = nat_le 1 n && (nat_le n (new_size r u) && not (is_worn_out (nth n r.states)))

unfoldable pub body_answer : ℕ → Option Fault → Answer (Unit {0})
body_answer n None = Ok tt
body_answer n (Some f) = Err (of_object n f)

-- the most changes of an update, and the most bytes of their bodies
abbrev pub most_changes : ℕ
most_changes = 32

abbrev pub most_body_bytes : ℕ
most_body_bytes = 16384

-- the highest Size
abbrev pub most_size : ℕ
most_size = 1000

-- there is room for one more change with a body of that length
unfoldable pub has_room : Update → ℕ → Bool
has_room u len = nat_lt (length u) most_changes && nat_le (body_bytes u + len) most_body_bytes

-- put on the newest revision r, with the changes u held
unfoldable pub decide_put : Revision → Update → ℕ → Bytes → Answer (Unit {0})
decide_put r u n b =
    must (may_put r u n) (refused CannotPut n)
    (λ _.
    must (not (is_some (find n u))) (refused ChangedAlready n)
    (λ _. also (body_answer n (body_fault b)) (λ _. must (has_room u (length b)) (refused UpdateFull n) (λ _. Ok tt))))

unfoldable pub decide_remove : Revision → Update → ℕ → Answer (Unit {0})
decide_remove r u n =
    must (is_used (nth n r.states)) (refused NotInUse n)
    (λ _.
    must (not (n == r.root)) (refused RootNumber n)
    (λ _. must (not (is_some (find n u))) (refused ChangedAlready n) (λ _. must (has_room u 0) (refused UpdateFull n) (λ _. Ok tt))))

unfoldable pub is_none : Update → Bool
is_none [] = true
is_none (r ∷ rs) = false

-- the file with the update stays within 64 revisions, Size 1000, 9,999,999 bytes and 32,768 bytes of section
unfoldable pub within_limits : Bytes → Update → Bool
within_limits file u =
    nat_lt (length (history file)) most_revisions
    && (nat_le (new_size (newest file) u) most_size
    && (nat_le (length file + length (addition file u)) file_bytes && nat_le (length (update_section (length file) (newest file) u)) window_bytes))

unfoldable pub decide_commit : Meaning → Update → Answer (Unit {0})
decide_commit s u =
    must (not (is_none u)) (refused NoChanges 0)
    (λ _.
    must (within_limits s.bytes u) (refused PastLimits 0)
    (λ _. must (nat_le (length (addition s.bytes u)) s.space) (refused NoSpace 0) (λ _. Ok tt)))

-- what a call that is shown a slip decides in an update
abbrev pub slip_shown : {A : Type 0} → (spent : Bool) → ℕ → Answer A → Answer A
slip_shown true n a = Err (refused SlipSpent n)
slip_shown false n a = a

-- opening, by itself
unfoldable pub decide_open : Answer Opened → Answer (Unit {0})
decide_open (Ok o) = Ok tt
decide_open (Err f) = Err f

-- Whether a call is accepted, or the fault with which it is refused.
unfoldable pub decide : Meaning → Phase → Call → Answer (Unit {0})
decide s shut open_file = decide_open (opens s.bytes)
decide s shut begin = Err (refused BookShut 0)
decide s shut (put x n b) = Err (refused BookShut n)
decide s shut (remove x n) = Err (refused BookShut n)
decide s shut (commit x) = Err (refused BookShut 0)
decide s shut (abandon x) = Err (refused BookShut 0)
decide s shut (back k) = Err (refused BookShut 0)
decide s standing open_file = Err (refused OpenAlready 0)
decide s standing begin = Ok tt
decide s standing (put x n b) = Err (refused NoUpdate n)
decide s standing (remove x n) = Err (refused NoUpdate n)
decide s standing (commit x) = Err (refused NoUpdate 0)
decide s standing (abandon x) = Err (refused NoUpdate 0)
decide s standing (back k) = must (is_some (revision_at k (history s.bytes))) (refused NoRevision 0) (λ _. Ok tt)
decide s (updating u) open_file = Err (refused OpenAlready 0)
decide s (updating u) begin = Err (refused UpdateOpen 0)
decide s (updating u) (put x n b) = slip_shown x n (decide_put (newest s.bytes) u n b)
decide s (updating u) (remove x n) = slip_shown x n (decide_remove (newest s.bytes) u n)
decide s (updating u) (commit x) = slip_shown x 0 (decide_commit s u)
decide s (updating u) (abandon x) = slip_shown x 0 (Ok tt)
decide s (updating u) (back k) = Err (refused UpdateOpen 0)

-- the changes held
unfoldable pub held_by : Phase → Update
held_by shut = []
held_by standing = []
held_by (updating u) = u

-- the state after an accepted call
unfoldable pub phase_after : Phase → Call → Phase
phase_after p open_file = standing
phase_after p begin = updating []
phase_after p (put x n b) = updating (with_change n (body b) (held_by p))
phase_after p (remove x n) = updating (with_change n removed (held_by p))
phase_after p (commit x) = standing
phase_after p (abandon x) = standing
phase_after p (back k) = standing

-- where revision k ends; 0 for none
unfoldable pub end_of_revision : ℕ → List Revision → ℕ
end_of_revision k rs = elim (revision_at k rs) [ None ↦ 0 | Some r ↦ r.end ]

-- the bytes after an accepted call: commit joins the update's bytes behind, go back cuts at revision k's end
unfoldable pub bytes_after : Bytes → Phase → Call → Bytes
bytes_after file p open_file = file
bytes_after file p begin = file
bytes_after file p (put x n b) = file
bytes_after file p (remove x n) = file
bytes_after file p (commit x) = file ++ addition file (held_by p)
bytes_after file p (abandon x) = file
bytes_after file p (back k) = take (end_of_revision k (history file)) file

-- The space after an accepted call. After a commit it has fallen by the bytes joined; the space regained by going back is the store's own figure, but not less than before.
unfoldable pub SpaceAfter : Meaning → Phase → Call → ℕ → Type 0
SpaceAfter s p open_file n = n ≡ s.space
SpaceAfter s p begin n = n ≡ s.space
SpaceAfter s p (put x m b) n = n ≡ s.space
SpaceAfter s p (remove x m) n = n ≡ s.space
SpaceAfter s p (commit x) n = n ≡ s.space - length (addition s.bytes (held_by p))
SpaceAfter s p (abandon x) n = n ≡ s.space
SpaceAfter s p (back k) n = s.space ≤ n

-- an accepted call
pub record Done (m : Moment) (c : Call) (m' : Moment) : Type 0 where
  pub phase : m'.phase ≡ phase_after m.phase c
  pub bytes : m'.store.bytes ≡ bytes_after m.store.bytes m.phase c
  pub space : SpaceAfter m.store m.phase c m'.store.space

abbrev pub Leaves : Moment → Call → Answer (Unit {0}) → Moment → Type 0
Leaves m c (Ok u) m' = Done m c m'
Leaves m c (Err f) m' = m' ≡ m

-- One call from one moment to the next: the answer is the one decided, and a refusal leaves everything as it was.
pub record Step (m : Moment) (c : Call) (a : Answer (Unit {0})) (m' : Moment) : Type 0 where
  pub answer : a ≡ decide m.store m.phase c
  pub leaves : Leaves m c a m'

-- whether the slip shown is spent after the call: by an accepted commit or abandon
unfoldable pub spent_after : Call → Answer (Unit {0}) → Bool → Bool
spent_after c (Err f) b = b
spent_after open_file (Ok u) b = b
spent_after begin (Ok u) b = b
spent_after (put x n d) (Ok u) b = b
spent_after (remove x n) (Ok u) b = b
spent_after (commit x) (Ok u) b = true
spent_after (abandon x) (Ok u) b = true
spent_after (back k) (Ok u) b = b

-- what a proof by computation unfolds
unfoldable pub computes_book : Unit {0}
unfolding history_in history revision_at newest_or newest addition is_used is_worn_out may_put body_answer has_room decide_put decide_remove is_none within_limits decide_commit decide_open decide held_by phase_after end_of_revision bytes_after SpaceAfter spent_after
computes_book = tt
