-- The plain account of a book: what its reader knows from the calls and from whether each was accepted, and from nothing else.
use Rattle.std.specs.Prelude.{ℕ, ◌+◌, ◌-◌, true, false, List, [], ◌∷◌, ◌++◌, length, take, is_ok, Some, None, nat_le, nat_lt}
use Rattle.format.specs.Bytes.{Bytes}
use Rattle.format.specs.Book.{Call, open_file, begin, put, remove, commit, abandon, back, history, revision_at, end_of_revision, addition}
use Rattle.format.specs.Chain.{Answer}
use Rattle.format.specs.Updates.{body, removed, Update, with_change, Objects, objects_of, applied_all}

-- how many opening revisions are kept, the updates held behind them, and the open update
pub record Account : Type 0 where
  pub kept : ℕ
  pub held : List Update
  pub pending : Update

-- a call with what it was answered
pub record Event : Type 0 where
  pub call : Call
  pub answer : Answer (Unit {0})

-- an accepted call on the account of a book that was opened from the opening bytes
unfoldable pub noted : (opening : Bytes) → Account → Call → Account
noted opening a open_file = record { kept = length (history opening); held = []; pending = [] }
noted opening a begin = record { kept = a.kept; held = a.held; pending = [] }
noted opening a (put x n b) = record { kept = a.kept; held = a.held; pending = with_change n (body b) a.pending }
noted opening a (remove x n) = record { kept = a.kept; held = a.held; pending = with_change n removed a.pending }
noted opening a (commit x) = record { kept = a.kept; held = a.held ++ (a.pending ∷ []); pending = [] }
noted opening a (abandon x) = record { kept = a.kept; held = a.held; pending = [] }
noted opening a (back k) =
    elim (nat_lt k a.kept) [
      | true ↦ record { kept = k; held = []; pending = a.pending }
      | false ↦ record { kept = a.kept; held = take (k - a.kept) a.held; pending = a.pending }
    ]

-- refused calls alter nothing
unfoldable pub after_event : (opening : Bytes) → Account → Event → Account
after_event opening a e = elim (is_ok e.answer) [ true ↦ noted opening a e.call | false ↦ a ]

unfoldable pub account_from : (opening : Bytes) → Account → List Event → Account
account_from opening a [] = a
account_from opening a (e ∷ es) = account_from opening (after_event opening a e) es

-- the account of a list of calls and answers
unfoldable pub account : (opening : Bytes) → List Event → Account
account opening es = account_from opening (record { kept = 0; held = []; pending = [] }) es

-- updates behind a file, each written on what stands before it
unfoldable pub with_updates : List Update → Bytes → Bytes
with_updates [] file = file
with_updates (u ∷ us) file = with_updates us (file ++ addition file u)

-- the file that an account describes: the opening bytes up to the last opening revision kept, then the updates held, each as written
unfoldable pub file_of : (opening : Bytes) → Account → Bytes
file_of opening a = with_updates a.held (take (end_of_revision a.kept (history opening)) opening)

-- revisions 1 to this number are in the file
unfoldable pub revisions_held : Account → ℕ
revisions_held a = a.kept + length a.held

-- the objects that revision k of some bytes shows; none where there is no such revision
unfoldable pub objects_at : Bytes → ℕ → Objects
objects_at file k =
    elim (revision_at k (history file)) [ None ↦ record { size = 0; numbers = [] } | Some r ↦ objects_of r ]

-- What the opening and the updates up to k leave: up to the last opening revision kept, revision k's objects in the opening bytes;
-- beyond, the first updates held, applied to those.
unfoldable pub left_for : (opening : Bytes) → Account → ℕ → Objects
left_for opening a k =
    elim (nat_le k a.kept) [
      | true ↦ objects_at opening k
      | false ↦ applied_all (take (k - a.kept) a.held) (objects_at opening a.kept)
    ]

-- what a proof by computation unfolds
unfoldable pub computes_account : Unit {0}
unfolding noted after_event account_from account with_updates file_of revisions_held objects_at left_for
computes_account = tt
