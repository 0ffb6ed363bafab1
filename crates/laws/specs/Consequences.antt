-- What follows from the law over whole runs.
use Rattle.std.specs.Prelude.{◌≡◌, ℕ, suc, ◌+◌, ◌<◌, ◌≤◌, Bool, true, false, List, [], ◌∷◌, ◌++◌, length, take, is_ok, Some, Ok}
use Rattle.format.specs.Account.{Event, revisions_held, objects_at}
use Rattle.format.specs.Book.{standing, Moment, Call, open_file, begin, put, remove, commit, abandon, back, history, revision_at, newest, end_of_revision, Step}
use Rattle.format.specs.Bytes.{Bytes}
use Rattle.format.specs.Law.{Run, RunFrom, account_of}
use Rattle.format.specs.Revisions.{State, used, free, Revision, find, nth}
use Rattle.format.specs.Updates.{removed, Update, in_use, gen_of}

-- a call that does not go back behind revision k
abbrev pub NotBehind : ℕ → Call → Type 0
NotBehind k open_file = Unit {0}
NotBehind k begin = Unit {0}
NotBehind k (put x n b) = Unit {0}
NotBehind k (remove x n) = Unit {0}
NotBehind k (commit x) = Unit {0}
NotBehind k (abandon x) = Unit {0}
NotBehind k (back j) = k ≤ j

-- no accepted call goes back behind revision k
abbrev pub NeverBehind : ℕ → List Event → Type 0
NeverBehind k [] = Unit {0}
NeverBehind k (e ∷ es) = (is_ok e.answer ≡ true → NotBehind k e.call) × NeverBehind k es

-- an accepted going back to revision k
abbrev pub went_back : ℕ → Event
went_back k = record { call = back k; answer = Ok tt }

-- the calls that were accepted, the first first
unfoldable pub accepted_calls : List Event → List Call
accepted_calls [] = []
accepted_calls (e ∷ es) = elim (is_ok e.answer) [ true ↦ e.call ∷ accepted_calls es | false ↦ accepted_calls es ]

-- The file after a run depends on the opening bytes, on how many opening revisions are kept and on the updates held, and on nothing else.
abbrev pub FileFollowsAccount : Type 0
FileFollowsAccount =
    (was : Bytes) (space space' : ℕ) (es es' : List Event) (m m' : Moment) →
    RunFrom was space es m →
    RunFrom was space' es' m' →
    (account_of was es).kept ≡ (account_of was es').kept →
    (account_of was es).held ≡ (account_of was es').held →
    m.store.bytes ≡ m'.store.bytes

-- Going back leaves no trace. One run stands at its newest revision k and goes on. Another does more, never going back behind k, then goes back to k and goes on.
-- If the same calls are accepted from there on, both end in the same file.
abbrev pub GoingBackLeavesNoTrace : Type 0
GoingBackLeavesNoTrace =
    (was : Bytes) (space space' : ℕ) (es more later later' : List Event) (m n n' : Moment) →
    RunFrom was space es m →
    m.phase ≡ standing →
    NeverBehind (revisions_held (account_of was es)) more →
    accepted_calls later ≡ accepted_calls later' →
    RunFrom was space (es ++ later) n →
    RunFrom was space' (es ++ (more ++ (went_back (revisions_held (account_of was es)) ∷ later'))) n' →
    n.store.bytes ≡ n'.store.bytes

-- revision k of a file is revision k of another: it is there, its bytes are the same, and it shows the same objects
pub record Stays (k : ℕ) (file file' : Bytes) : Type 0 where
  pub there : k ≤ length (history file')
  pub bytes : take (end_of_revision k (history file')) file' ≡ take (end_of_revision k (history file)) file
  pub shows : objects_at file' k ≡ objects_at file k

-- A revision stays as it is for as long as no call goes back behind it.
abbrev pub RevisionsStay : Type 0
RevisionsStay =
    (was : Bytes) (space : ℕ) (es more : List Event) (m n : Moment) (k : ℕ) →
    RunFrom was space es m →
    Run m more n →
    1 ≤ k →
    k ≤ length (history m.store.bytes) →
    NeverBehind k more →
    Stays k m.store.bytes n.store.bytes

-- A number that an update held withdrew bears, wherever a later revision has it in use, a generation above each that it bore before,
-- from the last opening revision kept on. The update held at place j, from 0, made the revision behind kept + j.
abbrev pub WithdrawnNumbersReturnHigher : Type 0
WithdrawnNumbersReturnHigher =
    (was : Bytes) (space : ℕ) (es : List Event) (m : Moment) →
    RunFrom was space es m →
    (i j k n : ℕ) (u : Update) (g : ℕ) (b : Bytes) →
    nth j (account_of was es).held ≡ Some u →
    find n u ≡ Some removed →
    (account_of was es).kept ≤ i →
    i ≤ (account_of was es).kept + j →
    (account_of was es).kept + j < k →
    k ≤ revisions_held (account_of was es) →
    nth n (objects_at m.store.bytes k).numbers ≡ Some (in_use g b) →
    gen_of (nth n (objects_at m.store.bytes i).numbers) < g

-- the free numbers of a table from n on, ascending
unfoldable pub free_numbers : ℕ → List State → List ℕ
free_numbers n [] = []
free_numbers n (used g b ∷ ss) = free_numbers (suc n) ss
free_numbers n (free g l ∷ ss) = n ∷ free_numbers (suc n) ss

-- the entry of a number is free, and links to another number
pub record LeadsTo (table : List State) (from to : ℕ) : Type 0 where
  pub gen : ℕ
  pub entry : nth from table ≡ Some (free gen to)

-- links from a number through these in their order, and from the last of them back to 0
abbrev pub Round : List State → ℕ → List ℕ → Type 0
Round table n [] = LeadsTo table n 0
Round table n (m ∷ ms) = LeadsTo table n m × Round table m ms

-- The free list of a table: 0 is free with generation 65535, and from it the links run through all other free numbers, ascending, and back to 0.
pub record FreeList (table : List State) : Type 0 where
  pub first : ℕ
  pub zero_is_free : nth 0 table ≡ Some (free 65535 first)
  pub others : List ℕ
  pub all : free_numbers 0 table ≡ 0 ∷ others
  pub round : Round table 0 others

-- In each revision that an update held made there is a free list,
abbrev pub UpdatesKeepFreeList : Type 0
UpdatesKeepFreeList =
    (was : Bytes) (space : ℕ) (es : List Event) (m : Moment) →
    RunFrom was space es m →
    (k : ℕ) (r : Revision) →
    (account_of was es).kept < k →
    revision_at k (history m.store.bytes) ≡ Some r →
    FreeList r.states

-- and so there is in the newest revision after an accepted commit.
abbrev pub CommitsKeepFreeList : Type 0
CommitsKeepFreeList =
    (was : Bytes) (space : ℕ) (es : List Event) (m n : Moment) (spent : Bool) →
    RunFrom was space es m →
    Step m (commit spent) (Ok tt) n →
    FreeList (newest n.store.bytes).states
