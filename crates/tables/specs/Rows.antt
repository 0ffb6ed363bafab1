-- The rows that an update lists, and what they tell.
use Rattle.std.specs.Prelude.{◌≡◌, ℕ, suc, ◌+◌, ◌<◌, ◌≤◌, true, false, List, [], ◌∷◌, ◌++◌, length, Some, None, Option}
use Rattle.format.specs.Book.{is_used}
use Rattle.format.specs.Bytes.{Bytes}
use Rattle.format.specs.Lines.{Slot}
use Rattle.format.specs.Revisions.{State, used, free, Revision, find, nth}
use Rattle.format.specs.Sections.{Listed}
use Rattle.format.specs.Theorems.{in_front}
use Rattle.format.specs.Updates.{Change, body, removed, Update}
use Rattle.format.specs.Writing.{framed_bytes, entry_gen, entries_for, cells_of, update_objects}
use Rattle.sections.specs.Written.{listed_of}

-- what an update on the revision r, behind a file of that length, lists
abbrev pub rows_of : ℕ → Revision → Update → Listed
rows_of len r u = listed_of 0 (entries_for 0 (cells_of len r u))

-- where its section starts
abbrev pub section_at : ℕ → Revision → Update → ℕ
section_at len r u = len + length (update_objects len r u)

-- the numbers ascend, from `low` up and below `high`
abbrev pub RowsAscend : (low high : ℕ) → Listed → Type 0
RowsAscend low high [] = Unit {0}
RowsAscend low high (r ∷ rs) = (low ≤ r.0) × (r.0 < high) × RowsAscend (suc r.0) high rs

-- The row of a number in use, where `objects` are the bytes of the objects put and the first stands at `at`: the update puts a body there, the generation is
-- that of the number's entry before, 0 for a new number, and the object stands framed at the row's offset.
pub record Written (old : List State) (u : Update) (at : ℕ) (objects : Bytes) (n : ℕ) (s : Slot) : Type 0 where
  pub content : Bytes
  pub before : Bytes
  pub behind : Bytes
  pub put : find n u ≡ Some (body content)
  pub gen : s.gen ≡ entry_gen (nth n old)
  pub place : s.field ≡ at + length before
  pub bytes : objects ≡ before ++ (framed_bytes n s.gen content ++ behind)

abbrev pub RowsWritten : List State → Update → (at : ℕ) → (objects : Bytes) → Listed → Type 0
RowsWritten old u at objects [] = Unit {0}
RowsWritten old u at objects (r ∷ rs) = (r.1.in_use ≡ true → Written old u at objects r.0 r.1) × RowsWritten old u at objects rs

-- the body that a change puts
unfoldable pub body_in : Option Change → Bytes
body_in (Some (body b)) = b
body_in (Some removed) = []
body_in None = []

-- the state that the row of a number makes, where its body is the one put
unfoldable pub state_by : Update → ℕ → Slot → State
state_by u n s = elim s.in_use [ true ↦ used s.gen (body_in (find n u)) | false ↦ free s.gen s.field ]

unfoldable pub states_by : Update → Listed → List (ℕ × State)
states_by u [] = []
states_by u (r ∷ rs) = (r.0, state_by u r.0 r.1) ∷ states_by u rs

-- the change that a new state of a number tells: a body put; a number freed that was in use before
unfoldable pub change_told : List State → ℕ → State → Option Change
change_told old n (used g b) = Some (body b)
change_told old n (free g l) = elim (is_used (nth n old)) [ true ↦ Some removed | false ↦ None ]

unfoldable pub changes_told : List State → List (ℕ × State) → Update
changes_told old [] = []
changes_told old (t ∷ ts) = in_front t.0 (change_told old t.0 t.1) (changes_told old ts)

-- what a proof by computation unfolds
unfoldable pub computes_rows : Unit {0}
unfolding body_in state_by states_by change_told changes_told
computes_rows = tt
