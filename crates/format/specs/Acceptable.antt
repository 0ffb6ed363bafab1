-- The updates that the rules accept on a revision, said of the whole update and not call by call.
use Rattle.std.specs.Prelude.{◌≡◌, ℕ, suc, ◌<◌, ◌≤◌, true, false, [], ◌∷◌, length, None, ◌≢◌}
use Rattle.format.specs.Book.{is_used, is_worn_out, most_changes, most_body_bytes}
use Rattle.format.specs.Frames.{body_fault}
use Rattle.format.specs.Revisions.{Revision, nth}
use Rattle.format.specs.Updates.{Change, body, removed, Update, body_bytes}
use Rattle.format.specs.Writing.{new_size}

-- the numbers ascend, from `low` up: at most one change a number
abbrev pub Ascends : (low : ℕ) → Update → Type 0
Ascends low [] = Unit {0}
Ascends low (r ∷ rs) = (low ≤ r.0) × Ascends (suc r.0) rs

-- A change of the number n that the revision r allows, where `size` is the new Size.
-- Put: a number from 1 up to the last new one, not free for good, and a body that is one object or stream. Remove: a number in use, but not Root's.
abbrev pub Allowed : Revision → (size : ℕ) → ℕ → Change → Type 0
Allowed r size n (body b) = (1 ≤ n) × (n < size) × (is_worn_out (nth n r.states) ≡ false) × (body_fault b ≡ None)
Allowed r size n removed = (is_used (nth n r.states) ≡ true) × (n ≢ r.root)

abbrev pub EachAllowed : Revision → (size : ℕ) → Update → Type 0
EachAllowed r size [] = Unit {0}
EachAllowed r size (c ∷ cs) = Allowed r size c.0 c.1 × EachAllowed r size cs

-- An update that may be open on the revision r. Its new numbers follow Size without a gap: there are as many of them as its new Size has gained.
pub record Acceptable (r : Revision) (u : Update) : Type 0 where
  pub ascends : Ascends 0 u
  pub allowed : EachAllowed r (new_size r u) u
  pub few : length u ≤ most_changes
  pub small : body_bytes u ≤ most_body_bytes
