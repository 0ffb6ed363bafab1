-- The tables that opening leaves: what the rest of the work may take for granted of a revision's states.
use Rattle.std.specs.Prelude.{◌≡◌, ℕ, ◌≤◌, length, Some}
use Rattle.format.specs.Bytes.{Bytes}
use Rattle.format.specs.Revisions.{State, used, free, Revision, nth}

-- The state of the number n. In use: from 1 up, with a generation of at most 65534. Free: a generation of at most 65535, and 65535 at number 0.
abbrev pub Fit : ℕ → State → Type 0
Fit n (used g b) = (1 ≤ n) × (g ≤ 65534)
Fit n (free g l) = (g ≤ 65535) × (n ≡ 0 → g ≡ 65535)

-- A revision's table: a state for each number below Size, of which there is one at least; each state fits its number; Root is in use with its generation.
pub record Sound (r : Revision) : Type 0 where
  pub long : length r.states ≡ r.size
  pub some : 1 ≤ r.size
  pub fits : (n : ℕ) (s : State) → nth n r.states ≡ Some s → Fit n s
  pub root : (b : Bytes) × (nth r.root r.states ≡ Some (used r.root_gen b))
