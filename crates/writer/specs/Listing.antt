-- The entries that an update lists, by what is planned.
use Rattle.std.specs.Prelude.{◌≡◌, ℕ, ◌+◌, ◌-◌, ◌*◌, ◌≤◌, Bool, true, false, List, [], ◌∷◌, ◌++◌, map, drop, Some, None, Option}
use Rattle.format.specs.Lines.{Slot}
use Rattle.format.specs.Writing.{entries_for, runs, runs_on}
use Rattle.writer.specs.declared.draft.Draft.{Draft}
use Rattle.writer.specs.declared.plan.Planned.{Planned}
use Rattle.writer.specs.declared.plan.Planned.TheVariants.{Kept, Vacant, Wrote, Freed}
use Rattle.writer.specs.Drafts.{written, count, limit_of}
use Rattle.writer.specs.Planned.{cell_of}

-- a number that is free when the update is written
abbrev pub is_free : Planned → Bool
is_free Kept = false
is_free (Vacant g l) = true
is_free (Wrote g p) = false
is_free (Freed g) = true

-- the entries from the number n on, where the plan from there on is given
abbrev pub listed_from : ℕ → List Planned → List (Option Slot)
listed_from n ps = entries_for n (map cell_of ps)

-- the entries of the numbers from n on in a plan of all numbers
abbrev pub listed_at : List Planned → ℕ → List (Option Slot)
listed_at plan n = listed_from n (drop n plan)

-- the unbroken run of listed numbers that stands first
abbrev pub front : List (Option Slot) → List Slot
front [] = []
front (None ∷ ss) = []
front (Some s ∷ ss) = s ∷ front ss

-- Runs are written from the number n up to the number m; at most 42 bytes a number.
pub record RunsTo (plan : List Planned) (n m : ℕ) (d e : Draft) : Type 0 where
  pub bytes : written e ++ runs_on (runs m (listed_at plan m)) [] ≡ written d ++ runs_on (runs n (listed_at plan n)) []
  pub grown : count e ≤ count d + 42 * (m - n)
  pub limit : limit_of e ≡ limit_of d
