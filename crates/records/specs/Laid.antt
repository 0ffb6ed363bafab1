-- The cells of a revision's table: those that its section lists, over those of the table before.
use Rattle.std.specs.Prelude.{◌≡◌, ℕ, zero, suc, ◌<◌, Bool, false, List, [], ◌∷◌, map, Some, None}
use Rattle.format.specs.Bytes.{Bytes}
use Rattle.format.specs.Revisions.{State, used_with, find, nth, either}
use Rattle.entries.specs.declared.cell.Cell.{Cell}
use Rattle.entries.specs.Cells.{state_in}

-- the numbers of numbered cells, and the cells alone
abbrev pub numbers_in : List (ℕ × Cell) → List ℕ
numbers_in cs = map (λ (c : ℕ × Cell). c.0) cs

abbrev pub cells_in : List (ℕ × Cell) → List Cell
cells_in cs = map (λ (c : ℕ × Cell). c.1) cs

-- every number below Size is listed, or stood in the table before, which had `old` numbers
abbrev pub Covers : ℕ → List (ℕ × Cell) → ℕ → Type 0
Covers size listed old = (n : ℕ) → n < size → find n listed ≡ None → n < old

-- the table: for k numbers from n on, the cell listed now, or the one before
unfoldable pub laid : (k n : ℕ) → List (ℕ × Cell) → List Cell → List Cell
laid zero n new old = []
laid (suc k) n new old = elim (either (find n new) (nth n old)) [ None ↦ [] | Some c ↦ c ∷ laid k (suc n) new old ]

-- the states that numbered cells stand for, in the file that they point into
unfoldable pub states_by : Bytes → List (ℕ × Cell) → List (ℕ × State)
states_by file [] = []
states_by file (c ∷ cs) = (c.0, state_in file c.1) ∷ states_by file cs

-- the number is in use with that generation
unfoldable pub used_at : (n g : ℕ) → List State → Bool
used_at n g ss = elim (nth n ss) [ None ↦ false | Some t ↦ used_with g t ]
