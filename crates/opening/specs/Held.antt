-- The rows that were read of a section.
use Rattle.std.specs.Prelude.{ℕ, ◌*◌, ◌≤◌, List, length}
use Rattle.entries.specs.declared.entry.Row.{Row}
use Rattle.entries.specs.declared.reserved.Reserved.{Reserved}
use Rattle.entries.specs.Reserving.{items_of}
use Rattle.entries.specs.Rows.{rows_of}
use Rattle.format.specs.Bytes.{Bytes}
use Rattle.format.specs.Chain.{window_bytes}
use Rattle.format.specs.Sections.{Listed}
use Rattle.opening.specs.Figures.{most_rows}

-- the list that they stand in
abbrev pub Rows : Type 0
Rows = Reserved Row most_rows

abbrev pub rows_held : Rows → List Row
rows_held rows = items_of rows

-- what they list
abbrev pub listed_by : Rows → Listed
listed_by rows = rows_of (rows_held rows)

-- each of them took 20 bytes of those before a place
abbrev pub HeldBefore : ℕ → Rows → Type 0
HeldBefore p rows = 20 * length (rows_held rows) ≤ p

-- The bytes of a section's window, a place in it, and the rows that were read before.
pub record Window (src : Bytes) (from : ℕ) (rows : Rows) : Type 0 where
  pub few : length src ≤ window_bytes
  pub held : HeldBefore from rows
