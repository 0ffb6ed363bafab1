-- Entries and rows as the format has them.
use Rattle.std.specs.Prelude.{true, false, List, map, ℕ}
use Rattle.format.specs.Lines.{Slot}
use Rattle.format.specs.Sections.{Listed}
use Rattle.entries.specs.declared.entry.Entry.{Entry}
use Rattle.entries.specs.declared.entry.Entry.TheVariants.{Used, Free}
use Rattle.entries.specs.declared.entry.Row.{Row}

abbrev pub slot_of : Entry → Slot
slot_of (Used p g) = record { in_use = true; field = p; gen = g }
slot_of (Free n g) = record { in_use = false; field = n; gen = g }

abbrev pub slots_of : List Entry → List Slot
slots_of es = map slot_of es

abbrev pub row_of : Row → ℕ × Slot
row_of r = (r.number, slot_of r.entry)

-- what rows list
abbrev pub rows_of : List Row → Listed
rows_of rs = map row_of rs
