-- The pieces of a section that have no name of their own in the format.
use Rattle.std.specs.Prelude.{ℕ, List, [], ◌∷◌, ◌++◌, map, codes}
use Rattle.format.specs.Bytes.{Bytes}
use Rattle.format.specs.Lines.{Slot}
use Rattle.format.specs.Writing.{decimal}
use Rattle.entries.specs.declared.entry.Entry.{Entry}
pub use Rattle.entries.specs.Rows.{slot_of}

abbrev pub slots_of : List Entry → List Slot
slots_of es = map slot_of es

-- a trailer's entry: key, space, value, LF
unfoldable pub pair_bytes : Bytes → Bytes → Bytes
pair_bytes k v = k ++ (32 ∷ (v ++ (10 ∷ [])))

-- `/Size N` LF
abbrev pub size_bytes : ℕ → Bytes
size_bytes n = codes "/Size " ++ (decimal n ++ codes "\n")

-- the end of a section that starts at an offset
unfoldable pub close_bytes : ℕ → Bytes
close_bytes at = codes ">>\nstartxref\n" ++ (decimal at ++ codes "\n%%EOF\n")

-- the line above a run: its first number, and how many there are
unfoldable pub line_bytes : ℕ → ℕ → Bytes
line_bytes first count = decimal first ++ (32 ∷ (decimal count ++ (10 ∷ [])))
