-- The cells of a table as the states of the numbers, in the file that they point into.
use Rattle.std.specs.Prelude.{List, [], ◌∷◌, map, ℕ, ◌-◌, ◌≤◌, take, drop}
use Rattle.format.specs.Bytes.{Bytes}
use Rattle.format.specs.Revisions.{State, used, free}
use Rattle.entries.specs.declared.cell.Cell.{Cell}
use Rattle.entries.specs.declared.cell.Cell.TheVariants.{Used, Free}

-- the bytes of a file from one place up to another
abbrev pub part : Bytes → (start end : ℕ) → Bytes
part file start end = take (end - start) (drop start file)

abbrev pub state_in : Bytes → Cell → State
state_in file (Used g s e) = used g (part file s e)
state_in file (Free g n) = free g n

abbrev pub states_in : Bytes → List Cell → List State
states_in file cs = map (state_in file) cs

-- the body of a cell in use ends at or before a place
abbrev pub EndsBy : ℕ → Cell → Type 0
EndsBy limit (Used g s e) = (s ≤ e) × (e ≤ limit)
EndsBy limit (Free g n) = Unit {0}

abbrev pub AllEndBy : ℕ → List Cell → Type 0
AllEndBy limit [] = Unit {0}
AllEndBy limit (c ∷ cs) = EndsBy limit c × AllEndBy limit cs
