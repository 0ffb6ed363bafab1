-- The objects of a section, read into cells.
use Rattle.std.specs.Prelude.{◌≡◌, ℕ, false, ◌&&◌, List, ℤ, Ok, Err, Result, MatchResult, ◌==◌}
use Rattle.faults.specs.declared.fault.Fault.{Fault}
use Rattle.faults.specs.declared.reason.Reason.TheVariants.{ChainRule}
use Rattle.format.specs.Bytes.{Bytes}
use Rattle.format.specs.Failures.{chain_fault}
use Rattle.format.specs.Chain.{Answer}
use Rattle.format.specs.Revisions.{State, slots_fit, states_of}
use Rattle.entries.specs.declared.cell.Cell.{Cell}
use Rattle.entries.specs.declared.cell.Cell.TheVariants.{Used}
use Rattle.entries.specs.declared.entry.Row.{Row}
use Rattle.entries.specs.Cells.{state_in, AllEndBy}
use Rattle.entries.specs.Rows.{rows_of}
use Rattle.objects.specs.declared.frame.Frame.{Frame}
use Rattle.records.specs.Laid.{cells_in, numbers_in, states_by}
use Rattle.records.specs.Listing.{numbers_of}

-- the state that a cell stands for, or the fault
abbrev pub state_read : Bytes → Result Cell Fault → Answer State
state_read file (Ok c) = Ok (state_in file c)
state_read file (Err f) = Err f

-- the cell of an object that was read for a row with the number n and the generation g: it bears both
abbrev pub FramedCell : (off n g : ℕ) → Frame → Result Cell Fault → Type 0
FramedCell off n g f (Ok c) = (f.number ≡ n) × (f.generation ≡ g) × (c ≡ Used g f.start f.end)
FramedCell off n g f (Err e) = (f.number == n && (f.generation == g) ≡ false) × (e ≡ chain_fault ChainRule off n)

-- the rows of a section at `off` have these cells, each with its row's number, which end before it if the entries fit
pub record CellsOf (file : Bytes) (off : ℕ) (rows : List Row) (cells : List (ℕ × Cell)) : Type 0 where
  pub is : states_of file off (rows_of rows) ≡ Ok (states_by file cells)
  pub paired : numbers_in cells ≡ numbers_of rows
  pub ends : (size : ℤ) → slots_fit off size (rows_of rows) ≡ Ok tt → AllEndBy off (cells_in cells)

-- the objects of the rows were read into cells, or the first fault met
abbrev pub ReadsObjects : Bytes → ℕ → List Row → List (ℕ × Cell) → Result (Unit {0}) Fault → Type 0
ReadsObjects file off rows cells r = MatchResult r (λ _. CellsOf file off rows cells) (λ f. states_of file off (rows_of rows) ≡ Err f)
