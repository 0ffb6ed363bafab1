-- What a reader of a line answers, as the definitions say it.
use Rattle.std.specs.Prelude.{ℕ, ◌+◌, ◌≤◌, [], length, drop, Ok, Err, Result}
use Rattle.faults.specs.declared.fault.Fault.{Fault}
use Rattle.faults.specs.declared.reason.Reason.TheVariants.{BytesEnd, BadLine}
use Rattle.format.specs.Failures.{section_fault}
use Rattle.format.specs.Bytes.{Bytes, Got, ok, bad}
use Rattle.format.specs.Lines.{Piece, took}
use Rattle.lexer.specs.declared.line.Lack.{Lack}
use Rattle.lexer.specs.declared.line.Lack.TheVariants.{Short, Misfit}
use Rattle.opening.specs.Parts.{lacking}

-- what a line lacks, as a fault: at the place where its bytes end, or at its first byte, which stands at the place here
abbrev pub lack_fault : (here end : ℕ) → Lack → Fault
lack_fault here end Short = section_fault BytesEnd end
lack_fault here end Misfit = section_fault BadLine here

-- the same of a line that starts at p of the window src
abbrev pub line_fault : (base p : ℕ) → Bytes → Lack → Fault
line_fault base p src lack = lack_fault (base + p) (base + length src) lack

-- a part without its place
abbrev pub piece_here : {T : Type 0} → Result T Lack → Piece T
piece_here (Ok x) = took x 0 []
piece_here (Err e) = lacking e

-- an answer without its place
abbrev pub answered : {T : Type 0} → Got T → Result T Fault
answered (ok x p xs) = Ok x
answered (bad f) = Err f

-- an answer that is a place of the window src, which begins at the place base
abbrev pub passed_to : (base : ℕ) → Bytes → Result ℕ Fault → Got Unit
passed_to base src (Ok q) = ok tt (base + q) (drop q src)
passed_to base src (Err f) = bad f

-- the place is from p on, and in the bytes
abbrev pub EndsWithin : Bytes → ℕ → Result ℕ Fault → Type 0
EndsWithin src p (Ok q) = (p ≤ q) × (q ≤ length src)
EndsWithin src p (Err f) = Unit {0}
