-- Answers in plain numbers, as the worked examples state them.
use Rattle.std.specs.Prelude.{ℕ, suc, ◌-◌, List, [], ◌∷◌, length, Some, None, Ok, Err, Option}
use Rattle.faults.specs.declared.fault.Fault.{Fault}
use Rattle.faults.specs.Layers.{layer_number}
use Rattle.faults.specs.Rules.{rule_of}
use Rattle.format.specs.Book.{Moment, Call, decide, phase_after, bytes_after}
use Rattle.format.specs.Bytes.{Got, ok, bad}
use Rattle.format.specs.Chain.{Answer}
use Rattle.format.specs.Objects.{Obj, null, boolean, integer, decimal, literal, hexadecimal, named, array, dict, ref, Objs, no_objs, more_objs}
use Rattle.format.specs.Revisions.{Opened, Revision}
use Rattle.format.specs.Updates.{Objects, objects_of}

-- what a reader answers: the place behind what it took, or the fault
pub data Reads : Type 0 where
  reads_to : ℕ → Reads
  fault : (number layer place object : ℕ) → Reads

unfoldable pub fault_shown : Fault → Reads
fault_shown f = fault (rule_of f.reason).number (layer_number f.layer) f.place f.object

unfoldable pub shown_got : {A : Type 0} → Got A → Reads
shown_got (ok a p xs) = reads_to p
shown_got (bad f) = fault_shown f

-- an accepted answer by how many revisions it has
unfoldable pub shown_open : Answer Opened → Reads
shown_open (Ok o) = reads_to (length o.history)
shown_open (Err f) = fault_shown f

unfoldable pub shown_answer : {A : Type 0} → Answer A → Reads
shown_answer (Ok a) = reads_to 0
shown_answer (Err f) = fault_shown f

-- how many elements an array has
unfoldable pub count_objs : Objs → ℕ
count_objs no_objs = 0
count_objs (more_objs o os) = suc (count_objs os)

unfoldable pub elements : Obj → ℕ
elements (array os) = count_objs os
elements null = 0
elements (boolean b) = 0
elements (integer z) = 0
elements (decimal w) = 0
elements (literal w) = 0
elements (hexadecimal w) = 0
elements (named d) = 0
elements (dict es) = 0
elements (ref n g) = 0

unfoldable pub elements_read : Got Obj → Option ℕ
elements_read (ok o p xs) = Some (elements o)
elements_read (bad f) = None

-- the objects of each revision, the oldest first
unfoldable pub objects_of_all : List Revision → List Objects
objects_of_all [] = []
objects_of_all (r ∷ rs) = objects_of r ∷ objects_of_all rs

-- the sections' offsets and the ends of the revisions, the oldest first
unfoldable pub extents : List Revision → List (ℕ × ℕ)
extents [] = []
extents (r ∷ rs) = (r.offset, r.end) ∷ extents rs

-- One call on a book over a flat store of `memory` bytes: its space is what the file leaves of the memory.
unfoldable pub moved : (memory : ℕ) → Moment → Call → Answer (Unit {0}) → Moment
moved memory m c (Err f) = m
moved memory m c (Ok u) =
    let file = bytes_after m.store.bytes m.phase c in
    record { store = record { bytes = file; space = memory - length file }; phase = phase_after m.phase c }

unfoldable pub went : (memory : ℕ) → Moment → List Call → Moment
went memory m [] = m
went memory m (c ∷ cs) = went memory (moved memory m c (decide m.store m.phase c)) cs

-- what each call is answered
unfoldable pub answers : (memory : ℕ) → Moment → List Call → List Reads
answers memory m [] = []
answers memory m (c ∷ cs) =
    let a = decide m.store m.phase c in
    shown_answer a ∷ answers memory (moved memory m c a) cs

-- what a proof by computation unfolds
unfoldable pub computes_shows : Unit {0}
unfolding fault_shown shown_got shown_open shown_answer count_objs elements elements_read objects_of_all extents moved went answers
computes_shows = tt
