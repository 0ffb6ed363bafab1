-- The worked file: what the definitions make of it.
use Rattle.std.specs.Prelude.{◌≡◌, ℕ, false, List, [], ◌∷◌, ◌++◌, length, Some, codes}
use Rattle.format.specs.Book.{standing, Moment, Call, open_file, begin, put, remove, commit, back, history}
use Rattle.format.specs.Bytes.{Bytes}
use Rattle.format.specs.Law.{shut_over}
use Rattle.format.specs.Objects.{object}
use Rattle.format.specs.Shows.{reads_to, fault, shown_got, elements_read, objects_of_all, extents, went}
use Rattle.format.specs.Updates.{Shown, in_use, vacant, Objects}

-- 181 bytes, every end of line LF
abbrev pub worked_file : Bytes
worked_file = codes "%PDF-1.4\n1 0 obj\n<</A 2 0 R>>\nendobj\n2 0 obj\n(pump)\nendobj\nxref\n0 3\n0000000000 65535 f \n0000000009 00000 n \n0000000037 00000 n \ntrailer\n<<\n/Root 1 0 R\n/Size 3\n>>\nstartxref\n59\n%%EOF\n"

-- the same with one update, with two and with three behind it
abbrev pub file2 : Bytes
file2 = worked_file ++ codes "2 0 obj\n(gate)\nendobj\n3 0 obj\n7\nendobj\nxref\n0 1\n0000000000 65535 f \n2 2\n0000000181 00000 n \n0000000203 00000 n \ntrailer\n<<\n/Root 1 0 R\n/Size 4\n/Prev 59\n>>\nstartxref\n220\n%%EOF\n"

abbrev pub file3 : Bytes
file3 = file2 ++ codes "xref\n0 1\n0000000002 65535 f \n2 1\n0000000000 00001 f \ntrailer\n<<\n/Root 1 0 R\n/Size 4\n/Prev 220\n>>\nstartxref\n356\n%%EOF\n"

abbrev pub file4 : Bytes
file4 = file3 ++ codes "2 1 obj\n(weir)\nendobj\nxref\n0 1\n0000000000 65535 f \n2 1\n0000000473 00001 n \ntrailer\n<<\n/Root 1 0 R\n/Size 4\n/Prev 356\n>>\nstartxref\n495\n%%EOF\n"

-- a flat store of 1,000 bytes
abbrev memory : ℕ
memory = 1000

abbrev standing_over : Bytes → ℕ → Moment
standing_over file space = record { store = record { bytes = file; space = space }; phase = standing }

-- two puts, committed; then a removal; then the number put again
abbrev puts : List Call
puts = open_file ∷ begin ∷ put false 2 (codes "(gate)") ∷ put false 3 (codes "7") ∷ commit false ∷ []

abbrev removal : List Call
removal = begin ∷ remove false 2 ∷ commit false ∷ []

abbrev reuse : List Call
reuse = begin ∷ put false 2 (codes "(weir)") ∷ commit false ∷ []

-- the objects of the four revisions
abbrev root : Shown
root = in_use 0 (codes "<</A 2 0 R>>")

abbrev pub objects1 : Objects
objects1 = record { size = 3; numbers = vacant 65535 ∷ root ∷ in_use 0 (codes "(pump)") ∷ [] }

abbrev pub objects2 : Objects
objects2 = record { size = 4; numbers = vacant 65535 ∷ root ∷ in_use 0 (codes "(gate)") ∷ in_use 0 (codes "7") ∷ [] }

abbrev pub objects3 : Objects
objects3 = record { size = 4; numbers = vacant 65535 ∷ root ∷ vacant 1 ∷ in_use 0 (codes "7") ∷ [] }

abbrev pub objects4 : Objects
objects4 = record { size = 4; numbers = vacant 65535 ∷ root ∷ in_use 1 (codes "(weir)") ∷ in_use 0 (codes "7") ∷ [] }

-- a file: its length, and the section's offset, the end and the objects of each revision that opening it gives
pub record Reading (file : Bytes) (len : ℕ) (ends : List (ℕ × ℕ)) (objects : List Objects) : Type 0 where
  pub is_long : length file ≡ len
  pub ends_at : extents (history file) ≡ ends
  pub shows : objects_of_all (history file) ≡ objects

-- The eight worked cases. Over a flat store of 1,000 bytes: put 2 `(gate)` and 3 `7`, commit; remove 2; put 2 `(weir)`; go back to revision 2.
-- And one string, a name that is refused, an array with a reference, a key that stands twice.
pub record WorkedCases : Type 0 where
  pub reads1 : Reading worked_file 181 ((59, 181) ∷ []) (objects1 ∷ [])
  pub puts_give : went memory (shut_over worked_file 819) puts ≡ standing_over file2 644
  pub reads2 : Reading file2 356 ((59, 181) ∷ (220, 356) ∷ []) (objects1 ∷ objects2 ∷ [])
  pub removal_gives : went memory (standing_over file2 644) removal ≡ standing_over file3 527
  pub reads3 : Reading file3 473 ((59, 181) ∷ (220, 356) ∷ (356, 473) ∷ []) (objects1 ∷ objects2 ∷ objects3 ∷ [])
  pub reuse_gives : went memory (standing_over file3 527) reuse ≡ standing_over file4 388
  pub reads4 : Reading file4 612 ((59, 181) ∷ (220, 356) ∷ (356, 473) ∷ (495, 612) ∷ []) (objects1 ∷ objects2 ∷ objects3 ∷ objects4 ∷ [])
  pub back_gives : went memory (standing_over file4 388) (back 2 ∷ []) ≡ standing_over file2 644
  pub string : shown_got (object 0 (codes "(a(b)c)")) ≡ reads_to 7
  pub name : shown_got (object 0 (codes "/A#00")) ≡ fault 5 1 0 0
  pub array : elements_read (object 0 (codes "[1 0 R 2]")) ≡ Some 2
  pub key : shown_got (object 0 (codes "<</A 1/A 2>>")) ≡ fault 8 2 6 0
