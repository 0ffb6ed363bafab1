-- What became of an object number between two revisions.
use Rattle.std.specs.Prelude.{ℕ, ◌≤◌, Bool, true, false, ◌&&◌, length, Some, None, Ok, Option, ◌==◌}
use Rattle.format.specs.Book.{Moment}
use Rattle.format.specs.Bytes.{Bytes, same}
use Rattle.format.specs.Chain.{Answer, also}
use Rattle.format.specs.Questions.{ask_revision}
use Rattle.format.specs.Revisions.{nth}
use Rattle.format.specs.Updates.{Shown, in_use, vacant, Objects, objects_of}
use Rattle.entries.specs.Cells.{part}
use Rattle.book.specs.declared.book.compare.Difference.{Difference}
use Rattle.book.specs.declared.book.compare.Difference.TheVariants.{Added, Changed, Withdrawn}
use Rattle.book.specs.declared.rows.Body.{Body}

-- the generation and the body of a number in use
abbrev pub used : Option Shown → Option (ℕ × Bytes)
used None = None
used (Some (vacant g)) = None
used (Some (in_use g b)) = Some (g, b)

abbrev pub same_object : ℕ × Bytes → ℕ × Bytes → Bool
same_object x y = x.0 == y.0 && same x.1 y.1

-- In use only afterwards: added. Only before: withdrawn. In both, with another generation or another body: changed.
abbrev pub became : Option (ℕ × Bytes) → Option (ℕ × Bytes) → Option Difference
became None None = None
became None (Some y) = Some Added
became (Some x) None = Some Withdrawn
became (Some x) (Some y) = elim (same_object x y) [ true ↦ None | false ↦ Some Changed ]

-- what became of the number n from the objects of one revision to those of another
unfoldable pub difference : ℕ → Objects → Objects → Option Difference
difference n a b = became (used (nth n a.numbers)) (used (nth n b.numbers))

-- the question of one number between revisions j and k
unfoldable pub ask_differ : Moment → (j k n : ℕ) → Answer (Option Difference)
ask_differ m j k n =
    also (ask_revision m n j) (λ r. also (ask_revision m n k) (λ s. Ok (difference n (objects_of r) (objects_of s))))

-- a body that lies in a file, and the object that it is there
abbrev pub Lies : Bytes → Body → Type 0
Lies file b = (b.start ≤ b.end) × (b.end ≤ length file)

abbrev pub LiesIf : Bytes → Option Body → Type 0
LiesIf file None = Unit {0}
LiesIf file (Some b) = Lies file b

abbrev pub object_in : Bytes → Body → ℕ × Bytes
object_in file b = (b.generation, part file b.start b.end)

abbrev pub body_in : Bytes → Option Body → Option (ℕ × Bytes)
body_in file None = None
body_in file (Some b) = Some (object_in file b)

abbrev pub same_in : Bytes → Body → Body → Bool
same_in file a b = same_object (object_in file a) (object_in file b)
