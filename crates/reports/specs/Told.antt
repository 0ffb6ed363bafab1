-- What the differences of two revisions tell.
use Rattle.std.specs.Prelude.{◌≡◌, ℕ, suc, ◌≤◌, List, [], ◌∷◌, length, Ok}
use Rattle.format.specs.Book.{Moment}
use Rattle.format.specs.Questions.{ask_revision}
use Rattle.format.specs.Revisions.{Revision, find}
use Rattle.format.specs.Updates.{Objects, objects_of}
use Rattle.book.specs.Differences.{difference}
use Rattle.book.specs.declared.book.compare.Difference.{Difference}
use Rattle.reports.specs.Differences.{differences}

-- the numbers ascend, and the first is not below the one given
abbrev pub Ascends : ℕ → List (ℕ × Difference) → Type 0
Ascends low [] = Unit {0}
Ascends low (r ∷ rs) = (low ≤ r.0) × Ascends (suc r.0) rs

-- objects have something for every number below their Size, and for no other
abbrev pub Whole : Objects → Type 0
Whole o = length o.numbers ≡ o.size

-- of every number there is, the differences have what became of it, or they lack it where nothing did
pub record Tell (a b : Objects) : Type 0 where
  pub each : (n : ℕ) → find n (differences a b) ≡ difference n a b
  pub ascends : Ascends 0 (differences a b)

-- the objects of every revision that a book shows are such
abbrev pub RevisionsAreWhole : Type 0
RevisionsAreWhole = (m : Moment) (n k : ℕ) (r : Revision) → ask_revision m n k ≡ Ok r → Whole (objects_of r)

abbrev pub DifferencesTell : Type 0
DifferencesTell = (a b : Objects) → Whole a → Whole b → Tell a b
