-- What changed between two revisions.
use Rattle.std.specs.Prelude.{◌≡◌, ℕ, zero, suc, max, Bool, true, false, List, [], ◌∷◌, map, filter, Some, None, Ok, Err, vec_items, Option, Result}
use Rattle.std.specs.Global.{Vec}
use Rattle.format.specs.Book.{Moment}
use Rattle.format.specs.Chain.{Answer, also}
use Rattle.format.specs.Questions.{ask_revision}
use Rattle.format.specs.Updates.{Objects, objects_of}
use Rattle.book.specs.Differences.{difference}
use Rattle.book.specs.declared.book.compare.Difference.{Difference}
use Rattle.book.specs.declared.book.compare.Difference.TheVariants.{Added, Changed, Withdrawn}
use Rattle.reports.specs.declared.differences.Change.{Change}
use Rattle.reports.specs.declared.trouble.Trouble.{Trouble}
use Rattle.reports.specs.declared.trouble.Trouble.TheVariants.{NoMemory, Refused}

-- a number of which something became, before others
abbrev pub listing : ℕ → Option Difference → List (ℕ × Difference) → List (ℕ × Difference)
listing n None ds = ds
listing n (Some d) ds = (n, d) ∷ ds

-- of as many numbers from n on as given, those of which something became
unfoldable pub differing : (count n : ℕ) → Objects → Objects → List (ℕ × Difference)
differing zero n a b = []
differing (suc c) n a b = listing n (difference n a b) (differing c (suc n) a b)

-- all numbers of which something became from the objects of one revision to those of another, and what
unfoldable pub differences : Objects → Objects → List (ℕ × Difference)
differences a b = differing (max a.size b.size) 0 a b

-- the question of all numbers between revisions j and k
unfoldable pub ask_differences : Moment → (j k : ℕ) → Answer (List (ℕ × Difference))
ask_differences m j k =
    also (ask_revision m 0 j) (λ r. also (ask_revision m 0 k) (λ s. Ok (differences (objects_of r) (objects_of s))))

abbrev pub pair_of : Change → ℕ × Difference
pair_of c = (c.number, c.difference)

abbrev pub pairs_of : List Change → List (ℕ × Difference)
pairs_of cs = map pair_of cs

-- the changes, exactly; or what refuses the question; or there is no memory for them
abbrev pub Differs : Moment → (j k : ℕ) → Result (Vec Change) Trouble → Type 0
Differs m j k (Ok v) = ask_differences m j k ≡ Ok (pairs_of (vec_items v))
Differs m j k (Err NoMemory) = Unit {0}
Differs m j k (Err (Refused f)) = ask_differences m j k ≡ Err f

-- whether they are equal, which the definitions have no test for but one by cases
abbrev pub same_kind : Difference → Difference → Bool
same_kind Added Added = true
same_kind Added Changed = false
same_kind Added Withdrawn = false
same_kind Changed Added = false
same_kind Changed Changed = true
same_kind Changed Withdrawn = false
same_kind Withdrawn Added = false
same_kind Withdrawn Changed = false
same_kind Withdrawn Withdrawn = true

-- the numbers of which the same became, in their order
abbrev pub numbers_of : Difference → List Change → List ℕ
numbers_of d cs = map (λ c. c.number) (filter (λ c. same_kind c.difference d) cs)
