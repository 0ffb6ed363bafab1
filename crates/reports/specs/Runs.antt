-- Numbers in short.
use Rattle.std.specs.Prelude.{ℕ, zero, suc, ◌+◌, ◌-◌, true, false, List, [], ◌∷◌, ◌==◌}
use Rattle.reports.specs.declared.runs.Run.{Run}

abbrev pub run : ℕ → ℕ → Run
run a b = record { first = a; last = b }

-- the runs of numbers behind a run that goes from a to b: a number that follows b makes it longer, any other begins the next
abbrev pub runs_from : (a b : ℕ) → List ℕ → List Run
runs_from a b [] = run a b ∷ []
runs_from a b (n ∷ ns) = elim (n == b + 1) [ true ↦ runs_from a n ns | false ↦ run a b ∷ runs_from n n ns ]

abbrev pub runs_of : List ℕ → List Run
runs_of [] = []
runs_of (n ∷ ns) = runs_from n n ns

-- the numbers from a on, as many as given
abbrev pub up_from : (a count : ℕ) → List ℕ
up_from a zero = []
up_from a (suc c) = a ∷ up_from (suc a) c

abbrev pub numbers_in : Run → List ℕ
numbers_in r = up_from r.first (suc (r.last - r.first))
