-- Where a number is listed.
use Rattle.std.specs.Prelude.{ℕ, suc, true, false, List, [], ◌∷◌, map, Some, None, Option, ◌==◌}
use Rattle.entries.specs.declared.entry.Row.{Row}

-- the numbers that rows list
abbrev pub numbers_of : List Row → List ℕ
numbers_of rs = map (λ (r : Row). r.number) rs

-- the first place of a number among those from the place k on
unfoldable pub place_from : ℕ → ℕ → List ℕ → Option ℕ
place_from k n [] = None
place_from k n (m ∷ ms) = elim (n == m) [ true ↦ Some k | false ↦ place_from (suc k) n ms ]
