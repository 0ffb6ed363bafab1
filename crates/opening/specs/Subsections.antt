-- Subsections, as the code has them.
use Rattle.std.specs.Prelude.{ℕ, Bool, List, ◌++◌}
use Rattle.format.specs.Revisions.{one_from_zero}
use Rattle.format.specs.Sections.{Listed, Sub, listed}
use Rattle.opening.specs.declared.subsections.Subsection.{Subsection}
use Rattle.opening.specs.declared.subsections.Subsections.{Subsections}

-- a subsection's first number, its count, and what it lists behind what was listed before
abbrev pub sub_behind : Listed → Sub → ℕ × ℕ × Listed
sub_behind old s = (s.first, s.count, old ++ s.rows)

-- the same in code, with all that is listed then
abbrev pub sub_here : Listed → Subsection → ℕ × ℕ × Listed
sub_here all s = (s.first, s.count, all)

-- what subsections list behind what was listed before, and whether it is one subsection, from 0
abbrev pub all_behind : Listed → List Sub → Listed × Bool
all_behind old ss = (old ++ listed ss, one_from_zero ss)

abbrev pub all_here : Listed → Subsections → Listed × Bool
all_here all s = (all, s.one_from_zero)
