-- What is printed of an update is read as that update.
use Rattle.std.specs.Prelude.{◌≡◌, ◌^◌, ◌<◌, [], ◌∷◌, Ok}
use Rattle.format.specs.Acceptable.{Ascends}
use Rattle.format.specs.Bytes.{Bytes}
use Rattle.format.specs.Updates.{Update}
use Rattle.scripts.specs.Scripts.{read_script, print_script}

-- every number has at most ten digits
abbrev pub Spellable : Update → Type 0
Spellable [] = Unit {0}
Spellable (r ∷ rs) = (r.0 < 10 ^ 10) × Spellable rs

abbrev pub PrintedReadsBack : Type 0
PrintedReadsBack = (u : Update) → Ascends 0 u → Spellable u → read_script (print_script u) ≡ Ok u

-- what a script is read as can be printed
abbrev pub ReadsAgain : Type 0
ReadsAgain = (s : Bytes) (u : Update) → read_script s ≡ Ok u → Ascends 0 u × Spellable u × (read_script (print_script u) ≡ Ok u)
