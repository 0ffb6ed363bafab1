-- What a reader of a script gives.
use Rattle.std.specs.Prelude.{◌≡◌, ◌^◌, ◌<◌, List, [], ◌∷◌, Some, None, Ok, Err, Option, Result}
use Rattle.std.specs.Borrow.{Bor}
use Rattle.format.specs.Bytes.{Bytes}
use Rattle.format.specs.Updates as format
use Rattle.scripts.specs.declared.change.Change.{Change}
use Rattle.scripts.specs.declared.error.ScriptError.{ScriptError}
use Rattle.scripts.specs.declared.found.Found.{Found}
use Rattle.scripts.specs.Dots.{undotted}
use Rattle.scripts.specs.Rows.{change_with}
use Rattle.scripts.specs.Scripts.{Item, change, stop}

-- the change that is spelled
abbrev pub spelled_change : Change (Bor Bytes) → format.Change
spelled_change = change_with (λ t. undotted t.now)

abbrev pub item_of : Found → Item
item_of f = change f.line f.number (spelled_change f.change)

-- What the script said from where the reader stood, what the reader gave of it, and what the script says from where the reader stands now:
-- one item is given after the other, and at the end, and where something is wrong, the reader stays.
abbrev pub Gave : List Item → Result (Option Found) ScriptError → List Item → Type 0
Gave was (Ok None) is = (was ≡ []) × (is ≡ was)
Gave was (Ok (Some f)) is = was ≡ item_of f ∷ is
Gave was (Err e) is = (was ≡ stop e ∷ []) × (is ≡ was)

-- a number of at most ten digits was given
abbrev pub SmallNumber : Result (Option Found) ScriptError → Type 0
SmallNumber (Ok None) = Unit {0}
SmallNumber (Ok (Some f)) = f.number < 10 ^ 10
SmallNumber (Err e) = Unit {0}
