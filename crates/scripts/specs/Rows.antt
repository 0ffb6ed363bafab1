-- Changes in memory, as the format has them.
use Rattle.std.specs.Prelude.{ℕ, suc, Bool, true, ◌&&◌, List, [], ◌∷◌, map, vec_items, nat_le, nat_lt}
use Rattle.std.specs.Global.{Vec}
use Rattle.format.specs.Bytes.{Bytes}
use Rattle.format.specs.Updates as format
use Rattle.format.specs.Updates.{body, removed, Update}
use Rattle.scripts.specs.declared.change.Change.{Change}
use Rattle.scripts.specs.declared.change.Change.TheVariants.{Removed, Body}

-- a change, where `bytes` is the body that is kept
abbrev pub change_with : {B : Type 0} → (bytes : B → Bytes) → Change B → format.Change
change_with bytes Removed = removed
change_with bytes (Body b) = body (bytes b)

abbrev pub change_of : Change (Vec ℕ) → format.Change
change_of = change_with vec_items

abbrev pub row_of : ℕ × Change (Vec ℕ) → ℕ × format.Change
row_of r = (r.0, change_of r.1)

abbrev pub rows_of : List (ℕ × Change (Vec ℕ)) → Update
rows_of rs = map row_of rs

-- the numbers ascend, from `low` up, and have at most ten digits
unfoldable pub in_order : (low : ℕ) → Update → Bool
in_order low [] = true
in_order low (r ∷ rs) = (nat_le low r.0 && nat_lt r.0 10000000000) && in_order (suc r.0) rs
