-- What a list in memory of a size that was taken once holds.
use Rattle.std.specs.Prelude.{ℕ, List, vec_items}
use Rattle.entries.specs.declared.reserved.Reserved.{Reserved}

-- its items, in the order in which they were added
abbrev pub items_of : {T : Type 0} {most : ℕ} → Reserved T most → List T
items_of r = vec_items r.items
