-- The changes of an open update as the format has them, and how they are kept.
use Rattle.std.specs.Prelude.{ℕ, suc, Bool, true, false, ◌&&◌, List, [], ◌∷◌, map, nat_le, nat_lt}
use Rattle.format.specs.Bytes.{Bytes}
use Rattle.format.specs.Updates as format
use Rattle.entries.specs.Cells.{part}
use Rattle.writer.specs.declared.change.Change.{Change}
use Rattle.writer.specs.declared.change.Content.{Content}
use Rattle.writer.specs.declared.change.Content.TheVariants.{Body, Removed}

-- a change, its body from among the bytes kept
abbrev pub content_in : Bytes → Content → format.Change
content_in pool (Body s e) = format.body (part pool s e)
content_in pool Removed = format.removed

abbrev pub row_in : Bytes → Change → ℕ × format.Change
row_in pool c = (c.number, content_in pool c.content)

abbrev pub update_in : Bytes → List Change → format.Update
update_in pool cs = map (row_in pool) cs

-- a number with its change
abbrev pub pair_of : Change → ℕ × Content
pair_of c = (c.number, c.content)

-- a body lies among the first bytes kept
abbrev pub within : ℕ → Content → Bool
within count (Body s e) = nat_le s e && nat_le e count
within count Removed = true

abbrev pub all_within : ℕ → List Change → Bool
all_within count [] = true
all_within count (c ∷ cs) = within count c.content && all_within count cs

-- the first place whose number is greater
abbrev pub place_for : ℕ → List Change → ℕ
place_for n [] = 0
place_for n (c ∷ cs) = elim (nat_lt n c.number) [ true ↦ 0 | false ↦ suc (place_for n cs) ]
