-- The dots of a body: in a script, a line of a body that starts with a dot is written with one dot more.
use Rattle.std.specs.Prelude.{ℕ, ◌-◌, Bool, true, false, ◌&&◌, [], ◌∷◌, ◌++◌, length, take, ◌==◌}
use Rattle.format.specs.Bytes.{Bytes}

-- what becomes of bytes, where each byte becomes what `f` says of it and of whether it starts a line
unfoldable pub each_byte : (f : Bool → ℕ → Bytes) → (starts : Bool) → Bytes → Bytes
each_byte f s [] = []
each_byte f s (x ∷ xs) = f s x ++ each_byte f (x == 10) xs

-- a byte, or `dot` in its place where it is a dot that starts a line
unfoldable pub dot_as : (dot : Bytes) → (starts : Bool) → ℕ → Bytes
dot_as dot s x = elim (s && x == 46) [ true ↦ dot | false ↦ x ∷ [] ]

abbrev pub with_dot : (starts : Bool) → ℕ → Bytes
with_dot = dot_as (46 ∷ 46 ∷ [])

abbrev pub without_dot : (starts : Bool) → ℕ → Bytes
without_dot = dot_as []

-- a body as a script has it, one dot more before each line that starts with one
unfoldable pub dotted : Bytes → Bytes
dotted b = each_byte with_dot true b

-- the body that such text stands for
unfoldable pub undotted : Bytes → Bytes
undotted t = each_byte without_dot true t

-- all bytes but the last
unfoldable pub without_last : Bytes → Bytes
without_last xs = take (length xs - 1) xs

-- what a proof by computation unfolds
unfoldable pub computes_dots : Unit {0}
unfolding each_byte dot_as dotted undotted without_last
computes_dots = tt
