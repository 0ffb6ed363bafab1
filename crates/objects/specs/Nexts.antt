-- The entry that stands next in a dictionary.
use Rattle.std.specs.Prelude.{ℕ, false, Some, None, Option}
use Rattle.format.specs.Bytes.{Bytes}
use Rattle.format.specs.Space.{skip}
use Rattle.format.specs.Tokens.{Token}
use Rattle.format.specs.Objects.{Reader, Next, closes, key, fails}
use Rattle.objects.specs.declared.shape.Entry.{Entry}
use Rattle.objects.specs.declared.shape.Value.{Value}
use Rattle.objects.specs.Extents.{read_by, value_at}
use Rattle.objects.specs.Steps.{token_in, next_in}

-- a key's token and its value
abbrev pub entry_of : Token → Option Value → Option Entry
entry_of t None = None
entry_of t (Some v) = Some (record { key = t.from; behind = t.to; value = v })

abbrev pub entry_from : Reader → Token → Next → Option Entry
entry_from elem t closes = None
entry_from elem t (fails f) = None
entry_from elem t (key k) = entry_of t (value_at (skip false t.to t.rest).0 (elem (skip false t.to t.rest).0 (skip false t.to t.rest).1))

-- the entry at a place of the bytes, its value read without the check for keys
abbrev pub entry_in : Bytes → ℕ → Option Entry
entry_in src p = entry_from (read_by false 31) (token_in src p) (next_in src p)
