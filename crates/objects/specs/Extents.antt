-- Objects read with or without the check for a key that stood before, and a walk over the entries of a dictionary.
use Rattle.std.specs.Prelude.{ℕ, zero, suc, Bool, true, false, ◌&&◌, Some, None, Option, nat_le}
use Rattle.faults.specs.declared.reason.Reason.TheVariants.{BytesEnd, KeyAgain}
use Rattle.format.specs.Bytes.{Bytes, Got, ok, bad, then, up_to, same}
use Rattle.format.specs.Failures.{object_fault}
use Rattle.format.specs.Space.{skip}
use Rattle.format.specs.Strings.{turns}
use Rattle.format.specs.Tokens.{Token, token_at}
use Rattle.format.specs.Objects.{Obj, dict, Entries, no_entries, Reader, More, holds, Next, closes, key, fails, next, valued, one, too_deep, in_array}
use Rattle.objects.specs.Shapes.{shape_of}
use Rattle.objects.specs.declared.shape.Value.{Value}

-- an entry, from its key's token; if c, a key that stood before is refused
unfoldable pub keyed_by : Bool → Reader → More → Entries → Bytes → Token → Got Entries
keyed_by c elem more seen k t =
    elim (c && holds k seen) [
      | true ↦ bad (object_fault KeyAgain t.from)
      | false ↦ valued elem more seen k (up_to t.from t.bytes t.to) (skip false t.to t.rest)
    ]

unfoldable pub entry_at_by : Bool → Reader → More → Entries → Token → Got Entries
entry_at_by c elem more seen t =
    elim (next t.from t.kind) [
      | closes ↦ ok no_entries t.to t.rest
      | key k ↦ keyed_by c elem more seen k t
      | fails f ↦ bad f
    ]

-- the entries of a dictionary up to its closing mark
unfoldable pub entries_by : Bool → Reader → (turns : ℕ) → More
entries_by c elem zero seen p xs = bad (object_fault BytesEnd p)
entries_by c elem (suc n) seen p xs = entry_at_by c elem (entries_by c elem n) seen (token_at p xs)

unfoldable pub in_dict_by : Bool → Reader → ℕ → Reader
in_dict_by c elem s p xs = then (entries_by c elem turns no_entries p xs) (λ es q ys. ok (dict es) q ys)

-- an object in which arrays and dictionaries nest at most d deep
unfoldable pub read_by : Bool → ℕ → Reader
read_by c zero = one too_deep too_deep
read_by c (suc d) = one (in_array (read_by c d)) (in_dict_by c (read_by c d))

-- whether a walk that stops before a place has come to it
unfoldable pub reached : Option ℕ → ℕ → Bool
reached None p = false
reached (Some q) p = nat_le q p

-- the value at s, as read
unfoldable pub value_at : ℕ → Got Obj → Option Value
value_at s (ok o q ys) = Some (record { start = s; end = q; shape = shape_of o })
value_at s (bad f) = None

-- a walk behind a value, as read
unfoldable pub beyond : (ℕ → Bytes → Option Value) → Got Obj → Option Value
beyond more (ok o q ys) = more q ys
beyond more (bad f) = None

-- at a value that is or is not the one that is looked for
unfoldable pub passing : (ℕ → Bytes → Option Value) → Bool → ℕ → Got Obj → Option Value
passing more true s v = value_at s v
passing more false s v = beyond more v

-- a value behind the white space behind its key
unfoldable pub value_behind : Reader → (ℕ → Bytes → Option Value) → Bool → (ℕ × Bytes) → Option Value
value_behind elem more b s = passing more b s.0 (elem s.0 s.1)

unfoldable pub find_at : Reader → (ℕ → Bytes → Option Value) → Bytes → Token → Next → Option Value
find_at elem more k t closes = None
find_at elem more k t (fails f) = None
find_at elem more k t (key j) = value_behind elem more (same k j) (skip false t.to t.rest)

-- the value of a decoded key, from an entry on, up to a place or to the end
unfoldable pub find : Reader → (turns : ℕ) → Bytes → Option ℕ → ℕ → Bytes → Option Value
find elem zero k stop p xs = None
find elem (suc n) k stop p xs =
    elim (reached stop p) [
      | true ↦ None
      | false ↦ find_at elem (find elem n k stop) k (token_at p xs) (next (token_at p xs).from (token_at p xs).kind)
    ]
