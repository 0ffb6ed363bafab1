-- Names (ISO 32000-1, 7.3.5).
use Rattle.std.specs.Prelude.{ℕ, suc, ◌+◌, ◌-◌, ◌*◌, true, false, ◌&&◌, [], ◌∷◌, Some, None, Option, ◌==◌, nat_le}
use Rattle.format.specs.Bytes.{Bytes, is_digit}

unfoldable pub hex_digit : ℕ → Option ℕ
hex_digit c =
    elim (is_digit c) [
      | true ↦ Some (c - 48)
      | false ↦
          elim (nat_le 65 c && nat_le c 70) [
            | true ↦ Some (c - 55)
            | false ↦ elim (nat_le 97 c && nat_le c 102) [ true ↦ Some (c - 87) | false ↦ None ]
          ]
    ]

-- the bytes that a name stands for, or the place of the first `#` that is wrong
pub data Decoded : Type 0 where
  decoded : Bytes → Decoded
  wrong_hash : (at : ℕ) → Decoded

-- one byte in front
unfoldable pub joined : ℕ → Decoded → Decoded
joined c (decoded cs) = decoded (c ∷ cs)
joined c (wrong_hash p) = wrong_hash p

-- where decoding stands: between bytes; behind a `#` at a place; behind that and the digit h
pub data Escape : Type 0 where
  plain : Escape
  hash : (at : ℕ) → Escape
  half : (at : ℕ) (h : ℕ) → Escape

-- the regular bytes of a name, from the place p: `#` and two hex digits give one byte, which is not 0
unfoldable pub decode : Escape → ℕ → Bytes → Decoded
decode plain p [] = decoded []
decode (hash s) p [] = wrong_hash s
decode (half s h) p [] = wrong_hash s
decode plain p (x ∷ xs) = elim (x == 35) [ true ↦ decode (hash p) (suc p) xs | false ↦ joined x (decode plain (suc p) xs) ]
decode (hash s) p (x ∷ xs) = elim (hex_digit x) [ None ↦ wrong_hash s | Some h ↦ decode (half s h) (suc p) xs ]
decode (half s h) p (x ∷ xs) =
    elim (hex_digit x) [
      | None ↦ wrong_hash s
      | Some l ↦ elim (h * 16 + l == 0) [ true ↦ wrong_hash s | false ↦ joined (h * 16 + l) (decode plain (suc p) xs) ]
    ]

-- what a proof by computation unfolds
unfoldable pub computes_names : Unit {0}
unfolding hex_digit joined decode
computes_names = tt
