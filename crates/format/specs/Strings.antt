-- Literal and hexadecimal strings (ISO 32000-1, 7.3.4).
use Rattle.std.specs.Prelude.{ℕ, zero, suc, ◌^◌, Bool, true, false, ◌||◌, [], ◌∷◌, Some, None, ◌==◌}
use Rattle.format.specs.Bytes.{Bytes, is_white}
use Rattle.format.specs.Names.{hex_digit}

-- a string, from behind its opening mark
pub data Span : Type 0 where
  -- it is closed: the place behind the closing mark, and the bytes from there
  closed : ℕ → Bytes → Span
  -- the bytes end inside it
  unclosed : Span
  -- a bracket nests too deep in it, at that place
  too_deep_at : ℕ → Span
  -- a byte that cannot stand in it
  broken_at : ℕ → Span

-- Turns of a loop that takes a byte at each: more than any bytes in memory have, so they never run out.
abbrev pub turns : ℕ
turns = 2 ^ 64

-- how a bracketed part is read from its opening bracket, at a place, on
abbrev pub Bracketed : Type 0
Bracketed = ℕ → Bytes → Span

-- what comes behind a part, if it is closed
abbrev pub onward : Span → (ℕ → Bytes → Span) → Span
onward (closed p xs) k = k p xs
onward unclosed k = unclosed
onward (too_deep_at q) k = too_deep_at q
onward (broken_at q) k = broken_at q

-- A literal string from behind its `(` to the `)` that closes it, given how a bracketed part inside is read.
-- A backslash takes the next byte with it.
unfoldable pub literal : Bracketed → (turns : ℕ) → ℕ → Bytes → Span
literal inner zero p xs = unclosed
literal inner (suc n) p [] = unclosed
literal inner (suc n) p (x ∷ xs) =
    elim (x == 41) [
      | true ↦ closed (suc p) xs
      | false ↦
          elim (x == 40) [
            | true ↦ onward (inner p xs) (λ q ys. literal inner n q ys)
            | false ↦
                elim (x == 92) [
                  | true ↦ elim xs [ [] ↦ unclosed | y ∷ ys ↦ literal inner n (suc (suc p)) ys ]
                  | false ↦ literal inner n (suc p) xs
                ]
          ]
    ]

-- A bracketed part at p, given the bytes behind its bracket, is a string one deeper: d of them may still open.
unfoldable pub string_by : ℕ → Bracketed
string_by zero p xs = too_deep_at p
string_by (suc d) p xs = literal (string_by d) turns (suc p) xs

-- a literal string whose `(` stands at p: its brackets nest at most 32 deep, the string's own being the first
unfoldable pub string : ℕ → Bytes → Span
string p xs = string_by 32 p xs

unfoldable pub is_hex : ℕ → Bool
is_hex c = elim (hex_digit c) [ None ↦ false | Some v ↦ true ]

-- a hex string from behind its `<`: hex digits and white space up to `>`
unfoldable pub hex_string : ℕ → Bytes → Span
hex_string p [] = unclosed
hex_string p (x ∷ xs) =
    elim (x == 62) [
      | true ↦ closed (suc p) xs
      | false ↦ elim (is_hex x || is_white x) [ true ↦ hex_string (suc p) xs | false ↦ broken_at p ]
    ]

-- what a proof by computation unfolds
unfoldable pub computes_strings : Unit {0}
unfolding literal string_by string is_hex hex_string
computes_strings = tt
