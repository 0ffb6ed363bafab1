-- How each kind of token is spelled (ISO 32000-1, 7.2.2 and 7.3).
use Rattle.std.specs.Prelude.{◌≡◌, ℕ, suc, ◌+◌, ◌*◌, ◌≤◌, Bool, true, false, [], ◌∷◌, ◌++◌, length, ℤ, pos, ◌==◌}
use Rattle.format.specs.Bytes.{Bytes, is_white, is_regular, is_digit, every, value}
use Rattle.format.specs.Numbers.{starts_number, negated}
use Rattle.format.specs.Tokens.{Kind, int, real, name, text, hex, mark, word, open_array, close_array, open_dict, close_dict}

-- one or more decimal digits
pub data Digits : Bytes → Type 0 where
  digits : {d : ℕ} {ds : Bytes} → every is_digit (d ∷ ds) ≡ true → Digits (d ∷ ds)

-- 7.3.3: an integer is one or more digits with an optional sign. House rule: it is from -2147483648 to 2147483647.
pub data Integer : (unsigned : Bool) → ℤ → Bytes → Type 0 where
  unsigned : {ds : Bytes} → Digits ds → value ds ≤ 2147483647 → Integer true (pos (value ds)) ds
  plus : {ds : Bytes} → Digits ds → value ds ≤ 2147483647 → Integer false (pos (value ds)) (43 ∷ ds)
  minus : {ds : Bytes} → Digits ds → value ds ≤ 2147483648 → Integer false (negated (value ds)) (45 ∷ ds)

-- 7.3.3: one or more digits with a leading, trailing or embedded period
pub data Pointed : Bytes → Type 0 where
  point : (ds es : Bytes) → every is_digit ds ≡ true → every is_digit es ≡ true → 1 ≤ length ds + length es → Pointed (ds ++ (46 ∷ es))

-- 7.3.3: a real has an optional sign
pub data Real : Bytes → Type 0 where
  unsigned : {w : Bytes} → Pointed w → Real w
  plus : {w : Bytes} → Pointed w → Real (43 ∷ w)
  minus : {w : Bytes} → Pointed w → Real (45 ∷ w)

-- a hexadecimal digit and its value
pub data HexDigit : ℕ → ℕ → Type 0 where
  digit : {v : ℕ} → v ≤ 9 → HexDigit (48 + v) v
  upper : {v : ℕ} → v ≤ 5 → HexDigit (65 + v) (10 + v)
  lower : {v : ℕ} → v ≤ 5 → HexDigit (97 + v) (10 + v)

-- 7.3.5: the bytes of a name behind its `/`, and the bytes that they stand for
pub data Name : Bytes → Bytes → Type 0 where
  none : Name [] []
  -- a regular byte but `#` stands for itself
  byte : {c : ℕ} {w d : Bytes} → is_regular c ≡ true → (c == 35) ≡ false → Name w d → Name (c ∷ w) (c ∷ d)
  -- `#` and two hexadecimal digits stand for a byte, which is not 0
  code : {a b h l : ℕ} {w d : Bytes} → HexDigit a h → HexDigit b l → 1 ≤ h * 16 + l → Name w d → Name (35 ∷ a ∷ b ∷ w) ((h * 16 + l) ∷ d)

-- 7.3.4.2: what stands between the brackets of a literal string. House rule: in it brackets nest at most d deep.
pub data Balanced : ℕ → Bytes → Type 0 where
  none : {d : ℕ} → Balanced d []
  byte : {d c : ℕ} {w : Bytes} → (c == 40) ≡ false → (c == 41) ≡ false → (c == 92) ≡ false → Balanced d w → Balanced d (c ∷ w)
  -- a backslash takes the next byte with it
  escape : {d c : ℕ} {w : Bytes} → Balanced d w → Balanced d (92 ∷ c ∷ w)
  -- balanced brackets need no backslash
  part : {d : ℕ} {v w : Bytes} → Balanced d v → Balanced (suc d) w → Balanced (suc d) (40 ∷ (v ++ (41 ∷ w)))

-- 7.3.4.3: what stands between `<` and `>`: hexadecimal digits and white space
pub data HexBytes : Bytes → Type 0 where
  none : HexBytes []
  digit : {a v : ℕ} {w : Bytes} → HexDigit a v → HexBytes w → HexBytes (a ∷ w)
  white : {c : ℕ} {w : Bytes} → is_white c ≡ true → HexBytes w → HexBytes (c ∷ w)

-- A token and its bytes. A real and a string are told by their bytes, a name by those that it stands for.
pub data Spelled : Kind → Bytes → Type 0 where
  integer : {u : Bool} {z : ℤ} {w : Bytes} → Integer u z w → Spelled (int u z) w
  decimal : {w : Bytes} → Real w → Spelled (real w) w
  named : {w d : Bytes} → Name w d → Spelled (name d) (47 ∷ w)
  -- the string's own brackets are the first of 32
  literal : {w : Bytes} → Balanced 31 w → Spelled (text (40 ∷ (w ++ (41 ∷ [])))) (40 ∷ (w ++ (41 ∷ [])))
  hexadecimal : {w : Bytes} → HexBytes w → Spelled (hex (60 ∷ (w ++ (62 ∷ [])))) (60 ∷ (w ++ (62 ∷ [])))
  -- 7.3.6 and 7.3.7: `[`, `]`, `<<` and `>>`
  array_opens : Spelled (mark open_array) (91 ∷ [])
  array_closes : Spelled (mark close_array) (93 ∷ [])
  dict_opens : Spelled (mark open_dict) (60 ∷ 60 ∷ [])
  dict_closes : Spelled (mark close_dict) (62 ∷ 62 ∷ [])
  -- 7.2.2: any other regular bytes, of which the first is no digit, sign or period
  keyword : {c : ℕ} {w : Bytes} → every is_regular (c ∷ w) ≡ true → starts_number c ≡ false → Spelled (word (c ∷ w)) (c ∷ w)
