-- White space and comments (ISO 32000-1, 7.2.2 and 7.2.3).
use Rattle.std.specs.Prelude.{◌≡◌, ℕ, Bool, true, not, [], ◌∷◌, ◌++◌}
use Rattle.format.specs.Bytes.{Bytes, is_white, is_eol, every}

-- 7.2.3: a byte of a comment is any but CR and LF
unfoldable pub in_comment : ℕ → Bool
in_comment c = not (is_eol c)

-- what may stand before a token
pub data Gap : Bytes → Type 0 where
  none : Gap []
  -- 7.2.2: a white-space byte
  white : {c : ℕ} {g : Bytes} → is_white c ≡ true → Gap g → Gap (c ∷ g)
  -- 7.2.3: a comment is `%` and the bytes up to the end of the line
  comment : (c : Bytes) (e : ℕ) {g : Bytes} → every in_comment c ≡ true → is_eol e ≡ true → Gap g → Gap (37 ∷ (c ++ (e ∷ g)))

-- what may stand behind the last token
pub data LastGap : Bytes → Type 0 where
  ended : {g : Bytes} → Gap g → LastGap g
  -- the bytes may end in a comment
  unended : {g : Bytes} (c : Bytes) → Gap g → every in_comment c ≡ true → LastGap (g ++ (37 ∷ c))
