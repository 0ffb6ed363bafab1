-- Reading a section depends on its own bytes only.
use Rattle.std.specs.Prelude.{◌≡◌, ℕ, ◌+◌, ◌≤◌, ◌∷◌, ◌++◌, length, Some}
use Rattle.format.specs.Bytes.{Bytes, ok}
use Rattle.format.specs.Objects.{Entries}
use Rattle.format.specs.Sections.{Section, section, trailer_at, last_offset}
use Rattle.format.specs.Tokens.{token_at}
use Rattle.sections.specs.Reading.{LfAsBefore, Any, Local}

-- The trailer that was read is read again of its own bytes, whatever follows them.
abbrev pub TrailersAreLocal : Type 0
TrailersAreLocal =
    (p : ℕ) (xs : Bytes) (t : ℕ × Entries) (q : ℕ) (rest : Bytes) → trailer_at (token_at p xs) ≡ ok t q rest →
    Local (λ ys. trailer_at (token_at p ys)) (ok t q) Any p q xs rest

-- the section s that was read from the offset on, down to `rest`
pub record SectionTaken (off : ℕ) (xs : Bytes) (s : Section) (e : ℕ) (rest : Bytes) : Type 0 where
  -- its own bytes
  pub pre : Bytes
  pub parts : xs ≡ pre ++ rest
  pub to : e ≡ off + length pre
  pub long : 20 ≤ length pre
  -- it begins with `x`
  pub first : (ys : Bytes) × (pre ≡ 120 ∷ ys)
  pub offset : s.offset ≡ off
  pub end : s.end ≡ e
  -- it is read again of its own bytes, unless LF follows them where none did: that would belong to a CR at its end
  pub again : (ys : Bytes) → LfAsBefore rest ys → section off (pre ++ ys) ≡ ok s e ys
  -- where it ends the file, its offset is found from the end
  pub found : (before : Bytes) → last_offset (before ++ pre) ≡ Some off

-- A section that was read is read again of its own bytes, and its offset is found from their end.
abbrev pub SectionsAreLocal : Type 0
SectionsAreLocal =
    (off : ℕ) (xs : Bytes) (s : Section) (e : ℕ) (rest : Bytes) → section off xs ≡ ok s e rest → SectionTaken off xs s e rest
