-- What the theorems on chains of sections take from the readers: a section is decided by the bytes that it takes.
use Rattle.std.specs.Prelude.{◌≡◌, ℕ, ◌+◌, ◌≤◌, ◌++◌, length, Some}
use Rattle.format.specs.Bytes.{Bytes, ok}
use Rattle.format.specs.Sections.{Section, section, last_offset}
use Rattle.sections.specs.Reading.{LfAsBefore}

-- A section read at `off` from xs down to rest took the bytes `pre`, at least 20.
-- Before any bytes ys it reads the same, unless ys begins with LF where rest did not: behind a last CR, an LF would be taken too.
pub record Taken (off : ℕ) (xs : Bytes) (s : Section) (e : ℕ) (rest : Bytes) : Type 0 where
  pub pre : Bytes
  pub parts : xs ≡ pre ++ rest
  pub ends : e ≡ off + length pre
  pub long : 20 ≤ length pre
  pub again : (ys : Bytes) → LfAsBefore rest ys → section off (pre ++ ys) ≡ ok s e ys

-- the bytes behind a section do not decide it
abbrev pub SectionLocal : Type 0
SectionLocal = (off : ℕ) (xs : Bytes) (s : Section) (e : ℕ) (rest : Bytes) → section off xs ≡ ok s e rest → Taken off xs s e rest

-- a file that ends with the bytes of a section has its tail, which gives the section's offset
abbrev pub TailFound : Type 0
TailFound =
    (off : ℕ) (pre rest : Bytes) (s : Section) (e : ℕ) → section off (pre ++ rest) ≡ ok s e rest →
    (before : Bytes) → last_offset (before ++ pre) ≡ Some off

pub record Needed : Type 0 where
  pub local : SectionLocal
  pub found : TailFound
