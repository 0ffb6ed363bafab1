-- What a reader took decides what it answers.
use Rattle.std.specs.Prelude.{◌≡◌, ℕ, ◌+◌, Bool, true, false, [], ◌∷◌, ◌++◌, length, ◌==◌}
use Rattle.format.specs.Bytes.{Bytes}

-- LF stands first
unfoldable pub begins_lf : Bytes → Bool
begins_lf [] = false
begins_lf (x ∷ xs) = x == 10

-- bytes that do not begin with LF
abbrev pub NoLf : Bytes → Type 0
NoLf ys = begins_lf ys ≡ false

-- bytes that begin with LF only if the bytes before them did: behind a last CR, another LF would be taken too
abbrev pub LfAsBefore : (rest ys : Bytes) → Type 0
LfAsBefore rest ys = begins_lf ys ≡ true → begins_lf rest ≡ true

-- any bytes
abbrev pub Any : Bytes → Type 0
Any ys = Unit {0}

-- The reader took a front of the bytes xs, from the place p to q, and left `rest`.
-- Of that front before any other bytes ys for which Q holds, it answers `out ys`.
pub record Local {R : Type 0} (reader out : Bytes → R) (Q : Bytes → Type 0) (p q : ℕ) (xs rest : Bytes) : Type 0 where
  pub pre : Bytes
  pub parts : xs ≡ pre ++ rest
  pub to : q ≡ p + length pre
  pub again : (ys : Bytes) → Q ys → reader (pre ++ ys) ≡ out ys
