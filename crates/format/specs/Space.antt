-- White space, comments and ends of line (ISO 32000-1, 7.2.2 to 7.2.4).
use Rattle.std.specs.Prelude.{ℕ, suc, Bool, true, false, [], ◌∷◌, ◌==◌}
use Rattle.format.specs.Bytes.{Bytes, is_white, is_eol}

-- Behind white space and comments: the place and the bytes from there.
-- The flag tells that a comment is open: it runs from `%` to before the next end of line.
unfoldable pub skip : Bool → ℕ → Bytes → (ℕ × Bytes)
skip c p [] = (p, [])
skip true p (x ∷ xs) = elim (is_eol x) [ true ↦ skip false (suc p) xs | false ↦ skip true (suc p) xs ]
skip false p (x ∷ xs) =
    elim (is_white x) [
      | true ↦ skip false (suc p) xs
      | false ↦ elim (x == 37) [ true ↦ skip true (suc p) xs | false ↦ (p, x ∷ xs) ]
    ]

-- An end of line is CR LF, LF, or CR with no LF behind it; a CR that is the last byte to be seen is one too.
pub data Eol : Type 0 where
  -- the bytes end before it
  no_bytes : Eol
  -- something else stands there
  no_eol : Eol
  -- the place behind it and the bytes from there
  eol_to : ℕ → Bytes → Eol

-- behind a CR
unfoldable pub after_cr : ℕ → Bytes → Eol
after_cr p [] = eol_to p []
after_cr p (x ∷ xs) = elim (x == 10) [ true ↦ eol_to (suc p) xs | false ↦ eol_to p (x ∷ xs) ]

unfoldable pub eol_at : ℕ → Bytes → Eol
eol_at p [] = no_bytes
eol_at p (x ∷ xs) =
    elim (x == 10) [
      | true ↦ eol_to (suc p) xs
      | false ↦ elim (x == 13) [ true ↦ after_cr (suc p) xs | false ↦ no_eol ]
    ]

-- what a proof by computation unfolds
unfoldable pub computes_space : Unit {0}
unfolding skip after_cr eol_at
computes_space = tt
