-- What an object reader took decides what it answers.
use Rattle.std.specs.Prelude.{◌≡◌, ℕ, ◌+◌, Bool, true, false, ◌++◌, length, None, codes}
use Rattle.format.specs.Bytes.{Bytes, ok, is_regular}
use Rattle.format.specs.Objects.{Obj, null, boolean, integer, decimal, literal, hexadecimal, named, array, dict, ref, ref_rest, object_by}
use Rattle.format.specs.Tokens.{token_at}
use Rattle.locality.specs.Locality.{stops}

-- the word that ends a reference
abbrev pub R : Bytes
R = codes "R"

-- objects whose last token a regular byte would lengthen
unfoldable pub ends_run : Obj → Bool
ends_run null = true
ends_run (boolean b) = true
ends_run (integer z) = true
ends_run (decimal w) = true
ends_run (named d) = true
ends_run (literal w) = false
ends_run (hexadecimal w) = false
ends_run (array os) = false
ends_run (dict es) = false
ends_run (ref n g) = true

-- an integer, which a generation and `R` behind it would make a reference
unfoldable pub is_number : Obj → Bool
is_number null = false
is_number (boolean b) = false
is_number (integer z) = true
is_number (decimal w) = false
is_number (named d) = false
is_number (literal w) = false
is_number (hexadecimal w) = false
is_number (array os) = false
is_number (dict es) = false
is_number (ref n g) = false

-- no generation and `R` stand next
abbrev pub NoRef : Bytes → Type 0
NoRef ys = (n p : ℕ) → ref_rest n (token_at p ys) ≡ None

-- Bytes that do not lengthen the object o: no regular byte behind a number, a name, a word or a reference, and no generation and `R` behind an integer.
pub record After (o : Obj) (ys : Bytes) : Type 0 where
  pub run : ends_run o ≡ true → stops is_regular ys ≡ true
  pub alone : is_number o ≡ true → NoRef ys

-- The object o, read from the place p, where the bytes are xs, up to the place q: the bytes that were taken.
-- Before any other bytes that do not lengthen it, from any place, the reader takes the same bytes and answers the same object.
pub record LocalObject (d p : ℕ) (xs : Bytes) (o : Obj) (q : ℕ) (rest : Bytes) : Type 0 where
  pub taken : Bytes
  pub parts : xs ≡ taken ++ rest
  pub ends : q ≡ p + length taken
  pub fits : ends_run o ≡ true → stops is_regular rest ≡ true
  pub again : (p' : ℕ) (ys : Bytes) → After o ys → object_by d p' (taken ++ ys) ≡ ok o (p' + length taken) ys

-- what an object reader took decides what it answers
abbrev pub ObjectsAreLocal : Type 0
ObjectsAreLocal = (d p : ℕ) (xs : Bytes) (o : Obj) (q : ℕ) (rest : Bytes) → object_by d p xs ≡ ok o q rest → LocalObject d p xs o q rest
