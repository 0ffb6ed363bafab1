-- What a token reader took decides what it answers.
use Rattle.std.specs.Prelude.{◌≡◌, ℕ, ◌+◌, Bool, true, false, not, [], ◌∷◌, ◌++◌, length}
use Rattle.format.specs.Bytes.{Bytes, is_regular}
use Rattle.format.specs.Tokens.{Kind, int, real, name, text, hex, mark, word, ended, flawed, Token, tok, token_at}

-- the bytes end, or the next byte does not pass the test
unfoldable pub stops : (ℕ → Bool) → Bytes → Bool
stops f [] = true
stops f (y ∷ ys) = not (f y)

-- there is a token: neither the end nor a flaw
unfoldable pub Good : Kind → Type 0
Good (int u z) = Unit {0}
Good (real w) = Unit {0}
Good (name d) = Unit {0}
Good (text w) = Unit {0}
Good (hex w) = Unit {0}
Good (mark m) = Unit {0}
Good (word w) = Unit {0}
Good ended = ⊥
Good (flawed f) = ⊥

-- a token that a regular byte behind it would lengthen: a number, a name or a word
unfoldable pub is_run : Kind → Bool
is_run (int u z) = true
is_run (real w) = true
is_run (name d) = true
is_run (word w) = true
is_run (text w) = false
is_run (hex w) = false
is_run (mark m) = false
is_run ended = false
is_run (flawed f) = false

-- the bytes ys do not lengthen a token of that kind
abbrev pub Fits : Kind → Bytes → Type 0
Fits k ys = is_run k ≡ true → stops is_regular ys ≡ true

-- The token t, read where the bytes are xs: the white space and comments before it, its own bytes, and the bytes behind it.
-- Before any other bytes that do not lengthen it, from any place, the reader takes the same bytes and answers the same kind.
pub record Taken (xs : Bytes) (t : Token) : Type 0 where
  pub gap : Bytes
  pub core : Bytes
  pub parts : xs ≡ gap ++ (core ++ t.rest)
  pub held : t.bytes ≡ core ++ t.rest
  pub again : (p : ℕ) (ys : Bytes) → Fits t.kind ys → token_at p (gap ++ (core ++ ys)) ≡ tok t.kind (p + length gap) (core ++ ys) (p + length gap + length core) ys

-- The token t, read at the place p: what was taken, where it stands, and that the bytes behind it do not lengthen it.
pub record LocalToken (p : ℕ) (xs : Bytes) (t : Token) : Type 0 where
  pub taken : Taken xs t
  pub starts : t.from ≡ p + length taken.gap
  pub ends : t.to ≡ p + length taken.gap + length taken.core
  pub fits : Fits t.kind t.rest

-- what a token reader took decides what it answers
abbrev pub TokensAreLocal : Type 0
TokensAreLocal = (p : ℕ) (xs : Bytes) → Good (token_at p xs).kind → LocalToken p xs (token_at p xs)
