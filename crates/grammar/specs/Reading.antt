-- That the readers accept just what is spelled. What a reader is has its definition in crate format; no relation cites it.
use Rattle.std.specs.Prelude.{◌≡◌, ℕ, zero, suc, ◌<◌, List, [], ◌∷◌, ◌++◌, length, Some, None, Option}
use Rattle.format.specs.Bytes.{Bytes, ok, up_to}
use Rattle.format.specs.Frames.{Framed, body_at, frame, body_fault}
use Rattle.format.specs.Objects.{Obj, object}
use Rattle.format.specs.Strings.{turns}
use Rattle.format.specs.Tokens.{Kind, int, real, name, text, hex, mark, word, ended, flawed, Token, token_at}
use Rattle.grammar.specs.Indirect.{IndirectAt, WholeBody}
use Rattle.grammar.specs.Lexing.{Lexeme, lexeme, Lexed}
use Rattle.grammar.specs.Streams.{BodyAt}
use Rattle.grammar.specs.Trees.{Spells, SpelledAt}

-- what the reader meets at a place
pub data Met : Type 0 where
  token : Met
  the_end : Met
  a_flaw : Met

unfoldable pub met : Kind → Met
met (int u z) = token
met (real w) = token
met (name d) = token
met (text w) = token
met (hex w) = token
met (mark m) = token
met (word w) = token
met ended = the_end
met (flawed f) = a_flaw

-- the token t, read from the place p, where the bytes are xs
abbrev pub lexeme_of : ℕ → Bytes → Token → Lexeme
lexeme_of p xs t = lexeme t.kind (up_to p xs t.from) t.from (up_to t.from t.bytes t.to)

-- one token before others
unfoldable pub before : Lexeme → Option (List Lexeme) → Option (List Lexeme)
before t None = None
before t (Some ts) = Some (t ∷ ts)

-- the tokens that the reader answers, from place to place until the bytes end
unfoldable pub tokens_in : (turns : ℕ) → ℕ → Bytes → Option (List Lexeme)
tokens_in zero p xs = None
tokens_in (suc n) p xs =
    elim (met (token_at p xs).kind) [
      | token ↦ before (lexeme_of p xs (token_at p xs)) (tokens_in n (token_at p xs).to (token_at p xs).rest)
      | the_end ↦ Some []
      | a_flaw ↦ None
    ]

-- each token takes a byte, so one turn more than there are bytes is enough
unfoldable pub tokens_of : ℕ → Bytes → Option (List Lexeme)
tokens_of p xs = tokens_in (suc (length xs)) p xs

-- The reader answers just those tokens of which the bytes are made.
pub record TokensAreSpelled : Type 0 where
  pub sound : (p : ℕ) (xs : Bytes) (ts : List Lexeme) → tokens_of p xs ≡ Some ts → Lexed p xs ts
  -- of bytes that fit in memory
  pub complete : (p : ℕ) (xs : Bytes) (ts : List Lexeme) → length xs < turns → Lexed p xs ts → tokens_of p xs ≡ Some ts
  -- so they are made of one list of tokens at most
  pub unique : (p : ℕ) (xs : Bytes) (ts us : List Lexeme) → length xs < turns → Lexed p xs ts → Lexed p xs us → ts ≡ us

-- The reader accepts just those objects that are spelled, of bytes that fit in memory.
pub record ObjectsAreSpelled : Type 0 where
  pub sound : (p : ℕ) (xs : Bytes) (o : Obj) (q : ℕ) (rest : Bytes) → length xs < turns → object p xs ≡ ok o q rest → SpelledAt p xs o q rest
  pub complete : (p : ℕ) (xs : Bytes) (o : Obj) (q : ℕ) (rest : Bytes) → length xs < turns → SpelledAt p xs o q rest → object p xs ≡ ok o q rest
  -- the same tokens begin with one object at most, and it ends at one of them
  pub unique : (d e : ℕ) (o v : Obj) (ts vs us ws : List Lexeme) → Spells d o ts us → Spells e v vs ws → ts ++ us ≡ vs ++ ws → (o ≡ v) × (ts ≡ vs)

-- The reader accepts just those objects and streams, of bytes that fit in memory.
pub record StreamsAreSpelled : Type 0 where
  pub sound : (p : ℕ) (xs : Bytes) (o : Obj) (q : ℕ) (rest : Bytes) → length xs < turns → body_at p xs ≡ ok o q rest → BodyAt p xs o q rest
  pub complete : (p : ℕ) (xs : Bytes) (o : Obj) (q : ℕ) (rest : Bytes) → length xs < turns → BodyAt p xs o q rest → body_at p xs ≡ ok o q rest

-- The readers accept just those objects in the file and just those bodies, of bytes that fit in memory.
pub record IndirectObjectsAreSpelled : Type 0 where
  pub sound : (p : ℕ) (xs : Bytes) (r : Framed) (q : ℕ) (rest : Bytes) → length xs < turns → frame p xs ≡ ok r q rest → IndirectAt p xs r q rest
  pub complete : (p : ℕ) (xs : Bytes) (r : Framed) (q : ℕ) (rest : Bytes) → length xs < turns → IndirectAt p xs r q rest → frame p xs ≡ ok r q rest
  pub body_sound : (b : Bytes) → length b < turns → body_fault b ≡ None → WholeBody b
  pub body_complete : (b : Bytes) → length b < turns → WholeBody b → body_fault b ≡ None
