-- Streams (ISO 32000-1, 7.3.8).
use Rattle.std.specs.Prelude.{◌≡◌, ℕ, ◌+◌, true, [], ◌∷◌, ◌++◌, length, pos, codes, ◌≢◌}
use Rattle.format.specs.Bytes.{Bytes, is_regular}
use Rattle.format.specs.Objects.{Obj, integer, dict, Entries, more_entries}
use Rattle.format.specs.Tokens.{word}
use Rattle.locality.specs.Locality.{stops}
use Rattle.grammar.specs.Lexing.{Lexeme, Lexes}
use Rattle.grammar.specs.Trees.{SpelledAt}

-- 7.3.8.1: behind `stream` stands LF or CR LF, and not CR alone
pub data FirstLine : Bytes → Type 0 where
  lf : FirstLine (10 ∷ [])
  crlf : FirstLine (13 ∷ 10 ∷ [])

-- 7.3.8.1: before `endstream` there should be an end of line
pub data LastLine : Bytes → Type 0 where
  none : LastLine []
  lf : LastLine (10 ∷ [])
  cr : LastLine (13 ∷ [])
  crlf : LastLine (13 ∷ 10 ∷ [])

-- the value of a key
pub data ValueOf (k : Bytes) (v : Obj) : Entries → Type 0 where
  here : {kb vb : Bytes} {es : Entries} → ValueOf k v (more_entries k kb vb v es)
  further : {j jb wb : Bytes} {o : Obj} {es : Entries} → (k ≢ j) → ValueOf k v es → ValueOf k v (more_entries j jb wb o es)

-- From the place p, behind a dictionary with the entries es, the bytes xs begin with the rest of a stream, which ends at the place q, where the bytes are rest.
pub record StreamAt (es : Entries) (p : ℕ) (xs : Bytes) (q : ℕ) (rest : Bytes) : Type 0 where
  -- the keyword `stream`
  pub keyword : Lexeme
  pub place : ℕ
  pub bytes : Bytes
  pub begins : Lexes p xs (keyword ∷ []) place bytes
  pub is : keyword.kind ≡ word (codes "stream")
  -- an end of line, the data, an optional end of line, and the keyword `endstream`
  pub line : Bytes
  pub content : Bytes
  pub last : Bytes
  pub parts : bytes ≡ line ++ (content ++ (last ++ (codes "endstream" ++ rest)))
  pub first : FirstLine line
  pub final : LastLine last
  pub whole : stops is_regular rest ≡ true
  pub ends : q + length rest ≡ place + length bytes
  -- 7.3.8.2: Length is the number of bytes of the data. House rule: it is a direct integer.
  pub sized : ValueOf (codes "Length") (integer (pos (length content))) es

-- From the place p the bytes xs begin with an object or a stream, whose dictionary is o.
pub data BodyAt (p : ℕ) (xs : Bytes) (o : Obj) (q : ℕ) (rest : Bytes) : Type 0 where
  -- an object; behind a dictionary no keyword `stream` stands
  direct : SpelledAt p xs o q rest → ((es : Entries) (t : Lexeme) (r : ℕ) (ys : Bytes) → o ≡ dict es → Lexes q rest (t ∷ []) r ys → t.kind ≢ word (codes "stream")) → BodyAt p xs o q rest
  stream : {es : Entries} {r : ℕ} {ys : Bytes} → o ≡ dict es → SpelledAt p xs o r ys → StreamAt es r ys q rest → BodyAt p xs o q rest
