-- An object in the file: its number, its generation and `obj`, its body, and `endobj` (ISO 32000-1, 7.3.10).
use Rattle.std.specs.Prelude.{◌≡◌, ℕ, ◌+◌, true, false, [], ◌∷◌, ◌++◌, length, pos, codes, nat_eq}
use Rattle.format.specs.Bytes.{Bytes, is_white}
use Rattle.format.specs.Objects.{Obj}
use Rattle.format.specs.Tokens.{int, word}
use Rattle.grammar.specs.Gaps.{Gap}
use Rattle.grammar.specs.Lexing.{Lexeme, Lexes}
use Rattle.grammar.specs.Streams.{BodyAt}

-- bytes that begin with neither white space nor `%`
pub record Solid (xs : Bytes) : Type 0 where
  pub first : ℕ
  pub others : Bytes
  pub is : xs ≡ first ∷ others
  pub black : is_white first ≡ false
  pub plain : nat_eq first 37 ≡ false

-- From the place `at` the bytes xs begin with the object of that number, generation and body.
pub record ObjectBytes (at n g : ℕ) (body xs : Bytes) : Type 0 where
  -- its number, right at the place, its generation and `obj`
  pub number : Lexeme
  pub generation : Lexeme
  pub keyword : Lexeme
  pub place : ℕ
  pub bytes : Bytes
  pub begins : Lexes at xs (number ∷ generation ∷ keyword ∷ []) place bytes
  pub stands : number.from ≡ at
  pub bears : number.kind ≡ int true (pos n)
  pub dated : generation.kind ≡ int true (pos g)
  pub opens : keyword.kind ≡ word (codes "obj")
  -- its body, an object or a stream, from its first byte to its last
  pub lead : Bytes
  pub leads : Gap lead
  pub behind : Bytes
  pub parts : bytes ≡ lead ++ (body ++ behind)
  pub solid : Solid body
  pub object : Obj
  pub spelled : BodyAt (place + length lead) (body ++ behind) object (place + length lead + length body) behind
  -- `endobj`
  pub last : Lexeme
  pub end : ℕ
  pub rest : Bytes
  pub ends : Lexes (place + length lead + length body) behind (last ∷ []) end rest
  pub closes : last.kind ≡ word (codes "endobj")
