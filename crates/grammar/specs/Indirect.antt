-- An object in the file, and a body that is put (ISO 32000-1, 7.3.10).
use Rattle.std.specs.Prelude.{◌≡◌, ℕ, ◌+◌, true, false, [], ◌∷◌, ◌++◌, length, pos, codes, ◌≢◌}
use Rattle.format.specs.Bytes.{Bytes, is_white}
use Rattle.format.specs.Frames.{Framed}
use Rattle.format.specs.Objects.{Obj}
use Rattle.format.specs.Tokens.{int, word}
use Rattle.grammar.specs.Gaps.{Gap}
use Rattle.grammar.specs.Lexing.{Lexeme, Lexes}
use Rattle.grammar.specs.Streams.{BodyAt}

-- bytes that begin with no white space and no comment
pub data Solid : Bytes → Type 0 where
  solid : {c : ℕ} {xs : Bytes} → is_white c ≡ false → (c ≢ 37) → Solid (c ∷ xs)

-- From the place p the bytes xs begin with the object r of the file, which ends at the place q, where the bytes are rest.
pub record IndirectAt (p : ℕ) (xs : Bytes) (r : Framed) (q : ℕ) (rest : Bytes) : Type 0 where
  -- the object number, the generation number and the keyword `obj`. House rule: they begin right at the place.
  pub number : Lexeme
  pub gen : Lexeme
  pub keyword : Lexeme
  pub place : ℕ
  pub bytes : Bytes
  pub begins : Lexes p xs (number ∷ gen ∷ keyword ∷ []) place bytes
  pub at_once : number.lead ≡ []
  pub number_is : number.kind ≡ int true (pos r.number)
  pub gen_is : gen.kind ≡ int true (pos r.gen)
  pub keyword_is : keyword.kind ≡ word (codes "obj")
  -- the body, an object or a stream, from its first byte to its last
  pub lead : Bytes
  pub object : Obj
  pub to : ℕ
  pub left : Bytes
  pub gap : Gap lead
  pub parts : bytes ≡ lead ++ (r.body ++ left)
  pub first : Solid r.body
  pub starts : r.start ≡ place + length lead
  pub body : BodyAt r.start (r.body ++ left) object to left
  -- the keyword `endobj`
  pub close : Lexeme
  pub closes : Lexes to left (close ∷ []) q rest
  pub close_is : close.kind ≡ word (codes "endobj")

-- a body that is put: one object or stream, from its first byte to its last
pub record WholeBody (b : Bytes) : Type 0 where
  pub object : Obj
  pub first : Solid b
  pub body : BodyAt 0 b object (length b) []
