-- Bytes as tokens with white space and comments around them (ISO 32000-1, 7.2).
use Rattle.std.specs.Prelude.{ℕ, ◌+◌, List, [], ◌∷◌, ◌++◌, length}
use Rattle.format.specs.Bytes.{Bytes}
use Rattle.format.specs.Tokens.{Kind}
use Rattle.locality.specs.Locality.{Fits}
use Rattle.grammar.specs.Gaps.{Gap, LastGap}
use Rattle.grammar.specs.Spellings.{Spelled}

-- a token: what it is, the bytes before it, its place and its own bytes
pub record Lexeme : Type 0 where
  pub kind : Kind
  pub lead : Bytes
  pub from : ℕ
  pub own : Bytes

abbrev pub lexeme : Kind → Bytes → ℕ → Bytes → Lexeme
lexeme k g p w = record { kind = k; lead = g; from = p; own = w }

-- From the place p the bytes xs begin with those tokens, and behind them, from the place q, are the bytes rest.
-- A number, a name or a word is not cut short: no regular byte follows it (`Fits`).
pub data Lexes : ℕ → Bytes → List Lexeme → ℕ → Bytes → Type 0 where
  none : {p : ℕ} {xs : Bytes} → Lexes p xs [] p xs
  token : {p q : ℕ} {k : Kind} {g w ys rest : Bytes} {ts : List Lexeme} →
      Gap g → Spelled k w → Fits k ys → Lexes (p + length g + length w) ys ts q rest →
      Lexes p (g ++ (w ++ ys)) (lexeme k g (p + length g) w ∷ ts) q rest

-- The bytes xs are those tokens with white space and comments around them.
pub record Lexed (p : ℕ) (xs : Bytes) (ts : List Lexeme) : Type 0 where
  pub to : ℕ
  pub rest : Bytes
  pub tokens : Lexes p xs ts to rest
  pub last : LastGap rest
