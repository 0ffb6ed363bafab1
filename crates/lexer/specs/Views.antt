-- Tokens as the definitions say them.
use Rattle.std.specs.Prelude.{◌≡◌, ℕ, suc, ◌<◌, ◌≤◌, true, false, ◌∷◌, length, drop, pos, Some, None, Ok, Err, Option, Result, slice_index}
use Rattle.faults.specs.declared.fault.Fault.{Fault}
use Rattle.format.specs.Bytes.{Bytes}
use Rattle.format.specs.Tokens as format
use Rattle.format.specs.Tokens.{tok, flaw_fault, token_at}
use Rattle.lexer.specs.declared.flaw.Flaw.{Flaw}
use Rattle.lexer.specs.declared.token.Found.{Found}
use Rattle.lexer.specs.declared.token.Token.{Token}
use Rattle.lexer.specs.declared.token.Token.TheVariants.{Unsigned, Signed, Real, Name, Text, Hex, Word, OpenArray, CloseArray, OpenDict, CloseDict, End}
use Rattle.lexer.specs.Flaws.{flaw_shown}
use Rattle.lexer.specs.Spelled.{spelled}

-- what a token of the code is
abbrev pub kind_of : Token → format.Kind
kind_of (Unsigned n) = format.int true (pos n)
kind_of (Signed z) = format.int false z
kind_of (Real s) = format.real s.now
kind_of (Name s) = format.name (spelled s.now)
kind_of (Text s) = format.text s.now
kind_of (Hex s) = format.hex s.now
kind_of (Word s) = format.word s.now
kind_of OpenArray = format.mark format.open_array
kind_of CloseArray = format.mark format.close_array
kind_of OpenDict = format.mark format.open_dict
kind_of CloseDict = format.mark format.close_dict
kind_of End = format.ended

-- the byte at p of src, and the others behind it
abbrev pub bytes_at : Bytes → ℕ → Bytes
bytes_at src p = slice_index src p ∷ drop (suc p) src

-- the token t that stands at p, where a byte is, is what was read: the token and the place behind it, or the flaw
abbrev pub Reads : Bytes → ℕ → format.Token → Result (Token × ℕ) Flaw → Type 0
Reads src p t (Ok x) = t ≡ tok (kind_of x.0) p (bytes_at src p) x.1 (drop x.1 src)
Reads src p t (Err f) = (t.from ≡ p) × (t.kind ≡ format.flawed (flaw_shown f))

-- a token takes a byte
abbrev pub Took : Token → ℕ → ℕ → Type 0
Took (Unsigned n) p q = p < q
Took (Signed z) p q = p < q
Took (Real s) p q = p < q
Took (Name s) p q = p < q
Took (Text s) p q = p < q
Took (Hex s) p q = p < q
Took (Word s) p q = p < q
Took OpenArray p q = p < q
Took CloseArray p q = p < q
Took OpenDict p q = p < q
Took CloseDict p q = p < q
Took End p q = ⊥

-- it takes a byte, and none past the end
abbrev pub Takes : Bytes → ℕ → Result (Token × ℕ) Flaw → Type 0
Takes src p (Ok x) = Took x.0 p x.1 × (x.1 ≤ length src)
Takes src p (Err f) = Unit {0}

-- what was found, as the definition's token of the bytes src
abbrev pub found_token : Bytes → Found → format.Token
found_token src f = tok (kind_of f.token) f.from (drop f.from src) f.to (drop f.to src)

-- the fault of a token that starts at p and cannot be read
abbrev pub kind_fault : ℕ → format.Kind → Option Fault
kind_fault p (format.int u z) = None
kind_fault p (format.real w) = None
kind_fault p (format.name d) = None
kind_fault p (format.text w) = None
kind_fault p (format.hex w) = None
kind_fault p (format.mark m) = None
kind_fault p (format.word w) = None
kind_fault p format.ended = None
kind_fault p (format.flawed f) = Some (flaw_fault p f)

abbrev pub token_fault_of : format.Token → Option Fault
token_fault_of t = kind_fault t.from t.kind

-- the next token from p on is what was found, or has the fault
abbrev pub Tells : Bytes → ℕ → Result Found Fault → Type 0
Tells src p (Ok f) = token_at p (drop p src) ≡ found_token src f
Tells src p (Err x) = token_fault_of (token_at p (drop p src)) ≡ Some x

-- from a token's first place to the place behind it: every token but the end takes a byte, and the end stands at n
abbrev pub Moves : Token → ℕ → ℕ → ℕ → Type 0
Moves (Unsigned k) p q n = p < q
Moves (Signed z) p q n = p < q
Moves (Real s) p q n = p < q
Moves (Name s) p q n = p < q
Moves (Text s) p q n = p < q
Moves (Hex s) p q n = p < q
Moves (Word s) p q n = p < q
Moves OpenArray p q n = p < q
Moves CloseArray p q n = p < q
Moves OpenDict p q n = p < q
Moves CloseDict p q n = p < q
Moves End p q n = (p ≡ n) × (q ≡ n)

-- where a token that was looked for from p on stands
pub record Placed (src : Bytes) (p : ℕ) (f : Found) : Type 0 where
  pub starts : p ≤ f.from
  pub ends : f.from ≤ f.to
  pub inside : f.to ≤ length src
  pub moves : Moves f.token f.from f.to (length src)

abbrev pub PlacedIn : Bytes → ℕ → Result Found Fault → Type 0
PlacedIn src p (Ok f) = Placed src p f
PlacedIn src p (Err x) = Unit {0}

-- the place behind what was found, or as it was
abbrev pub MovesTo : ℕ → Result Found Fault → ℕ → Type 0
MovesTo p (Ok f) q = q ≡ f.to
MovesTo p (Err x) q = q ≡ p
