-- What is told of given bytes.
use Rattle.std.specs.Prelude.{◌≡◌, ℕ, List, [], ◌∷◌, drop, Some, None, vec_items, MatchResult}
use Rattle.faults.specs.declared.fault.Fault as faults
use Rattle.format.specs.Bytes.{Bytes}
use Rattle.format.specs.Frames.{body_fault}
use Rattle.format.specs.Tokens as format
use Rattle.format.specs.Tokens.{token_at}
use Rattle.lexer.specs.Views.{token_fault_of}
use Rattle.replay.specs.Calls.{Answer}
use Rattle.replay.specs.Sorts.{sort_of}
use Rattle.replay.specs.declared.answer.Setback.{Setback}
use Rattle.replay.specs.declared.answer.Setback.TheVariants.{Fault, Trouble}
use Rattle.replay.specs.declared.answer.Value.{Value}
use Rattle.replay.specs.declared.answer.Value.TheVariants.{Token}
use Rattle.replay.specs.declared.command.Reading.{Reading}
use Rattle.replay.specs.declared.command.Reading.TheVariants.{Tokens, Object, Body, Frame}
use Rattle.replay.specs.declared.sort.Sort.{Sort}
use Rattle.replay.specs.declared.trouble.Trouble.TheVariants.{NoMemory}

-- the token that comes next from p on
abbrev pub next_token : Bytes → ℕ → format.Token
next_token src p = token_at p (drop p src)

-- the value tells the token: what it is, its first place and the place behind it
pub record TellsToken (t : format.Token) (v : Value) : Type 0 where
  pub sort : Sort
  pub sort_is : sort_of t.kind ≡ Some sort
  pub value_is : v ≡ Token sort t.from t.to

-- the values tell the tokens from p on, one after the other and none left out, and the last ends at q
abbrev pub TokensBetween : Bytes → ℕ → List Value → ℕ → Type 0
TokensBetween src p [] q = q ≡ p
TokensBetween src p (v ∷ vs) q = TellsToken (next_token src p) v × TokensBetween src (next_token src p).to vs q

-- all tokens are told: behind the last, the bytes end
pub record AllTold (src : Bytes) (vs : List Value) : Type 0 where
  pub last : ℕ
  pub told : TokensBetween src 0 vs last
  pub ended : (next_token src last).kind ≡ format.ended

-- the first token that cannot be read has that fault; those before it can be told
pub record FirstBad (src : Bytes) (f : faults.Fault) : Type 0 where
  pub before : List Value
  pub last : ℕ
  pub told : TokensBetween src 0 before last
  pub fault : token_fault_of (next_token src last) ≡ Some f

abbrev NotTold : Bytes → Setback → Type 0
NotTold src (Fault f) = FirstBad src f
NotTold src (Trouble t) = t ≡ NoMemory

abbrev pub TokensTold : Bytes → Answer → Type 0
TokensTold src r = MatchResult r (λ vs. AllTold src (vec_items vs)) (NotTold src)

-- a body is refused with its fault
abbrev BodyRefused : Bytes → Setback → Type 0
BodyRefused src (Fault f) = body_fault src ≡ Some f
BodyRefused src (Trouble t) = ⊥

-- a body may be put, or has that fault
abbrev pub BodyTold : Bytes → Answer → Type 0
BodyTold src r = MatchResult r (λ vs. (vec_items vs ≡ []) × (body_fault src ≡ None)) (BodyRefused src)

-- what is told of an object and of an object in the file is tested, and not said here
abbrev pub ReadAs : Reading → Answer → Type 0
ReadAs (Tokens bytes) r = TokensTold (vec_items bytes) r
ReadAs (Object bytes) r = Unit {0}
ReadAs (Body bytes) r = BodyTold (vec_items bytes) r
ReadAs (Frame place bytes) r = Unit {0}
