-- What the readers of objects answer, as the definitions say it.
use Rattle.std.specs.Prelude.{◌≡◌, ℕ, ◌<◌, ◌≤◌, Bool, true, false, length, drop, pos, Some, None, Ok, Err, codes, Option, Result}
use Rattle.faults.specs.declared.fault.Fault.{Fault}
use Rattle.faults.specs.declared.reason.Reason.{Reason}
use Rattle.faults.specs.declared.reason.Reason.TheVariants.{BytesEnd}
use Rattle.format.specs.Bytes.{Bytes, Got, ok, bad, same}
use Rattle.format.specs.Failures.{object_fault}
use Rattle.format.specs.Space.{skip}
use Rattle.format.specs.Tokens.{Token, token_at}
use Rattle.format.specs.Objects.{ref, Reader, Next, closes, key, fails, next, closes_array, one, trial, ref_rest}
use Rattle.lexer.specs.declared.token.Token as code
use Rattle.lexer.specs.declared.token.Token.TheVariants as tokens
use Rattle.lexer.specs.declared.token.Found.{Found}
use Rattle.lexer.specs.declared.reader.Lexer.{Lexer}
use Rattle.lexer.specs.Views.{found_token, token_fault_of, Placed}
use Rattle.objects.specs.declared.shape.Shape.{Shape}
use Rattle.objects.specs.declared.shape.Shape.TheVariants as shapes
use Rattle.objects.specs.declared.shape.Extent.{Extent}
use Rattle.objects.specs.declared.start.Start.{Start}
use Rattle.objects.specs.declared.start.Start.TheVariants as starts
use Rattle.objects.specs.declared.ahead.Ahead.{Ahead}
use Rattle.objects.specs.declared.ahead.Ahead.TheVariants as aheads
use Rattle.objects.specs.declared.shape.Value.{Value}
use Rattle.objects.specs.Extents.{read_by}
use Rattle.objects.specs.Shapes.{shaped, is_dict}
use Rattle.lexer.specs.Spelled.{spelled}

-- an object that was read, or a fault
abbrev pub seen : Bytes → Result Extent Fault → Got Shape
seen src (Ok e) = ok e.shape e.end (drop e.end src)
seen src (Err f) = bad f

-- the place behind what was read, or a fault
abbrev pub placed : Bytes → Result ℕ Fault → Got Unit
placed src (Ok q) = ok tt q (drop q src)
placed src (Err f) = bad f

-- an answer without its value
abbrev pub bare : {A : Type 0} → Got A → Got Unit
bare (ok a q ys) = ok tt q ys
bare (bad f) = bad f

-- the bytes from a reader's place on
abbrev pub rest_of : Lexer → Bytes
rest_of at = drop at.place at.src.now

-- the token at a place of the bytes
abbrev pub token_in : Bytes → ℕ → Token
token_in src p = token_at p (drop p src)

-- what a dictionary has next at a place of the bytes
abbrev pub next_in : Bytes → ℕ → Next
next_in src p = next (token_in src p).from (token_in src p).kind

-- the refusal of a token at p that does not fit there: the bytes end, or the reason
unfoldable pub misplaced : Reason → ℕ → code.Token → Fault
misplaced r p t = elim t [ tokens.End ↦ object_fault BytesEnd p | _ ↦ object_fault r p ]

-- the token at p ends at q
pub record EndsAt (src : Bytes) (p q : ℕ) : Type 0 where
  pub to : (token_in src p).to ≡ q
  pub rest : (token_in src p).rest ≡ drop q src
  pub low : p < q
  pub high : q ≤ length src

-- how an object starts, whatever reads the inside of an array and of a dictionary
abbrev pub Starts : Bytes → ℕ → Result Start Fault → Type 0
Starts src p (Ok (starts.Whole e)) = ((A D : ℕ → Reader) → shaped (one A D p (drop p src)) ≡ ok e.shape e.end (drop e.end src)) × (p < e.end) × (e.end ≤ length src) × (is_dict e.shape ≡ false)
Starts src p (Ok (starts.Array s q)) = ((A D : ℕ → Reader) → one A D p (drop p src) ≡ A s q (drop q src)) × (p < q) × (q ≤ length src)
Starts src p (Ok (starts.Dictionary s q)) = ((A D : ℕ → Reader) → one A D p (drop p src) ≡ D s q (drop q src)) × (p < q) × (q ≤ length src)
Starts src p (Err f) = (A D : ℕ → Reader) → one A D p (drop p src) ≡ bad f

-- the integer n without a sign, which ends at q, or the reference that it begins
abbrev pub Counts : Bytes → ℕ → ℕ → Extent → Type 0
Counts src n q e =
    ((t : Token) → t.to ≡ q → t.rest ≡ drop q src → shaped (trial true (pos n) t) ≡ ok e.shape e.end (drop e.end src)) × (q ≤ e.end) × (e.end ≤ length src) × (is_dict e.shape ≡ false)

-- what a dictionary has next
abbrev pub Has : Bytes → ℕ → Result Ahead Fault → Type 0
Has src p (Ok (aheads.Closes q)) = (next_in src p ≡ closes) × EndsAt src p q
Has src p (Ok (aheads.Key k s q)) = (next_in src p ≡ key (spelled k.now)) × EndsAt src p q × ((token_in src p).from ≡ s) × (s < q)
Has src p (Err f) = next_in src p ≡ fails f

-- the value behind a key that ends at p, from behind white space on, as read
abbrev pub Valued : Bool → ℕ → Bytes → ℕ → Result Value Fault → Type 0
Valued c d src p (Ok v) =
    (skip false p (drop p src) ≡ (v.start, drop v.start src)) × (ok v.shape v.end (drop v.end src) ≡ shaped (read_by c d v.start (drop v.start src))) × (p ≤ v.start) × (v.start < v.end) × (v.end ≤ length src)
Valued c d src p (Err f) = (s : ℕ) × (skip false p (drop p src) ≡ (s, drop s src)) × (bad f ≡ shaped (read_by c d s (drop s src)))

-- whether an array closes
abbrev pub ClosesArray : Bytes → ℕ → Option ℕ → Type 0
ClosesArray src p (Some q) = (closes_array (token_in src p).kind ≡ true) × EndsAt src p q
ClosesArray src p None = closes_array (token_in src p).kind ≡ false

-- `true`, `false` and `null`
abbrev pub word_shape : Bytes → Option Shape
word_shape w =
    elim (same w (codes "true")) [
      | true ↦ Some (shapes.Boolean true)
      | false ↦
          elim (same w (codes "false")) [
            | true ↦ Some (shapes.Boolean false)
            | false ↦ elim (same w (codes "null")) [ true ↦ Some shapes.Null | false ↦ None ]
          ]
    ]

-- the token that was looked for from p on, with q behind it; or none that can be read
abbrev pub Takes : Bytes → ℕ → ℕ → Option code.Token → Type 0
Takes src p q (Some t) = (f : Found) × (f.token ≡ t) × (f.to ≡ q) × (token_in src p ≡ found_token src f) × Placed src p f
Takes src p q None = (x : Fault) × (token_fault_of (token_in src p) ≡ Some x)

-- behind the integer n, from the place p: a reference up to q, or nothing
abbrev pub Tries : Bytes → ℕ → ℕ → ℕ → Option ℕ → Type 0
Tries src n p q (Some g) = (ref_rest n (token_in src p) ≡ Some (ref n g, q, drop q src)) × (p < q) × (q ≤ length src)
Tries src n p q None = (ref_rest n (token_in src p) ≡ None) × (q ≡ p)
