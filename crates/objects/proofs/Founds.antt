-- What a token that was found means where it stands.
use Rattle.std.proofs.Common.{◌≡◌, ℕ, ◌<◌, true, false, drop, pos, Some, None, codes, Option, refl, ap, arith}
use Rattle.faults.specs.declared.fault.Fault.{Fault}
use Rattle.faults.specs.declared.reason.Reason.TheVariants.{BadToken}
use Rattle.format.specs.Bytes.{Bytes, Got, ok, bad, same}
use Rattle.format.specs.Failures.{object_fault}
use Rattle.format.specs.Tokens as format
use Rattle.format.specs.Tokens.{flaw_fault}
use Rattle.format.specs.Objects.{Reader, plain_int, plain_word, is_word, word_obj, of_token, closes_array, fails, next, one}
use Rattle.lexer.specs.declared.token.Token.{Token}
use Rattle.lexer.specs.declared.token.Token.TheVariants.{Unsigned, Signed, Real, Name, Text, Hex, Word, OpenArray, CloseArray, OpenDict, CloseDict, End}
use Rattle.lexer.specs.declared.token.Found.{Found}
use Rattle.lexer.specs.Views.{kind_of, found_token, token_fault_of, kind_fault, Moves, Placed}
use Rattle.objects.specs.declared.shape.Shape.{Shape}
use Rattle.objects.specs.declared.shape.Shape.TheVariants as shapes
use Rattle.objects.specs.Shapes.{shaped, is_dict}
use Rattle.objects.specs.Steps.{token_in, next_in, EndsAt, misplaced, word_shape}
use Rattle.objects.proofs.Cases.{cases}

-- a token that cannot be read has a flaw
pub flawed_kind : (p : ℕ) (k : format.Kind) (x : Fault) → kind_fault p k ≡ Some x → (g : format.Flaw) × (k ≡ format.flawed g) × (flaw_fault p g ≡ x)
flawed_kind p (format.int u z) x e = absurd (let z : ◌≡◌ {A = ℕ} 0 1 = cc in omega arith)
flawed_kind p (format.real w) x e = absurd (let z : ◌≡◌ {A = ℕ} 0 1 = cc in omega arith)
flawed_kind p (format.name d) x e = absurd (let z : ◌≡◌ {A = ℕ} 0 1 = cc in omega arith)
flawed_kind p (format.text w) x e = absurd (let z : ◌≡◌ {A = ℕ} 0 1 = cc in omega arith)
flawed_kind p (format.hex w) x e = absurd (let z : ◌≡◌ {A = ℕ} 0 1 = cc in omega arith)
flawed_kind p (format.mark m) x e = absurd (let z : ◌≡◌ {A = ℕ} 0 1 = cc in omega arith)
flawed_kind p (format.word w) x e = absurd (let z : ◌≡◌ {A = ℕ} 0 1 = cc in omega arith)
flawed_kind p format.ended x e = absurd (let z : ◌≡◌ {A = ℕ} 0 1 = cc in omega arith)
flawed_kind p (format.flawed f) x e = (f, refl, cc)

module _ (src : Bytes) (p : ℕ) (x : Fault) (e : token_fault_of (token_in src p) ≡ Some x) where
  -- what cannot be read closes no array
  pub flawed_array : closes_array (token_in src p).kind ≡ false
  unfolding closes_array
  flawed_array = let g = flawed_kind (token_in src p).from (token_in src p).kind x e in rw g.1 refl

  -- what cannot be read is no entry
  pub flawed_next : next_in src p ≡ fails x
  unfolding next
  flawed_next = let g = flawed_kind (token_in src p).from (token_in src p).kind x e in rw g.1 (ap fails g.2)

  -- what cannot be read starts no object
  pub flawed_one : (A D : ℕ → Reader) → one A D p (drop p src) ≡ bad x
  unfolding one of_token
  flawed_one A D = let g = flawed_kind (token_in src p).from (token_in src p).kind x e in rw g.1 (ap bad g.2)

  -- what cannot be read is no integer
  pub flawed_int : plain_int (token_in src p).kind ≡ None
  unfolding plain_int
  flawed_int = let g = flawed_kind (token_in src p).from (token_in src p).kind x e in rw g.1 refl

  -- what cannot be read is no word
  pub flawed_word : (w : Bytes) → is_word w (token_in src p).kind ≡ false
  unfolding is_word plain_word
  flawed_word w = let g = flawed_kind (token_in src p).from (token_in src p).kind x e in rw g.1 refl

module _ (src : Bytes) (p : ℕ) (f : Found) (e : token_in src p ≡ found_token src f) where
  pub found_kind : (token_in src p).kind ≡ kind_of f.token
  found_kind = ap (λ (t : format.Token). t.kind) e

  pub found_from : (token_in src p).from ≡ f.from
  found_from = ap (λ (t : format.Token). t.from) e

  -- where it ends
  pub found_ends : Placed src p f → f.from < f.to → EndsAt src p f.to
  found_ends h l = record {
    to = ap (λ (t : format.Token). t.to) e;
    rest = ap (λ (t : format.Token). t.rest) e;
    low = let a = h.starts in omega arith;
    high = h.inside;
  }

  -- what a dictionary has there
  pub found_next : next_in src p ≡ next f.from (kind_of f.token)
  found_next = rw e refl

  -- an object that starts there
  pub found_one : (A D : ℕ → Reader) → one A D p (drop p src) ≡ of_token (A f.from) (D f.from) (kind_of f.token) (found_token src f)
  unfolding one
  found_one A D = rw e refl

-- a token that is no mark of an array's end
pub no_array_end : (t : Token) → (t ≡ CloseArray → ⊥) → closes_array (kind_of t) ≡ false
unfolding closes_array
no_array_end (Unsigned n) h = refl
no_array_end (Signed z) h = refl
no_array_end (Real s) h = refl
no_array_end (Name s) h = refl
no_array_end (Text s) h = refl
no_array_end (Hex s) h = refl
no_array_end (Word s) h = refl
no_array_end OpenArray h = refl
no_array_end CloseArray h = absurd (h refl)
no_array_end OpenDict h = refl
no_array_end CloseDict h = refl
no_array_end End h = refl

-- a token that is neither a key nor a dictionary's end
pub no_entry : (p : ℕ) (t : Token) → ((s : _) → t ≡ Name s → ⊥) → (t ≡ CloseDict → ⊥) → next p (kind_of t) ≡ fails (misplaced BadToken p t)
unfolding next misplaced
no_entry p (Unsigned n) h i = refl
no_entry p (Signed z) h i = refl
no_entry p (Real s) h i = refl
no_entry p (Name s) h i = absurd (h s refl)
no_entry p (Text s) h i = refl
no_entry p (Hex s) h i = refl
no_entry p (Word s) h i = refl
no_entry p OpenArray h i = refl
no_entry p CloseArray h i = refl
no_entry p OpenDict h i = refl
no_entry p CloseDict h i = absurd (i refl)
no_entry p End h i = refl

-- a token that is no integer without a sign
pub no_int : (t : Token) → ((n : ℕ) → t ≡ Unsigned n → ⊥) → plain_int (kind_of t) ≡ None
unfolding plain_int
no_int (Unsigned n) h = absurd (h n refl)
no_int (Signed z) h = refl
no_int (Real s) h = refl
no_int (Name s) h = refl
no_int (Text s) h = refl
no_int (Hex s) h = refl
no_int (Word s) h = refl
no_int OpenArray h = refl
no_int CloseArray h = refl
no_int OpenDict h = refl
no_int CloseDict h = refl
no_int End h = refl

-- a token that is no word
pub no_word : (w : Bytes) (t : Token) → ((s : _) → t ≡ Word s → ⊥) → is_word w (kind_of t) ≡ false
unfolding is_word plain_word
no_word w (Unsigned n) h = refl
no_word w (Signed z) h = refl
no_word w (Real s) h = refl
no_word w (Name s) h = refl
no_word w (Text s) h = refl
no_word w (Hex s) h = refl
no_word w (Word s) h = absurd (h s refl)
no_word w OpenArray h = refl
no_word w CloseArray h = refl
no_word w OpenDict h = refl
no_word w CloseDict h = refl
no_word w End h = refl

-- a word takes a byte
pub word_moves : (w : Bytes) (t : Token) (p q n : ℕ) → is_word w (kind_of t) ≡ true → Moves t p q n → p < q
unfolding is_word plain_word
word_moves w (Unsigned k) p q n e h = h
word_moves w (Signed z) p q n e h = h
word_moves w (Real s) p q n e h = h
word_moves w (Name s) p q n e h = h
word_moves w (Text s) p q n e h = h
word_moves w (Hex s) p q n e h = h
word_moves w (Word s) p q n e h = h
word_moves w OpenArray p q n e h = h
word_moves w CloseArray p q n e h = h
word_moves w OpenDict p q n e h = h
word_moves w CloseDict p q n e h = h
word_moves w End p q n e h = absurd (let z : ◌≡◌ {A = ℕ} 0 1 = cc in omega arith)

-- a word
pub the_word_fact : (v : Bytes) (k : format.Kind) (w : Bytes) → k ≡ format.word w → is_word v k ≡ same v w
unfolding is_word plain_word
the_word_fact v k w e = rw e refl

-- an integer without a sign
pub the_int_fact : (k : format.Kind) (n : ℕ) → k ≡ format.int true (pos n) → plain_int k ≡ Some n
unfolding plain_int
the_int_fact k n e = rw e refl

abbrev pub word_got : ℕ → ℕ → Bytes → Option Shape → Got Shape
word_got p q ys (Some s) = ok s q ys
word_got p q ys None = bad (object_fault BadToken p)

-- `true`, `false` and `null`, and any other word
pub words : (w : Bytes) (t : format.Token) → shaped (word_obj w t) ≡ word_got t.from t.to t.rest (word_shape w)
unfolding word_obj
words w t =
    cases (same w (codes "true")) (λ e. rw (e, word_obj) (rw (e, word_shape) refl))
    (λ e. cases (same w (codes "false")) (λ f. rw (e, f, word_obj) (rw (e, f, word_shape) refl))
    (λ f. cases (same w (codes "null")) (λ g. rw (e, f, g, word_obj) (rw (e, f, g, word_shape) refl)) (λ g. rw (e, f, g, word_obj) (rw (e, f, g, word_shape) refl))))

-- no word is a dictionary
pub word_plain : (w : Bytes) (s : Shape) → Some s ≡ word_shape w → is_dict s ≡ false
word_plain w s h =
    cases (same w (codes "true")) (λ e. let g : Some s ≡ Some (shapes.Boolean true) = rw (e, word_shape) at h in let i : s ≡ shapes.Boolean true = cc in rw i refl)
    (λ e. cases (same w (codes "false")) (λ f. let g : Some s ≡ Some (shapes.Boolean false) = rw (e, f, word_shape) at h in let i : s ≡ shapes.Boolean false = cc in rw i refl)
    (λ f. cases (same w (codes "null")) (λ g. let k : Some s ≡ Some shapes.Null = rw (e, f, g, word_shape) at h in let i : s ≡ shapes.Null = cc in rw i refl)
    (λ g. absurd (let k : Some s ≡ None = rw (e, f, g, word_shape) at h in let z : ◌≡◌ {A = ℕ} 0 1 = cc in omega arith))))
