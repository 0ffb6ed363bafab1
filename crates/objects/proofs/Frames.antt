-- Frames, part by part.
use Rattle.std.proofs.Common.{◌≡◌, ℕ, true, false, eqb, drop, Some, None, codes, sym, refl, ap, ◌∙◌, arith}
use Rattle.std.proofs.lemmas.Bool.{eq-eqb, ne_eqb}
use Rattle.faults.specs.declared.fault.Fault.{Fault}
use Rattle.faults.specs.declared.reason.Reason.TheVariants.{BadFrame}
use Rattle.format.specs.Bytes.{Bytes, Got, ok, bad, up_to}
use Rattle.format.specs.Failures.{object_fault}
use Rattle.format.specs.Space.{skip}
use Rattle.format.specs.Tokens as format
use Rattle.format.specs.Tokens.{token_at}
use Rattle.format.specs.Objects.{plain_int, is_word}
use Rattle.format.specs.Frames.{body_at, unfit, the_word, the_int, Framed, framed_body, frame_number, frame}
use Rattle.lexer.specs.declared.token.Token.{Token}
use Rattle.lexer.specs.declared.token.Token.TheVariants.{Unsigned, Signed, Real, Name, Text, Hex, Word, OpenArray, CloseArray, OpenDict, CloseDict, End}
use Rattle.lexer.specs.declared.token.Found.{Found}
use Rattle.lexer.specs.Views.{kind_of, found_token, token_fault_of}
use Rattle.objects.specs.Steps.{bare, token_in, misplaced}
use Rattle.objects.specs.Framing.{head_of}
use Rattle.objects.proofs.Founds.{flawed_kind, found_kind, found_from, no_int}

-- a token that stands where another part should be
unfit_other : (p : ℕ) (t : Token) → misplaced BadFrame p t ≡ unfit p (kind_of t)
unfolding unfit misplaced
unfit_other p (Unsigned n) = refl
unfit_other p (Signed z) = refl
unfit_other p (Real s) = refl
unfit_other p (Name s) = refl
unfit_other p (Text s) = refl
unfit_other p (Hex s) = refl
unfit_other p (Word s) = refl
unfit_other p OpenArray = refl
unfit_other p CloseArray = refl
unfit_other p OpenDict = refl
unfit_other p CloseDict = refl
unfit_other p End = refl

-- a part that cannot be read
pub unfit_flawed : (t : format.Token) (x : Fault) → token_fault_of t ≡ Some x → x ≡ unfit t.from t.kind
unfolding unfit
unfit_flawed t x e = let g = flawed_kind t.from t.kind x e in rw g.1 (sym g.2)

-- the integer that has to stand there
pub int_there : (t : format.Token) (n q : ℕ) (ys : Bytes) → plain_int t.kind ≡ Some n → t.to ≡ q → t.rest ≡ ys → ok n q ys ≡ the_int t
unfolding the_int
int_there t n q ys e a b = rw (e, the_int, a, b) refl

-- no integer stands there
pub int_missing : (t : format.Token) (f : Fault) → plain_int t.kind ≡ None → f ≡ unfit t.from t.kind → bad f ≡ the_int t
unfolding the_int
int_missing t f e g = rw (e, the_int) (ap bad g)

-- the word that has to stand there
pub word_there : (w : Bytes) (t : format.Token) (q : ℕ) (ys : Bytes) → is_word w t.kind ≡ true → t.to ≡ q → t.rest ≡ ys → ok tt q ys ≡ the_word w t
unfolding the_word
word_there w t q ys e a b = rw (e, the_word, a, b) refl

-- the word does not stand there
pub word_missing : (w : Bytes) (t : format.Token) (f : Fault) → is_word w t.kind ≡ false → f ≡ unfit t.from t.kind → bad f ≡ the_word w t
unfolding the_word
word_missing w t f e g = rw (e, the_word) (ap bad g)

module _ (src : Bytes) (p : ℕ) (f : Found) (e : token_in src p ≡ found_token src f) where
  -- the fault of a token that was found and does not fit
  unfit_found : (x : Fault) → x ≡ misplaced BadFrame f.from f.token → x ≡ unfit (token_in src p).from (token_in src p).kind
  unfit_found x h = rw (found_from src p f e, found_kind src p f e) (h ∙ unfit_other f.from f.token)

  -- another token stands for an integer
  pub other_int : ((n : ℕ) → f.token ≡ Unsigned n → ⊥) → (x : Fault) → x ≡ misplaced BadFrame f.from f.token → bad x ≡ the_int (token_in src p)
  other_int i x h = int_missing (token_in src p) x (ap plain_int (found_kind src p f e) ∙ no_int f.token i) (unfit_found x h)

  -- another token stands for a word
  pub other_word : (w : Bytes) → is_word w (kind_of f.token) ≡ false → (x : Fault) → x ≡ misplaced BadFrame f.from f.token → bad x ≡ the_word w (token_in src p)
  other_word w i x h = word_missing w (token_in src p) x (ap (is_word w) (found_kind src p f e) ∙ i) (unfit_found x h)

pub bare_bad : {A : Type 0} (r : Got A) (f : Fault) → bad f ≡ bare r → r ≡ bad f
bare_bad (ok a q ys) f e = absurd (let z : ◌≡◌ {A = ℕ} 0 1 = cc in omega arith)
bare_bad (bad g) f e = cc

pub bare_ok : {A : Type 0} (r : Got A) (q : ℕ) (ys : Bytes) → ok tt q ys ≡ bare r → (a : A) × (r ≡ ok a q ys)
bare_ok (ok a p xs) q ys e = (a, cc)
bare_ok (bad g) q ys e = absurd (let z : ◌≡◌ {A = ℕ} 0 1 = cc in omega arith)

module _ (src : Bytes) (n g p s : ℕ) (at : skip false p (drop p src) ≡ (s, drop s src)) where
  -- a body that is refused
  pub body_bad : (f : Fault) → bad f ≡ bare (body_at s (drop s src)) → bad f ≡ framed_body n g (skip false p (drop p src))
  unfolding framed_body
  body_bad f e = let h = bare_bad (body_at s (drop s src)) f e in rw (at, h) refl

  module _ (q : ℕ) (e : ok tt q (drop q src) ≡ bare (body_at s (drop s src))) where
    -- `endobj` is missing
    pub end_bad : (f : Fault) → bad f ≡ the_word (codes "endobj") (token_in src q) → bad f ≡ framed_body n g (skip false p (drop p src))
    unfolding framed_body
    end_bad f h = let b = bare_ok (body_at s (drop s src)) q (drop q src) e in let c = b.1 in let d = sym h in rw (at, c, d) refl

    -- the whole frame
    pub framed_whole : (r : ℕ) → ok tt r (drop r src) ≡ the_word (codes "endobj") (token_in src q) →
        ok (record { number = n; gen = g; start = s; body = up_to s (drop s src) q }) r (drop r src) ≡ framed_body n g (skip false p (drop p src))
    unfolding framed_body
    framed_whole r h = let b = bare_ok (body_at s (drop s src)) q (drop q src) e in let c = b.1 in let d = sym h in rw (at, c, d) refl

-- the number does not stand right there
pub frame_loose : (src : Bytes) (s : ℕ) → skip false 0 (drop 0 src) ≡ (s, drop s src) → (s ≡ 0 → ⊥) → bad (object_fault BadFrame 0) ≡ frame 0 src
unfolding frame frame_number
frame_loose src s e h =
    let f : (skip false 0 src).0 ≡ s = ap (λ (z : ℕ × Bytes). z.0) e in
    let g : eqb (skip false 0 src).0 0 ≡ false = ne_eqb _ _ (λ i. h (omega arith)) in
    rw (g, frame_number) refl

module _ (src : Bytes) (s : ℕ) (e : skip false 0 (drop 0 src) ≡ (s, drop s src)) (h : s ≡ 0) where
  number_is : frame_number 0 src ≡ the_int (token_at 0 src)
  unfolding frame_number token_at
  number_is =
      let f : (skip false 0 src).0 ≡ 0 = ap (λ (z : ℕ × Bytes). z.0) e ∙ h in
      let r : (skip false 0 src).1 ≡ src = ap (λ (z : ℕ × Bytes). z.1) e ∙ ap (λ k. drop k src) h in
      let g : eqb (skip false 0 src).0 0 ≡ true = eq-eqb _ _ f in
      rw (g, frame_number, f, r) refl

  -- no number
  pub frame_bad : (f : Fault) → bad f ≡ the_int (token_in src 0) → bad f ≡ frame 0 src
  unfolding frame
  frame_bad f i = let d = sym i in rw (number_is, d) refl

  -- what comes behind the number
  pub frame_there : (n q : ℕ) (z : Got Framed) → ok n q (drop q src) ≡ the_int (token_in src 0) → z ≡ head_of n q (drop q src) → z ≡ frame 0 src
  unfolding frame
  frame_there n q z i j = let d = sym i in rw (number_is, d) j
