-- How an object starts, by its first token.
use Rattle.std.proofs.Common.{◌≡◌, ℕ, ◌<◌, ◌≤◌, false, length, drop, ℤ, pos, Some, None, Ok, Err, Option, sym, refl, ap, ◌∙◌, arith}
use denote.Ref.{Bor}
use Rattle.faults.specs.declared.fault.Fault.{Fault}
use Rattle.faults.specs.declared.reason.Reason.TheVariants.{BadToken}
use Rattle.format.specs.Bytes.{ok, bad, Bytes}
use Rattle.format.specs.Tokens as format
use Rattle.format.specs.Tokens.{token_at}
use Rattle.format.specs.Objects.{Obj, ref, Reader, mark_obj, of_token, one, trial, tried, ref_rest}
use Rattle.lexer.specs.declared.token.Token.{Token}
use Rattle.lexer.specs.declared.token.Token.TheVariants.{Unsigned, Signed, Real, Name, Text, Hex, Word, OpenArray, CloseArray, OpenDict, CloseDict, End}
use Rattle.lexer.specs.declared.token.Found.{Found}
use Rattle.lexer.specs.Views.{kind_of, found_token, Moves, Placed}
use Rattle.objects.specs.declared.shape.Extent.{Extent}
use Rattle.objects.specs.declared.shape.Shape.{Shape}
use Rattle.objects.specs.declared.shape.Shape.TheVariants as shapes
use Rattle.objects.specs.declared.start.Start.TheVariants as starts
use Rattle.objects.specs.Shapes.{shaped, is_dict}
use Rattle.objects.specs.Steps.{token_in, misplaced, word_shape, Counts, Starts, Tries}
use Rattle.objects.proofs.Founds.{found_one, words, word_got, word_plain}
use Rattle.objects.proofs.Turns.{shaped_bad}

-- a token that is an object by itself
pub record Lone (t : Token) (s : Shape) : Type 0 where
  pub reads : (a d : Reader) (u : format.Token) → shaped (of_token a d (kind_of t) u) ≡ ok s u.to u.rest
  pub plain : is_dict s ≡ false
  pub moves : (p q n : ℕ) → Moves t p q n → p < q

pub lone_signed : (z i : ℤ) → i ≡ z → Lone (Signed z) (shapes.Integer i)
unfolding of_token trial
lone_signed z i e = record { reads = λ a d u. rw e refl; plain = refl; moves = λ p q n m. m }

pub lone_real : (w : _) → Lone (Real w) shapes.Real
unfolding of_token
lone_real w = record { reads = λ a d u. refl; plain = refl; moves = λ p q n m. m }

pub lone_name : (w : _) → Lone (Name w) shapes.Name
unfolding of_token
lone_name w = record { reads = λ a d u. refl; plain = refl; moves = λ p q n m. m }

pub lone_text : (w : _) → Lone (Text w) shapes.Text
unfolding of_token
lone_text w = record { reads = λ a d u. refl; plain = refl; moves = λ p q n m. m }

pub lone_hex : (w : _) → Lone (Hex w) shapes.Hex
unfolding of_token
lone_hex w = record { reads = λ a d u. refl; plain = refl; moves = λ p q n m. m }

pub lone_word : (w : Bor Bytes) (s : Shape) → Some s ≡ word_shape w.now → Lone (Word w) s
unfolding of_token
lone_word w s e = record {
  reads = λ a d u. words w.now u ∙ ap (word_got u.from u.to u.rest) (sym e);
  plain = word_plain w.now s e;
  moves = λ p q n m. m;
}

-- a reference
pub counts_ref : (src : Bytes) (n q r g : ℕ) → Tries src n q r (Some g) → Counts src n q (record { shape = shapes.Reference n g; end = r })
unfolding trial tried
counts_ref src n q r g (e, l, m) = (
  λ t a b.
      let k : ref_rest n (token_at t.to t.rest) ≡ Some (ref n g, r, drop r src) = rw (a, b) e in
      ap (λ (o : Option (Obj × ℕ × Bytes)). shaped (tried (pos n) t o)) k,
  omega arith,
  m,
  refl,
)

-- an integer without a sign
pub counts_int : (src : Bytes) (n q r : ℕ) (z : ℤ) → Tries src n q r None → z ≡ pos n → q ≤ length src → Counts src n q (record { shape = shapes.Integer z; end = r })
unfolding trial tried
counts_int src n q r z (e, s) i h = (
  λ t a b.
      let k : ref_rest n (token_at t.to t.rest) ≡ None = rw (a, b) e in
      rw (s, i) (ap (λ (o : Option (Obj × ℕ × Bytes)). shaped (tried (pos n) t o)) k ∙ rw (a, b) refl),
  omega arith,
  omega arith,
  refl,
)

-- a token with which no object starts
abbrev pub Stray : Token → Type 0
Stray t = (a d : Reader) (u : format.Token) → of_token a d (kind_of t) u ≡ bad (misplaced BadToken u.from t)

pub stray_word : (w : Bor Bytes) → None ≡ word_shape w.now → Stray (Word w)
unfolding of_token misplaced
stray_word w e a d u = shaped_bad _ _ (sym (words w.now u ∙ ap (word_got u.from u.to u.rest) (sym e)))

pub stray_array : Stray CloseArray
unfolding of_token mark_obj misplaced
stray_array a d u = refl

pub stray_dict : Stray CloseDict
unfolding of_token mark_obj misplaced
stray_dict a d u = refl

pub stray_end : Stray End
unfolding of_token misplaced
stray_end a d u = refl

module _ (src : Bytes) (p : ℕ) (f : Found) (e : token_in src p ≡ found_token src f) where
  found_reads : (t : Token) → f.token ≡ t → (A D : ℕ → Reader) → one A D p (drop p src) ≡ of_token (A f.from) (D f.from) (kind_of t) (found_token src f)
  found_reads t i A D = found_one src p f e A D ∙ ap (λ u. of_token (A f.from) (D f.from) (kind_of u) (found_token src f)) i

  -- no object starts there
  pub starts_none : (t : Token) → f.token ≡ t → Stray t → (x : Fault) → x ≡ misplaced BadToken f.from f.token → Starts src p (Err x)
  starts_none t i s x h A D = found_reads t i A D ∙ s (A f.from) (D f.from) (found_token src f) ∙ ap bad (sym (h ∙ ap (misplaced BadToken f.from) i))

  module _ (h : Placed src p f) where
    takes : (t : Token) → f.token ≡ t → ((q r n : ℕ) → Moves t q r n → q < r) → p < f.to
    takes t i m = let l = m f.from f.to (length src) (rw i at h.moves) in let s = h.starts in omega arith

    -- one token
    pub starts_lone : (t : Token) (s : Shape) → f.token ≡ t → Lone t s → Starts src p (Ok (starts.Whole (record { shape = s; end = f.to })))
    starts_lone t s i l = (λ A D. ap shaped (found_reads t i A D) ∙ l.reads (A f.from) (D f.from) (found_token src f), takes t i l.moves, h.inside, l.plain)

    -- an integer without a sign, or a reference
    pub starts_count : (n : ℕ) (w : Extent) → f.token ≡ Unsigned n → Counts src n f.to w → Starts src p (Ok (starts.Whole w))
    unfolding of_token
    starts_count n w i c =
        let l = takes (Unsigned n) i (λ q r k m. m) in
        let far = c.1 in
        (λ A D. ap shaped (found_reads (Unsigned n) i A D) ∙ c.0 (found_token src f) refl refl, omega arith, c.2, c.3)

    -- an array
    pub starts_array : f.token ≡ OpenArray → Starts src p (Ok (starts.Array f.from f.to))
    unfolding of_token mark_obj
    starts_array i = (λ A D. found_reads OpenArray i A D, takes OpenArray i (λ q r k m. m), h.inside)

    -- a dictionary
    pub starts_dict : f.token ≡ OpenDict → Starts src p (Ok (starts.Dictionary f.from f.to))
    unfolding of_token mark_obj
    starts_dict i = (λ A D. found_reads OpenDict i A D, takes OpenDict i (λ q r k m. m), h.inside)
