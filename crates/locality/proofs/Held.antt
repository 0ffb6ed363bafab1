-- What an object that was read leaves to say of the bytes behind it.
use Rattle.std.proofs.Common.{◌≡◌, ℕ, ◌+◌, Bool, true, false, ◌&&◌, leb, [], ◌∷◌, ◌++◌, length, None, sym, refl, ap, ◌∙◌, subst, append_assoc, arith, length-append}
use Rattle.format.specs.Bytes.{Bytes, Got, ok, up_to, is_regular}
use Rattle.format.specs.Space.{skip}
use Rattle.format.specs.Tokens.{Mark, Kind, mark, Token, tok, start_at, token_at}
use Rattle.format.specs.Objects.{Obj, Reader, plain_int, plain_word, is_word, ref_mark, ref_rest, closes_array}
use Rattle.locality.specs.Locality.{Good, is_run, stops, Fits, Taken}
use Rattle.locality.specs.LocalityObjects.{R, ends_run, After}
use Rattle.locality.proofs.Cases.{cases, cases_o}
use Rattle.locality.proofs.Local.{Local, Any, up_to_taken}
use Rattle.locality.proofs.Tokens.{token_local, token_stops, token_is}

-- an object read: its first token, and what stays so before other bytes
pub record Held (r : Reader) (xs : Bytes) (o : Obj) (rest : Bytes) : Type 0 where
  pub kind : Kind
  pub loc : Local r (After o) xs o rest
  pub had : ends_run o ≡ true → stops is_regular rest ≡ true
  pub front : (p : ℕ) (ys : Bytes) → After o ys → (token_at p (loc.pre ++ ys)).kind ≡ kind
  pub good : Good kind
  pub not_r : is_word R kind ≡ false
  pub not_close : closes_array kind ≡ false
  pub no_ref : (n p : ℕ) (ys : Bytes) → After o ys → ((q : ℕ) → is_word R (token_at q ys).kind ≡ false) → ref_rest n (token_at p (loc.pre ++ ys)) ≡ None

-- a reader all of whose answers are held
abbrev pub Holds : Reader → Type 0
Holds r = (p : ℕ) (xs : Bytes) (o : Obj) (q : ℕ) (rest : Bytes) → r p xs ≡ ok o q rest → Held r xs o rest

-- what stands inside an array or a dictionary, up to its end
pub record Inside {A : Type 0} (r : ℕ → Bytes → Got A) (xs : Bytes) (a : A) (rest : Bytes) : Type 0 where
  pub loc : Local r Any xs a rest
  pub not_r : (p : ℕ) (ys : Bytes) → is_word R (token_at p (loc.pre ++ ys)).kind ≡ false
  pub no_ref : (n p : ℕ) (ys : Bytes) → ref_rest n (token_at p (loc.pre ++ ys)) ≡ None
  pub first : (ys zs : Bytes) → stops is_regular (loc.pre ++ ys) ≡ stops is_regular (loc.pre ++ zs)

-- bytes that have a token have a first byte
pub first_by : (pre : Bytes) (k : Kind) → Good k → (token_at 0 (pre ++ [])).kind ≡ k → (ys zs : Bytes) → stops is_regular (pre ++ ys) ≡ stops is_regular (pre ++ zs)
unfolding stops Good token_at start_at skip
first_by [] k g e ys zs = absurd (subst Good (sym e) g)
first_by (x ∷ pre) k g e ys zs = refl

-- a mark is a token that no byte lengthens, no `R` and no integer
pub mark_good : (k : Kind) (m : Mark) → k ≡ mark m → (Good k) × (is_run k ≡ false) × (is_word R k ≡ false) × (plain_int k ≡ None)
unfolding Good is_run is_word plain_word plain_int
mark_good k m e = rw e (tt, refl, refl, refl)

-- unless an integer stands next, no reference is made
pub no_ref_unless_int : (n : ℕ) (t : Token) → plain_int t.kind ≡ None → ref_rest n t ≡ None
unfolding ref_rest
no_ref_unless_int n t e = rw (e, ref_rest) refl

-- a token with the white space before it, as one run of bytes
pub record Front (xs : Bytes) (t : Token) : Type 0 where
  pub pre : Bytes
  pub parts : xs ≡ pre ++ t.rest
  pub from : ℕ → ℕ
  pub bytes : Bytes → Bytes
  pub again : (p : ℕ) (ys : Bytes) → Fits t.kind ys → token_at p (pre ++ ys) ≡ tok t.kind (from p) (bytes ys) (p + length pre) ys
  pub own : Bytes
  pub owned : (p : ℕ) (ys : Bytes) → up_to (from p) (bytes ys) (p + length pre) ≡ own
  pub was : up_to t.from t.bytes t.to ≡ own

-- a token that was read, with the white space before it
pub front_of : (p : ℕ) (xs : Bytes) → Good (token_at p xs).kind → Front xs (token_at p xs)
front_of p xs g = go (token_local p xs g)
  where
    go : Taken xs (token_at p xs) → Front xs (token_at p xs)
    go l = record {
      pre = l.gap ++ l.core;
      parts = l.parts ∙ sym (append_assoc l.gap l.core (token_at p xs).rest);
      from = λ p'. p' + length l.gap;
      bytes = λ ys. l.core ++ ys;
      again = λ p' ys f. rw append_assoc (l.again p' ys f ∙
          (let v : p' + length l.gap + length l.core ≡ p' + length (l.gap ++ l.core) = rw length-append (omega arith) in
          λ i. tok (token_at p xs).kind (p' + length l.gap) (l.core ++ ys) (v i) ys));
      own = l.core;
      owned = λ p' ys. up_to_taken (p' + length l.gap) (p' + length (l.gap ++ l.core)) l.core ys (rw length-append (omega arith));
      was =
          ap (λ (u : Token). up_to u.from u.bytes u.to) (token_is p xs l)
          ∙ up_to_taken (p + length l.gap) (p + length l.gap + length l.core) l.core (token_at p xs).rest refl;
    }

-- no bytes lengthen nothing
pub after_none : (o : Obj) → After o []
unfolding stops ref_rest token_at start_at skip plain_int
after_none o = record { run = λ e. refl; alone = λ e n p. refl }

-- unless `R` stands behind the next token, no reference is made
pub no_mark : (n : ℕ) (t : Token) → is_word R (token_at t.to t.rest).kind ≡ false → ref_rest n t ≡ None
unfolding ref_rest ref_mark
no_mark n t c = cases_o (plain_int t.kind)
    (λ d. rw (d, ref_rest) refl)
    (λ k d. rw (d, ref_rest) (cases (leb 1 n && leb k 65535) (λ i. rw i (rw (c, ref_mark) refl)) (λ i. rw i refl)))

-- the next token's bytes do not lengthen this one, whatever comes behind them
pub fits_next : (p : ℕ) (xs : Bytes) (t' : Token) → Good t'.kind → (l : Front (token_at p xs).rest t') (ys : Bytes) → Fits (token_at p xs).kind (l.pre ++ ys)
unfolding stops
fits_next p xs t' g l ys i =
    first_by l.pre t'.kind g (ap (λ (u : Token). u.kind) (l.again 0 [] (λ _. refl))) ys t'.rest
    ∙ subst (λ zs. stops is_regular zs ≡ true) l.parts (token_stops p xs i)

-- bytes that have a token are some
pub some_pre : (pre : Bytes) (k : Kind) → Good k → (token_at 0 (pre ++ [])).kind ≡ k → (x : ℕ) × (pre' : Bytes) × (pre ≡ x ∷ pre')
unfolding Good token_at start_at skip
some_pre [] k g e = absurd (subst Good (sym e) g)
some_pre (x ∷ pre) k g e = (x, pre, refl)

-- the first byte alone tells whether bytes stop
pub stops_front : (f : ℕ → Bool) (a : Bytes) (x : ℕ) (u v : Bytes) → stops f (a ++ (x ∷ u)) ≡ stops f (a ++ (x ∷ v))
unfolding stops
stops_front f [] x u v = refl
stops_front f (y ∷ a) x u v = refl

-- what stands inside a mark behind an element does not lengthen the element
pub after_inside : {A : Type 0} (r : ℕ → Bytes → Got A) (elem : Reader) (xs : Bytes) (o : Obj) (ys : Bytes) (a : A) (rest : Bytes) → Held elem xs o ys → (i : Inside r ys a rest) (zs : Bytes) → After o (i.loc.pre ++ zs)
after_inside r elem xs o ys a rest h i zs = record {
  run = λ e. i.first zs rest ∙ subst (λ us. stops is_regular us ≡ true) i.loc.parts (h.had e);
  alone = λ _ m p'. i.no_ref m p' zs;
}
