-- The trial for a reference.
use Rattle.std.proofs.Common.{◌≡◌, ℕ, ◌^◌, ◌<◌, ◌≤◌, true, false, ◌&&◌, leb, length, drop, Some, None, Ok, Err, codes, Option, Result, sym, refl, ap, ◌∙◌, arith, le-leb}
use Rattle.std.proofs.lemmas.Result.{OkIff-at_ok, OkIff-at_err}
use Rattle.std.specs.Result.{OkIff}
use borrow.Author.Tests.{lt-leb}
use Rattle.format.specs.Bytes.{Bytes}
use Rattle.format.specs.Tokens.{token_at}
use Rattle.format.specs.Objects.{ref, plain_int, is_word, ref_mark, ref_rest}
use Rattle.objects.specs.Steps.{token_in, EndsAt, Takes, Tries}
use Rattle.lexer.specs.declared.token.Token.{Token}
use Rattle.lexer.specs.declared.token.Token.TheVariants.{Unsigned}
use Rattle.lexer.specs.Views.{kind_of}
use Rattle.objects.proofs.Cases.{cases}
use Rattle.objects.proofs.Founds.{flawed_int, flawed_word, found_kind, found_ends, no_int, the_int_fact, word_moves}

-- the token behind one that ends at q
pub behind_token : (src : Bytes) (p q : ℕ) → EndsAt src p q → token_at (token_in src p).to (token_in src p).rest ≡ token_in src q
behind_token src p q t = rw (t.to, t.rest) refl

-- the token that was taken
module _ (src : Bytes) (p q : ℕ) where
  -- an integer without a sign
  pub took_int : (t : Token) (n : ℕ) → Takes src p q (Some t) → t ≡ Unsigned n → (plain_int (token_in src p).kind ≡ Some n) × EndsAt src p q
  took_int t n (f, i, j, e, h) k =
      let l : f.token ≡ Unsigned n = i ∙ k in
      let moves : f.from < f.to = rw l at h.moves in
      (the_int_fact _ _ (found_kind src p f e ∙ ap kind_of l), rw (sym j) (found_ends src p f e h moves))

  pub took_no_int : (t : Token) → Takes src p q (Some t) → ((n : ℕ) → t ≡ Unsigned n → ⊥) → plain_int (token_in src p).kind ≡ None
  took_no_int t (f, i, j, e, h) k = ap plain_int (found_kind src p f e ∙ ap kind_of i) ∙ no_int t k

  pub took_none : Takes src p q None → plain_int (token_in src p).kind ≡ None
  took_none (x, e) = flawed_int src p x e

  -- a word
  pub took_word : (w : Bytes) (t : Token) → Takes src p q (Some t) → is_word w (kind_of t) ≡ true → (is_word w (token_in src p).kind ≡ true) × EndsAt src p q
  took_word w t (f, i, j, e, h) k =
      let l : is_word w (kind_of f.token) ≡ true = ap (λ u. is_word w (kind_of u)) i ∙ k in
      (ap (is_word w) (found_kind src p f e) ∙ l, rw (sym j) (found_ends src p f e h (word_moves w f.token f.from f.to (length src) l h.moves)))

  pub took_no_word : (w : Bytes) (t : Token) → Takes src p q (Some t) → is_word w (kind_of t) ≡ false → is_word w (token_in src p).kind ≡ false
  took_no_word w t (f, i, j, e, h) k = ap (is_word w) (found_kind src p f e ∙ ap kind_of i) ∙ k

  pub took_nothing : (w : Bytes) → Takes src p q None → is_word w (token_in src p).kind ≡ false
  took_nothing w (x, e) = flawed_word src p x e w

-- a generation that fits, and one that does not
pub generation_fits : {E : Type 0} (g : ℕ) (r : Result ℕ E) (x : ℕ) → OkIff r (g < 2 ^ 16) g → r ≡ Ok x → (g ≤ 65535) × (x ≡ g)
generation_fits g r x h e = let f = OkIff-at_ok r (g < 2 ^ 16) g x h e in let l = f.0 in (omega arith, f.1)

pub generation_past : {E : Type 0} (g : ℕ) (r : Result ℕ E) (x : E) → OkIff r (g < 2 ^ 16) g → r ≡ Err x → 65535 < g
generation_past g r x h e = let f = OkIff-at_err r (g < 2 ^ 16) g x h e in omega (arith, f)

module _ (src : Bytes) (n p : ℕ) where
  -- no generation
  pub ref_no_int : plain_int (token_in src p).kind ≡ None → ref_rest n (token_in src p) ≡ None
  unfolding ref_rest
  ref_no_int e = rw (e, ref_rest) refl

  module _ (g : ℕ) (e : plain_int (token_in src p).kind ≡ Some g) where
    unfit : leb 1 n && leb g 65535 ≡ false → ref_rest n (token_in src p) ≡ None
    unfolding ref_rest
    unfit f = rw (e, f, ref_rest) refl

    -- the number 0
    pub ref_no_number : n < 1 → ref_rest n (token_in src p) ≡ None
    ref_no_number h = let a = lt-leb 1 n h in unfit (rw a refl)

    -- a generation past its bound
    pub ref_no_generation : 65535 < g → ref_rest n (token_in src p) ≡ None
    ref_no_generation h = let a = lt-leb g 65535 h in unfit (cases (leb 1 n) (λ b. rw (b, a) refl) (λ b. rw b refl))

    module _ (q : ℕ) (t : EndsAt src p q) where
      -- no `R`
      pub ref_no_mark : is_word (codes "R") (token_in src q).kind ≡ false → ref_rest n (token_in src p) ≡ None
      unfolding ref_rest ref_mark
      ref_no_mark m =
          cases (leb 1 n && leb g 65535) (λ b. rw (e, b, ref_rest, behind_token src p q t, m, ref_mark) refl) (λ b. unfit b)

      -- a generation and `R`
      pub ref_found : 1 ≤ n → g ≤ 65535 → is_word (codes "R") (token_in src q).kind ≡ true → (r : ℕ) → EndsAt src q r → ref_rest n (token_in src p) ≡ Some (ref n g, r, drop r src)
      unfolding ref_rest ref_mark
      ref_found h k m r u =
          let a = le-leb 1 n h in
          let b = le-leb g 65535 k in
          let c : leb 1 n && leb g 65535 ≡ true = rw (a, b) refl in
          rw (e, c, ref_rest, behind_token src p q t, m, ref_mark) (rw (behind_token src p q t, u.to, u.rest) refl)

      -- the same, where the place x is known to be behind it
      pub tries_found : 1 ≤ n → g ≤ 65535 → (r : ℕ) → is_word (codes "R") (token_in src q).kind ≡ true → EndsAt src q r → (x : ℕ) → x ≡ r → Tries src n p x (Some g)
      tries_found h k r m w x i =
          let l = t.low in
          let u = w.low in
          let v = w.high in
          (rw i (ref_found h k m r w), omega arith, omega arith)

-- nothing was found
pub tries_none : (src : Bytes) (n p q : ℕ) (r : Option ℕ) → r ≡ None → ref_rest n (token_in src p) ≡ None → q ≡ p → Tries src n p q r
tries_none src n p q r e f h = rw e (f, h)
