-- White space and comments: bytes that begin with neither are not skipped.
use Rattle.std.proofs.Common.{◌≡◌, ℕ, suc, ◌+◌, ◌≤◌, Bool, true, false, eqb, [], ◌∷◌, ◌++◌, length, sym, refl, ap, ◌∙◌, subst, arith}
use Rattle.format.specs.Bytes.{Bytes, is_eol, is_white}
use Rattle.format.specs.Space.{skip}
use Rattle.format.specs.Tokens.{ended, Token, tok, start_at}
use Rattle.locality.specs.Locality.{Good, Fits, stops}
use Rattle.locality.proofs.Cases.{cases}
use Rattle.locality.proofs.Tokens.{Own, start_own, start_stops}
use Rattle.locality.proofs.Tests.{clash}

-- a byte that is neither white space nor `%`
pub record Tight (x : ℕ) : Type 0 where
  pub black : is_white x ≡ false
  pub plain : eqb x 37 ≡ false

-- nothing is skipped before such a byte
pub tight_stays : (p x : ℕ) (xs : Bytes) → Tight x → skip false p (x ∷ xs) ≡ (p, x ∷ xs)
unfolding skip
tight_stays p x xs t = rw (t.black, t.plain, skip) refl

-- what is not skipped begins with such a byte
pub skip_tight : (c : Bool) (p : ℕ) (xs : Bytes) (x : ℕ) (rest : Bytes) → (skip c p xs).1 ≡ x ∷ rest → Tight x
unfolding skip
skip_tight true p [] x rest e = clash (cc)
skip_tight false p [] x rest e = clash (cc)
skip_tight true p (y ∷ ys) x rest e =
    cases (is_eol y)
    (λ a. skip_tight false (suc p) ys x rest (rw (a, skip) at e))
    (λ a. skip_tight true (suc p) ys x rest (rw (a, skip) at e))
skip_tight false p (y ∷ ys) x rest e =
    cases (is_white y)
    (λ a. skip_tight false (suc p) ys x rest (rw (a, skip) at e))
    (λ a.
    cases (eqb y 37)
    (λ b. skip_tight true (suc p) ys x rest (rw (a, b, skip) at e))
    (λ b.
    let h : y ∷ ys ≡ x ∷ rest = rw (a, b, skip) at e in
    let q : y ≡ x = cc in
    subst Tight q (record { black = a; plain = b })))

-- skipping goes on
skip_on : (c : Bool) (p : ℕ) (xs : Bytes) → p ≤ (skip c p xs).0
unfolding skip
skip_on true p [] = omega arith
skip_on false p [] = omega arith
skip_on true p (x ∷ xs) =
    cases (is_eol x)
    (λ a. rw (a, skip) (let h = skip_on false (suc p) xs in omega arith))
    (λ a. rw (a, skip) (let h = skip_on true (suc p) xs in omega arith))
skip_on false p (x ∷ xs) =
    cases (is_white x)
    (λ a. rw (a, skip) (let h = skip_on false (suc p) xs in omega arith))
    (λ a.
    cases (eqb x 37)
    (λ b. rw (a, b, skip) (let h = skip_on true (suc p) xs in omega arith))
    (λ b. rw (a, b, skip) (omega arith)))

-- where nothing is skipped, the first byte is neither white space nor `%`
pub stays_tight : (p x : ℕ) (xs : Bytes) → (skip false p (x ∷ xs)).0 ≡ p → Tight x
unfolding skip
stays_tight p x xs e =
    cases (is_white x)
    (λ a. let h : (skip false (suc p) xs).0 ≡ p = rw (a, skip) at e in let k = skip_on false (suc p) xs in absurd (omega arith))
    (λ a.
    cases (eqb x 37)
    (λ b. let h : (skip true (suc p) xs).0 ≡ p = rw (a, b, skip) at e in let k = skip_on true (suc p) xs in absurd (omega arith))
    (λ b. record { black = a; plain = b }))

-- a token's own bytes, which begin with its first
pub record Bare (xs : Bytes) (t : Token) : Type 0 where
  pub first : ℕ
  pub others : Bytes
  pub parts : xs ≡ (first ∷ others) ++ t.rest
  pub from : ℕ
  pub is : t ≡ tok t.kind from ((first ∷ others) ++ t.rest) (from + length (first ∷ others)) t.rest
  pub again : (p : ℕ) (ys : Bytes) → Fits t.kind ys → start_at p ((first ∷ others) ++ ys) ≡ tok t.kind p ((first ∷ others) ++ ys) (p + length (first ∷ others)) ys

-- a token at its own place
pub start_bare : (p : ℕ) (xs : Bytes) → Good (start_at p xs).kind → Bare xs (start_at p xs)
unfolding Good start_at
start_bare p [] g = absurd g
start_bare p (x ∷ xs) g = go (start_own p (x ∷ xs) g)
  where
    t : Token
    t = start_at p (x ∷ xs)

    go : Own (x ∷ xs) (start_at p (x ∷ xs)) → Bare (x ∷ xs) (start_at p (x ∷ xs))
    go o = split o.core o.parts o.again
      where
        split : (c : Bytes) → x ∷ xs ≡ c ++ (start_at p (x ∷ xs)).rest →
            ((p' : ℕ) (ys : Bytes) → Fits (start_at p (x ∷ xs)).kind ys → start_at p' (c ++ ys) ≡ tok (start_at p (x ∷ xs)).kind p' (c ++ ys) (p' + length c) ys) → Bare (x ∷ xs) (start_at p (x ∷ xs))
        split [] e f = none (ap (λ (u : Token). u.kind) (f 0 [] (λ _. unfold stops in refl)))
          where
            none : ended ≡ (start_at p (x ∷ xs)).kind → Bare (x ∷ xs) (start_at p (x ∷ xs))
            none k = absurd (subst Good (sym k) g)
        split (y ∷ c) e f = record {
          first = y;
          others = c;
          parts = e;
          from = p;
          is = ap (start_at p) e ∙ f p (start_at p (x ∷ xs)).rest (λ i. start_stops p (x ∷ xs) i);
          again = f;
        }
