-- A string's own bytes decide it.
use Rattle.std.proofs.Common.{◌≡◌, ℕ, zero, suc, ◌+◌, true, false, ◌||◌, eqb, [], ◌∷◌, ◌++◌, length, sym, refl, ap, ◌∙◌, append_assoc, arith, length-append}
use Rattle.format.specs.Bytes.{Bytes, is_white}
use Rattle.format.specs.Strings.{Span, closed, unclosed, too_deep_at, broken_at, Bracketed, turns, onward, literal, string_by, string, is_hex, hex_string}
use Rattle.locality.proofs.Cases.{cases}

-- The reader r, which at p took xs down to rest and closed at q, does so before any bytes, from any place.
-- From the place p it starts at s p.
pub record Closes (r : ℕ → Bytes → Span) (s : ℕ → ℕ) (p : ℕ) (xs : Bytes) (q : ℕ) (rest : Bytes) : Type 0 where
  pub pre : Bytes
  pub parts : xs ≡ pre ++ rest
  pub at : q ≡ s p + length pre
  pub again : (p' : ℕ) (ys : Bytes) → r p' (pre ++ ys) ≡ closed (s p' + length pre) ys

-- whatever the reader closes, it closes so before any bytes
abbrev pub AlwaysCloses : (ℕ → Bytes → Span) → (ℕ → ℕ) → Type 0
AlwaysCloses r s = (p : ℕ) (xs : Bytes) (q : ℕ) (rest : Bytes) → r p xs ≡ closed q rest → Closes r s p xs q rest

-- a string whose bytes end, nest too deep or break is not closed
never_closed : {q : ℕ} {rest : Bytes} {B : Type 0} → unclosed ≡ closed q rest → B
never_closed e = let z : ◌≡◌ {A = ℕ} 0 1 = cc in absurd (omega arith)

never_deep : {p q : ℕ} {rest : Bytes} {B : Type 0} → too_deep_at p ≡ closed q rest → B
never_deep e = let z : ◌≡◌ {A = ℕ} 0 1 = cc in absurd (omega arith)

never_broken : {p q : ℕ} {rest : Bytes} {B : Type 0} → broken_at p ≡ closed q rest → B
never_broken e = let z : ◌≡◌ {A = ℕ} 0 1 = cc in absurd (omega arith)

-- one byte more in front
closes_more : {r s : ℕ → Bytes → Span} {p : ℕ} {xs : Bytes} {q : ℕ} {rest : Bytes} (x : ℕ) →
    ((p' : ℕ) (ys : Bytes) → r p' (x ∷ ys) ≡ s (suc p') ys) → Closes s (λ n. n) (suc p) xs q rest → Closes r (λ n. n) p (x ∷ xs) q rest
closes_more {p = p} {q = q} x f l = record {
  pre = x ∷ l.pre;
  parts = ap {B = Bytes} (λ ys. x ∷ ys) l.parts;
  at = l.at ∙ omega arith;
  again = λ p' ys. f p' (l.pre ++ ys) ∙ l.again (suc p') ys ∙ (let e : suc p' + length l.pre ≡ p' + suc (length l.pre) = omega arith in λ i. closed (e i) ys);
}

-- just one byte
closes_last : {r : ℕ → Bytes → Span} {p : ℕ} {xs : Bytes} {q : ℕ} {rest : Bytes} (x : ℕ) →
    ((p' : ℕ) (ys : Bytes) → r p' (x ∷ ys) ≡ closed (suc p') ys) → closed (suc p) xs ≡ closed q rest → Closes r (λ n. n) p (x ∷ xs) q rest
closes_last {p = p} {xs = xs} {q = q} {rest = rest} x f e =
    let b : xs ≡ rest = cc in
    let c : suc p ≡ q = cc in
    record {
      pre = x ∷ [];
      parts = ap {B = Bytes} (λ ys. x ∷ ys) b;
      at = omega arith;
      again = λ p' ys. f p' ys ∙ (let n : suc p' ≡ p' + 1 = omega arith in λ i. closed (n i) ys);
    }

module _ (inner : Bracketed) (h : AlwaysCloses inner suc) where
  -- a bracketed part, and what comes behind it
  bracketed : (n p x : ℕ) (xs : Bytes) (q : ℕ) (rest : Bytes) → AlwaysCloses (literal inner n) (λ m. m) →
      ((p' : ℕ) (ys : Bytes) → literal inner (suc n) p' (x ∷ ys) ≡ onward (inner p' ys) (λ a zs. literal inner n a zs)) →
      (z : Span) → inner p xs ≡ z → onward z (λ a zs. literal inner n a zs) ≡ closed q rest →
      Closes (literal inner (suc n)) (λ m. m) p (x ∷ xs) q rest
  bracketed n p x xs q rest k f unclosed e g = never_closed g
  bracketed n p x xs q rest k f (too_deep_at a) e g = never_deep g
  bracketed n p x xs q rest k f (broken_at a) e g = never_broken g
  bracketed n p x xs q rest k f (closed a zs) e g = go (h p xs a zs e) (k a zs q rest g)
    where
      go : Closes inner suc p xs a zs → Closes (literal inner n) (λ m. m) a zs q rest → Closes (literal inner (suc n)) (λ m. m) p (x ∷ xs) q rest
      go l m = record {
        pre = x ∷ (l.pre ++ m.pre);
        parts = ap {B = Bytes} (λ ys. x ∷ ys) (l.parts ∙ ap (λ ys. l.pre ++ ys) m.parts ∙ sym (append_assoc l.pre m.pre rest));
        at = m.at ∙ rw length-append (let v = l.at in omega arith);
        again = λ p' ys.
            f p' ((l.pre ++ m.pre) ++ ys)
            ∙ rw append_assoc
            (rw (l.again p' (m.pre ++ ys))
            (m.again (suc p' + length l.pre) ys
            ∙ (let v : suc p' + length l.pre + length m.pre ≡ p' + suc (length (l.pre ++ m.pre)) = rw length-append (omega arith) in λ i. closed (v i) ys)));
      }

  -- a literal string from behind its bracket
  pub literal_closes : (n : ℕ) → AlwaysCloses (literal inner n) (λ m. m)
  unfolding literal
  literal_closes zero p xs q rest e = never_closed e
  literal_closes (suc n) p [] q rest e = never_closed e
  literal_closes (suc n) p (x ∷ xs) q rest e =
      cases (eqb x 41)
      (λ a. closes_last x (λ p' ys. rw (a, literal) refl) (rw (a, literal) at e))
      (λ a.
      cases (eqb x 40)
      (λ b. bracketed n p x xs q rest (literal_closes n) (λ p' ys. rw (a, b, literal) refl) (inner p xs) refl (rw (a, b, literal) at e))
      (λ b.
      cases (eqb x 92)
      (λ c. escaped xs (literal_closes n) a b c (rw (a, b, c, literal) at e))
      (λ c. closes_more x (λ p' ys. rw (a, b, c, literal) refl) (literal_closes n (suc p) xs q rest (rw (a, b, c, literal) at e)))))
    where
      escaped : (ys : Bytes) → AlwaysCloses (literal inner n) (λ m. m) → eqb x 41 ≡ false → eqb x 40 ≡ false → eqb x 92 ≡ true →
          ◌≡◌ {A = Span} (elim ys [ [] ↦ unclosed | y ∷ zs ↦ literal inner n (suc (suc p)) zs ]) (closed q rest) →
          Closes (literal inner (suc n)) (λ m. m) p (x ∷ ys) q rest
      escaped [] k a b c g = never_closed g
      escaped (y ∷ ys) k a b c g = two (k (suc (suc p)) ys q rest g)
        where
          two : Closes (literal inner n) (λ m. m) (suc (suc p)) ys q rest → Closes (literal inner (suc n)) (λ m. m) p (x ∷ y ∷ ys) q rest
          two l = record {
            pre = x ∷ y ∷ l.pre;
            parts = ap {B = Bytes} (λ zs. x ∷ y ∷ zs) l.parts;
            at = l.at ∙ omega arith;
            again = λ p' zs.
                rw (a, b, c, literal)
                (l.again (suc (suc p')) zs ∙ (let v : suc (suc p') + length l.pre ≡ p' + suc (suc (length l.pre)) = omega arith in λ i. closed (v i) zs));
          }

-- a literal string at its opening bracket, given the bytes behind it
pub string_by_closes : (d : ℕ) → AlwaysCloses (string_by d) suc
unfolding string_by
string_by_closes zero p xs q rest e = never_deep e
string_by_closes (suc d) p xs q rest e = go (literal_closes (string_by d) (string_by_closes d) turns (suc p) xs q rest e)
  where
    go : Closes (literal (string_by d) turns) (λ m. m) (suc p) xs q rest → Closes (string_by (suc d)) suc p xs q rest
    go l = record { pre = l.pre; parts = l.parts; at = l.at; again = λ p' ys. l.again (suc p') ys }

-- a literal string
pub string_closes : AlwaysCloses string suc
unfolding string
string_closes p xs q rest e = go (string_by_closes 32 p xs q rest e)
  where
    go : Closes (string_by 32) suc p xs q rest → Closes string suc p xs q rest
    go l = record { pre = l.pre; parts = l.parts; at = l.at; again = λ p' ys. l.again p' ys }

-- a hex string from behind its mark
pub hex_string_closes : AlwaysCloses hex_string (λ m. m)
unfolding hex_string
hex_string_closes p [] q rest e = never_closed e
hex_string_closes p (x ∷ xs) q rest e =
    cases (eqb x 62)
    (λ a. closes_last x (λ p' ys. rw (a, hex_string) refl) (rw (a, hex_string) at e))
    (λ a.
    cases (is_hex x || is_white x)
    (λ b. closes_more x (λ p' ys. rw (a, b, hex_string) refl) (hex_string_closes (suc p) xs q rest (rw (a, b, hex_string) at e)))
    (λ b. never_broken (rw (a, b, hex_string) at e)))
