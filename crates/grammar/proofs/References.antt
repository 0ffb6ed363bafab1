-- References are what the reader's trial finds.
use Rattle.std.proofs.Common.{◌≡◌, ℕ, ◌<◌, ◌≤◌, true, false, ◌&&◌, leb, List, [], ◌∷◌, length, ℤ, pos, negsuc, Some, None, Option, sym, refl, ap, ◌∙◌, subst, arith, le-leb, leb-true}
use Rattle.format.specs.Bytes.{Bytes, same}
use Rattle.format.specs.Objects.{Obj, ref, plain_int, plain_word, is_word, ref_mark, ref_rest}
use Rattle.format.specs.Strings.{turns}
use Rattle.format.specs.Tokens.{Kind, int, real, name, text, hex, mark, word, ended, flawed, token_at}
use Rattle.locality.specs.Locality.{Good}
use Rattle.locality.specs.LocalityObjects.{R}
use Rattle.locality.proofs.Cases.{cases, cases_o}
use Rattle.locality.proofs.Objects.{same_eq}
use Rattle.locality.proofs.Tests.{clash, and_left, and_right, equal}
use Rattle.grammar.specs.Lexing.{Lexeme, Lexes}
use Rattle.grammar.specs.Reading.{lexeme_of}
use Rattle.grammar.specs.Trees.{Refers, refers, Ahead}
use Rattle.grammar.proofs.Sequences.{head, one_lexes, lexes_none, ahead_lexes}

pub is_plain : (k : Kind) (g : ℕ) → plain_int k ≡ Some g → k ≡ int true (pos g)
unfolding plain_int
is_plain (int true (pos n)) g e = let q : n ≡ g = cc in ap {B = Kind} (λ m. int true (pos m)) q
is_plain (int true (negsuc n)) g e = clash (cc)
is_plain (int false z) g e = clash (cc)
is_plain (real w) g e = clash (cc)
is_plain (name d) g e = clash (cc)
is_plain (text w) g e = clash (cc)
is_plain (hex w) g e = clash (cc)
is_plain (mark m) g e = clash (cc)
is_plain (word w) g e = clash (cc)
is_plain ended g e = clash (cc)
is_plain (flawed f) g e = clash (cc)

pub plain_is : (k : Kind) (g : ℕ) → k ≡ int true (pos g) → plain_int k ≡ Some g
unfolding plain_int
plain_is k g e = rw e refl

pub is_word_fact : (v : Bytes) (k : Kind) → is_word v k ≡ true → k ≡ word v
unfolding is_word plain_word
is_word_fact v (word w) e = ap word (sym (same_eq v w e))
is_word_fact v (int u z) e = clash (cc)
is_word_fact v (real w) e = clash (cc)
is_word_fact v (name d) e = clash (cc)
is_word_fact v (text w) e = clash (cc)
is_word_fact v (hex w) e = clash (cc)
is_word_fact v (mark m) e = clash (cc)
is_word_fact v ended e = clash (cc)
is_word_fact v (flawed f) e = clash (cc)

pub same_self : (v : Bytes) → same v v ≡ true
unfolding same
same_self [] = refl
same_self (x ∷ v) = rw (equal x, same) (same_self v)

pub word_is : (v : Bytes) (k : Kind) → k ≡ word v → is_word v k ≡ true
unfolding is_word plain_word
word_is v k e = rw e (same_self v)

-- a generation and `R` behind an integer n of 1 or more
pub record RefAt (n g p : ℕ) (xs : Bytes) : Type 0 where
  pub low : 1 ≤ n
  pub small : g ≤ 65535
  pub gen : (token_at p xs).kind ≡ int true (pos g)
  pub mark : (token_at (token_at p xs).to (token_at p xs).rest).kind ≡ word R

-- where the reader stands behind them
abbrev pub behind : ℕ → ℕ → ℕ → Bytes → (Obj × ℕ × Bytes)
behind n g p xs = (ref n g, (token_at (token_at p xs).to (token_at p xs).rest).to, (token_at (token_at p xs).to (token_at p xs).rest).rest)

-- the trial finds them
pub ref_found : (n g p : ℕ) (xs : Bytes) → RefAt n g p xs → ref_rest n (token_at p xs) ≡ Some (behind n g p xs)
unfolding ref_rest ref_mark
ref_found n g p xs r =
    let a : leb 1 n && leb g 65535 ≡ true = rw (le-leb 1 n r.low, le-leb g 65535 r.small) refl in
    rw (plain_is (token_at p xs).kind g r.gen, ref_rest)
    (rw a (rw (word_is R (token_at (token_at p xs).to (token_at p xs).rest).kind r.mark, ref_mark) refl))

-- what the trial finds
pub ref_read : (n p : ℕ) (xs : Bytes) (r : Obj × ℕ × Bytes) → ref_rest n (token_at p xs) ≡ Some r → (g : ℕ) × RefAt n g p xs × (behind n g p xs ≡ r)
unfolding ref_rest ref_mark
ref_read n p xs r e =
    cases_o (plain_int (token_at p xs).kind)
    (λ a. clash (let z : None ≡ Some r = rw (a, ref_rest) at e in cc))
    (λ g a.
    cases (leb 1 n && leb g 65535)
    (λ b.
    cases (is_word R (token_at (token_at p xs).to (token_at p xs).rest).kind)
    (λ c. (
      g,
      record {
        low = leb-true 1 n (and_left (leb 1 n) (leb g 65535) b);
        small = leb-true g 65535 (and_right (leb 1 n) (leb g 65535) b);
        gen = is_plain (token_at p xs).kind g a;
        mark = is_word_fact R (token_at (token_at p xs).to (token_at p xs).rest).kind c;
      },
      got (behind n g p xs) r (rw (a, b, c, ref_rest, ref_mark) at e),
    ))
    (λ c. clash (let z : None ≡ Some r = rw (a, b, c, ref_rest, ref_mark) at e in cc)))
    (λ b. clash (let z : None ≡ Some r = rw (a, b, ref_rest) at e in cc)))
  where
    got : (x y : Obj × ℕ × Bytes) → ◌≡◌ {A = Option (Obj × ℕ × Bytes)} (Some x) (Some y) → x ≡ y
    got x y h = cc

-- an integer with a sign, or below 0, begins no reference
pub not_signed : {z : ℤ} {g : ℕ} {us : List Lexeme} → Refers false z g us → ⊥
not_signed r = elim r [ ]

pub not_negative : {n g : ℕ} {us : List Lexeme} → Refers true (negsuc n) g us → ⊥
not_negative r = elim r [ ]

-- the tokens that make a reference, as the reader meets them
pub refers_at : {n g : ℕ} {us : List Lexeme} {p : ℕ} {xs : Bytes} {q : ℕ} {rest : Bytes} → Refers true (pos n) g us → length xs < turns → Lexes p xs us q rest → RefAt n g p xs
refers_at {n} {g} {p = p} {xs = xs} (refers {a = a} {b = b} low small e f) h l =
    let u = head l h in
    let v = head u.more (let s = u.shorter in omega arith) in
    record { low = low; small = small; gen = ap (λ (x : Lexeme). x.kind) u.lex ∙ e; mark = ap (λ (x : Lexeme). x.kind) v.lex ∙ f }

pub good_int : (k : Kind) (g : ℕ) → k ≡ int true (pos g) → Good k
unfolding Good
good_int k g e = rw e tt

pub good_word : (k : Kind) (w : Bytes) → k ≡ word w → Good k
unfolding Good
good_word k w e = rw e tt

abbrev Nothing : ℕ → Bytes → Type 0
Nothing q rest = (t : Lexeme) (r : ℕ) (ys : Bytes) → Lexes q rest (t ∷ []) r ys → ⊥

two_refer : (n g p : ℕ) (xs : Bytes) (a b : Lexeme) (us : List Lexeme) (q : ℕ) (rest : Bytes) → length xs < turns → Lexes p xs (a ∷ b ∷ us) q rest → RefAt n g p xs → Refers true (pos n) g (a ∷ b ∷ us)
two_refer n g p xs a b us q rest h l r =
    let u = head l h in
    let v = head u.more (let s = u.shorter in omega arith) in
    refers r.low r.small (ap (λ (x : Lexeme). x.kind) (sym u.lex) ∙ r.gen) (ap (λ (x : Lexeme). x.kind) (sym v.lex) ∙ r.mark)

enough_refer : (n g p : ℕ) (xs : Bytes) (us : List Lexeme) (q : ℕ) (rest : Bytes) → length xs < turns → Lexes p xs us q rest → 2 ≤ length us → RefAt n g p xs → Refers true (pos n) g us
enough_refer n g p xs [] q rest h l s r = absurd (omega arith)
enough_refer n g p xs (a ∷ []) q rest h l s r = absurd (omega arith)
enough_refer n g p xs (a ∷ b ∷ us) q rest h l s r = two_refer n g p xs a b us q rest h l r

all_refer : (n g p : ℕ) (xs : Bytes) (us : List Lexeme) (q : ℕ) (rest : Bytes) → length xs < turns → Lexes p xs us q rest → Nothing q rest → RefAt n g p xs → Refers true (pos n) g us
all_refer n g p xs [] q rest h l s r =
    let e = lexes_none l in
    let o = one_lexes p xs (good_int (token_at p xs).kind g r.gen) in
    absurd (s _ _ _ (subst (λ ys. Lexes q ys (lexeme_of p xs (token_at p xs) ∷ []) (token_at p xs).to (token_at p xs).rest) e.1 (subst (λ m. Lexes m xs (lexeme_of p xs (token_at p xs) ∷ []) (token_at p xs).to (token_at p xs).rest) e.0 o)))
all_refer n g p xs (a ∷ []) q rest h l s r =
    let e = lexes_none (head l h).more in
    let p₁ : ℕ = (token_at p xs).to in
    let x₁ : Bytes = (token_at p xs).rest in
    let o = one_lexes p₁ x₁ (good_word (token_at p₁ x₁).kind R r.mark) in
    absurd (s _ _ _ (subst (λ ys. Lexes q ys (lexeme_of p₁ x₁ (token_at p₁ x₁) ∷ []) (token_at p₁ x₁).to (token_at p₁ x₁).rest) e.1 (subst (λ m. Lexes m x₁ (lexeme_of p₁ x₁ (token_at p₁ x₁) ∷ []) (token_at p₁ x₁).to (token_at p₁ x₁).rest) e.0 o)))
all_refer n g p xs (a ∷ b ∷ us) q rest h l s r = two_refer n g p xs a b us q rest h l r

-- where the tokens ahead make no reference, the trial finds none
pub ref_none : (n p : ℕ) (xs : Bytes) (us : List Lexeme) → length xs < turns → Ahead p xs us → ((g : ℕ) → Refers true (pos n) g us → ⊥) → ref_rest n (token_at p xs) ≡ None
ref_none n p xs us h a f = cases_o (ref_rest n (token_at p xs)) (λ e. e) (λ r e. let v = ref_read n p xs r e in absurd (f v.0 (made v.0 a v.1)))
  where
    made : (g : ℕ) → Ahead p xs us → RefAt n g p xs → Refers true (pos n) g us
    made g (Ahead.enough {q = q} {rest = rest} l s) r = enough_refer n g p xs us q rest h l s r
    made g (Ahead.all_there {q = q} {rest = rest} l s) r = all_refer n g p xs us q rest h l s r

-- where the trial finds none, no tokens ahead make a reference
pub none_refers : (n p : ℕ) (xs : Bytes) (us : List Lexeme) → length xs < turns → Ahead p xs us → ref_rest n (token_at p xs) ≡ None → (g : ℕ) → Refers true (pos n) g us → ⊥
none_refers n p xs us h a e g r =
    let l = ahead_lexes a in
    let f = ref_found n g p xs (refers_at r h l.2) in
    clash (let z : None ≡ Some (behind n g p xs) = sym e ∙ f in cc)
