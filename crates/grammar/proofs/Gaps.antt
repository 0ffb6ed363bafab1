-- White space and comments are what is skipped.
use Rattle.std.proofs.Common.{◌≡◌, ℕ, suc, ◌+◌, Bool, true, false, eqb, [], ◌∷◌, ◌++◌, length, sym, refl, ap, ◌∙◌, subst, append_assoc, append-nil, arith, length-append, eqb-true}
use borrow.Author.Tests.{not-true}
use Rattle.format.specs.Bytes.{Bytes, is_white, is_eol, every}
use Rattle.format.specs.Space.{skip}
use Rattle.locality.proofs.Cases.{cases}
use Rattle.locality.proofs.Tests.{clash}
use Rattle.grammar.specs.Gaps.{in_comment, Gap, none, white, comment, LastGap, ended, unended}
use Rattle.grammar.proofs.Lists.{every_cons, every_first, every_others, every_none}

percent_black : is_white 37 ≡ false
unfolding is_white
percent_black = refl

in_comment_fact : (c : ℕ) → is_eol c ≡ false → in_comment c ≡ true
unfolding in_comment
in_comment_fact c e = rw e refl

no_eol : (c : ℕ) → in_comment c ≡ true → is_eol c ≡ false
unfolding in_comment
no_eol c e = not-true (is_eol c) e

-- a comment is skipped with the end of its line
comment_skips : (c : Bytes) (e p : ℕ) (ys : Bytes) → every in_comment c ≡ true → is_eol e ≡ true → skip true p (c ++ (e ∷ ys)) ≡ skip false (p + suc (length c)) ys
unfolding skip
comment_skips [] e p ys a b = rw (b, skip) (let q : suc p ≡ p + 1 = omega arith in λ i. skip false (q i) ys)
comment_skips (x ∷ c) e p ys a b =
    rw (no_eol x (every_first in_comment x c a), skip)
    (comment_skips c e (suc p) ys (every_others in_comment x c a) b ∙ (let q : suc p + suc (length c) ≡ p + suc (suc (length c)) = omega arith in λ i. skip false (q i) ys))

-- white space and comments are skipped
pub gap_skips : {g : Bytes} → Gap g → (p : ℕ) (ys : Bytes) → skip false p (g ++ ys) ≡ skip false (p + length g) ys
unfolding skip
gap_skips none p ys = let q : p ≡ p + 0 = omega arith in λ i. skip false (q i) ys
gap_skips (white {c} {g} a h) p ys = rw (a, skip) (gap_skips h (suc p) ys ∙ (let q : suc p + length g ≡ p + suc (length g) = omega arith in λ i. skip false (q i) ys))
gap_skips (comment c e {g} a b h) p ys =
    rw (append_assoc c (e ∷ g) ys)
    (rw (percent_black, skip)
    (comment_skips c e (suc p) (g ++ ys) a b
    ∙ gap_skips h (suc p + suc (length c)) ys
    ∙ (let q : suc p + suc (length c) + length g ≡ p + suc (length (c ++ (e ∷ g))) = rw length-append (omega arith) in λ i. skip false (q i) ys)))

-- what was skipped before other bytes
pub record Before (xs rest : Bytes) : Type 0 where
  pub gap : Bytes
  pub is : Gap gap
  pub parts : xs ≡ gap ++ rest

-- what was skipped inside a comment
record Commented (xs rest : Bytes) : Type 0 where
  text : Bytes
  eol : ℕ
  gap : Bytes
  plain : every in_comment text ≡ true
  ends : is_eol eol ≡ true
  is : Gap gap
  parts : xs ≡ text ++ (eol ∷ (gap ++ rest))

abbrev Behind : Bool → Bytes → Bytes → Type 0
Behind false xs rest = Before xs rest
Behind true xs rest = Commented xs rest

before_white : {xs rest : Bytes} (y : ℕ) → is_white y ≡ true → Before xs rest → Before (y ∷ xs) rest
before_white y a h = record { gap = y ∷ h.gap; is = white a h.is; parts = ap {B = Bytes} (λ ys. y ∷ ys) h.parts }

before_comment : {xs rest : Bytes} (y : ℕ) → eqb y 37 ≡ true → Commented xs rest → Before (y ∷ xs) rest
before_comment {xs} {rest} y b h = record {
  gap = 37 ∷ (h.text ++ (h.eol ∷ h.gap));
  is = comment h.text h.eol h.plain h.ends h.is;
  parts =
      let q : y ≡ 37 = eqb-true y 37 b in
      let r : xs ≡ (h.text ++ (h.eol ∷ h.gap)) ++ rest = h.parts ∙ sym (append_assoc h.text (h.eol ∷ h.gap) rest) in
      λ i. q i ∷ r i;
}

commented_ends : {xs rest : Bytes} (y : ℕ) → is_eol y ≡ true → Before xs rest → Commented (y ∷ xs) rest
commented_ends y a h = record { text = []; eol = y; gap = h.gap; plain = every_none in_comment; ends = a; is = h.is; parts = ap {B = Bytes} (λ ys. y ∷ ys) h.parts }

commented_more : {xs rest : Bytes} (y : ℕ) → is_eol y ≡ false → Commented xs rest → Commented (y ∷ xs) rest
commented_more y a h = record {
  text = y ∷ h.text;
  eol = h.eol;
  gap = h.gap;
  plain = every_cons in_comment y h.text (in_comment_fact y a) h.plain;
  ends = h.ends;
  is = h.is;
  parts = ap {B = Bytes} (λ ys. y ∷ ys) h.parts;
}

-- what is skipped before other bytes is white space and comments
skip_behind : (b : Bool) (p : ℕ) (xs : Bytes) (x : ℕ) (rest : Bytes) → (skip b p xs).1 ≡ x ∷ rest → Behind b xs (x ∷ rest)
unfolding skip
skip_behind true p [] x rest e = clash (cc)
skip_behind false p [] x rest e = clash (cc)
skip_behind true p (y ∷ xs) x rest e =
    cases (is_eol y)
    (λ a. commented_ends y a (skip_behind false (suc p) xs x rest (rw (a, skip) at e)))
    (λ a. commented_more y a (skip_behind true (suc p) xs x rest (rw (a, skip) at e)))
skip_behind false p (y ∷ xs) x rest e =
    cases (is_white y)
    (λ a. before_white y a (skip_behind false (suc p) xs x rest (rw (a, skip) at e)))
    (λ a.
    cases (eqb y 37)
    (λ b. before_comment y b (skip_behind true (suc p) xs x rest (rw (a, b, skip) at e)))
    (λ b. record { gap = []; is = none; parts = rw (a, b, skip) at e }))

pub skip_gap : (p : ℕ) (xs : Bytes) (x : ℕ) (rest : Bytes) → (skip false p xs).1 ≡ x ∷ rest → Before xs (x ∷ rest)
skip_gap p xs x rest e = skip_behind false p xs x rest e

-- the last comment is skipped
open_skips : (c : Bytes) (p : ℕ) → every in_comment c ≡ true → (skip true p c).1 ≡ []
unfolding skip
open_skips [] p a = refl
open_skips (x ∷ c) p a = rw (no_eol x (every_first in_comment x c a), skip) (open_skips c (suc p) (every_others in_comment x c a))

-- behind the last token all is skipped
pub last_skips : {g : Bytes} → LastGap g → (p : ℕ) → (skip false p g).1 ≡ []
unfolding skip
last_skips (ended {g} h) p = ap {B = Bytes} (λ ys. (skip false p ys).1) (sym (append-nil g)) ∙ ap {B = Bytes} (λ (s : ℕ × Bytes). s.1) (gap_skips h p [])
last_skips (unended {g} c h k) p =
    ap {B = Bytes} (λ (s : ℕ × Bytes). s.1) (gap_skips h p (37 ∷ c)) ∙ rw (percent_black, skip) (open_skips c (suc (p + length g)) k)

last_white : {xs : Bytes} (y : ℕ) → is_white y ≡ true → LastGap xs → LastGap (y ∷ xs)
last_white y a (ended g) = ended (white a g)
last_white y a (unended c g k) = unended c (white a g) k

last_comment : (text : Bytes) (e : ℕ) {more : Bytes} → every in_comment text ≡ true → is_eol e ≡ true → LastGap more → LastGap (37 ∷ (text ++ (e ∷ more)))
last_comment text e a b (ended g) = ended (comment text e a b g)
last_comment text e a b (unended {g} c h k) = subst LastGap (ap {B = Bytes} (λ ys. 37 ∷ ys) (append_assoc text (e ∷ g) (37 ∷ c))) (unended c (comment text e a b h) k)

-- inside the last comment, or one before it
data LastIn (xs : Bytes) : Type 0 where
  still : every in_comment xs ≡ true → LastIn xs
  closed : (text : Bytes) (e : ℕ) (more : Bytes) → every in_comment text ≡ true → is_eol e ≡ true → LastGap more → xs ≡ text ++ (e ∷ more) → LastIn xs

abbrev Lasts : Bool → Bytes → Type 0
Lasts false xs = LastGap xs
Lasts true xs = LastIn xs

in_more : {xs : Bytes} (y : ℕ) → is_eol y ≡ false → LastIn xs → LastIn (y ∷ xs)
in_more {xs} y a (still h) = still (every_cons in_comment y xs (in_comment_fact y a) h)
in_more y a (closed t e m h k l q) = closed (y ∷ t) e m (every_cons in_comment y t (in_comment_fact y a) h) k l (ap {B = Bytes} (λ ys. y ∷ ys) q)

in_last : {xs : Bytes} (y : ℕ) → eqb y 37 ≡ true → LastIn xs → LastGap (y ∷ xs)
in_last {xs} y b (still h) = let q : 37 ≡ y = sym (eqb-true y 37 b) in subst (λ c. LastGap (c ∷ xs)) q (unended xs none h)
in_last {xs} y b (closed t e m h k l r) =
    let q : 37 ≡ y = sym (eqb-true y 37 b) in
    subst (λ c. LastGap (c ∷ xs)) q (subst (λ ys. LastGap (37 ∷ ys)) (sym r) (last_comment t e h k l))

skip_lasts : (b : Bool) (p : ℕ) (xs : Bytes) → (skip b p xs).1 ≡ [] → Lasts b xs
unfolding skip
skip_lasts true p [] e = still (every_none in_comment)
skip_lasts false p [] e = ended none
skip_lasts true p (y ∷ xs) e =
    cases (is_eol y)
    (λ a. closed [] y xs (every_none in_comment) a (skip_lasts false (suc p) xs (rw (a, skip) at e)) refl)
    (λ a. in_more y a (skip_lasts true (suc p) xs (rw (a, skip) at e)))
skip_lasts false p (y ∷ xs) e =
    cases (is_white y)
    (λ a. last_white y a (skip_lasts false (suc p) xs (rw (a, skip) at e)))
    (λ a.
    cases (eqb y 37)
    (λ b. in_last y b (skip_lasts true (suc p) xs (rw (a, b, skip) at e)))
    (λ b. let h : y ∷ xs ≡ [] = rw (a, b, skip) at e in clash (cc)))

-- bytes that are all skipped are white space and comments
pub skip_last : (p : ℕ) (xs : Bytes) → (skip false p xs).1 ≡ [] → LastGap xs
skip_last p xs e = skip_lasts false p xs e
