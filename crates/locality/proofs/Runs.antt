-- Runs of bytes that pass a test: where they stop, and that numbers, names and words depend on their own bytes alone.
use Rattle.std.proofs.Common.{◌≡◌, ℕ, suc, ◌+◌, ◌*◌, Bool, true, false, eqb, leb, [], ◌∷◌, ◌++◌, length, Some, None, refl, ap, ◌∙◌, arith}
use Rattle.format.specs.Bytes.{Bytes, is_digit, some, span, value}
use Rattle.format.specs.Numbers.{starts_number, stops_at, bounded, unsigned_part, numeral}
use Rattle.format.specs.Names.{hex_digit, Decoded, decoded, wrong_hash, joined, Escape, plain, hash, half, decode}
use Rattle.format.specs.Tokens.{Kind, name_kind, numeral_kind, run_kind}
use Rattle.locality.specs.Locality.{stops, Good, is_run}
use Rattle.locality.proofs.Cases.{cases, cases_o}

-- a run and what stands behind it are the bytes
pub span_parts : (f : ℕ → Bool) (p : ℕ) (xs : Bytes) → xs ≡ (span f p xs).0 ++ (span f p xs).2
unfolding span
span_parts f p [] = refl
span_parts f p (x ∷ xs) =
    cases (f x) (λ e. rw (e, span) (ap {B = Bytes} (λ ys. x ∷ ys) (span_parts f (suc p) xs))) (λ e. rw (e, span) refl)

-- behind a run no byte passes
pub span_stops : (f : ℕ → Bool) (p : ℕ) (xs : Bytes) → stops f (span f p xs).2 ≡ true
unfolding span stops
span_stops f p [] = refl
span_stops f p (x ∷ xs) = cases (f x) (λ e. rw (e, span) (span_stops f (suc p) xs)) (λ e. rw (e, span) (rw e refl))

-- where a run ends
pub span_to : (f : ℕ → Bool) (p : ℕ) (xs : Bytes) → (span f p xs).1 ≡ p + length (span f p xs).0
unfolding span
span_to f p [] = omega arith
span_to f p (x ∷ xs) = cases (f x) (λ e. rw (e, span) (span_to f (suc p) xs ∙ omega arith)) (λ e. rw (e, span) (omega arith))

-- where no byte passes, the run has none
pub span_all : (f : ℕ → Bool) (p : ℕ) (ys : Bytes) → stops f ys ≡ true → span f p ys ≡ ([], p, ys)
unfolding span stops
span_all f p [] h = refl
span_all f p (y ∷ ys) h = cases (f y) (λ e. absurd (let z : ◌≡◌ {A = Bool} false true = rw e at h in let w : ◌≡◌ {A = ℕ} 0 1 = cc in omega arith)) (λ e. rw (e, span) refl)

-- a run is the same before any bytes that do not lengthen it
pub span_again : (f : ℕ → Bool) (p : ℕ) (xs : Bytes) (p' : ℕ) (ys : Bytes) → stops f ys ≡ true →
    span f p' ((span f p xs).0 ++ ys) ≡ ((span f p xs).0, p' + length (span f p xs).0, ys)
unfolding span
span_again f p [] p' ys h = span_all f p' ys h ∙ (let e : p' ≡ p' + 0 = omega arith in λ i. ([], e i, ys))
span_again f p (x ∷ xs) p' ys h =
    cases (f x)
    (λ e. rw (e, span) (rw (e, span) (rw (span_again f (suc p) xs (suc p') ys h)
    (let n : ℕ = length (span f (suc p) xs).0 in let q : suc p' + n ≡ p' + suc n = omega arith in λ i. (x ∷ (span f (suc p) xs).0, q i, ys)))))
    (λ e. rw (e, span) (span_all f p' ys h ∙ (let q : p' ≡ p' + 0 = omega arith in λ i. ([], q i, ys))))

-- what an expression of a place is there, it is everywhere, and it is a run
abbrev pub Steady : (ℕ → Kind) → ℕ → Type 0
Steady k p = (is_run (k p) ≡ true) × ((p' : ℕ) → k p' ≡ k p)

-- that digits and a period go on to the end does not depend on the place
pub stops_at_none : (b : Bool) (p p' : ℕ) (xs : Bytes) → stops_at b p xs ≡ None → stops_at b p' xs ≡ None
unfolding stops_at
stops_at_none b p p' [] e = refl
stops_at_none b p p' (x ∷ xs) e =
    cases (is_digit x)
    (λ a. rw (a, stops_at) (stops_at_none b (suc p) (suc p') xs (rw (a, stops_at) at e)))
    (λ a.
    cases (eqb x 46)
    (λ c. period b (λ k. stops_at_none true (suc p) (suc p') xs k) a c e)
    (λ c. absurd (let s : Some p ≡ None = rw (a, c, stops_at) at e in let z : ◌≡◌ {A = ℕ} 0 1 = cc in omega arith)))
  where
    period : (b : Bool) → (stops_at true (suc p) xs ≡ None → stops_at true (suc p') xs ≡ None) → is_digit x ≡ false → eqb x 46 ≡ true → stops_at b p (x ∷ xs) ≡ None → stops_at b p' (x ∷ xs) ≡ None
    period true k a c h = absurd (let s : Some p ≡ None = rw (a, c, stops_at) at h in let z : ◌≡◌ {A = ℕ} 0 1 = cc in omega arith)
    period false k a c h = rw (a, c, stops_at) (k (rw (a, c, stops_at) at h))

bounded_run : (w : Bytes) (u m : Bool) (n : ℕ) → Good (numeral_kind w (bounded u m n)) → is_run (numeral_kind w (bounded u m n)) ≡ true
unfolding bounded numeral_kind Good is_run
bounded_run w u true n g = cases (leb n 2147483648) (λ a. rw (a, bounded) refl) (λ a. absurd (rw (a, bounded) at g))
bounded_run w u false n g = cases (leb n 2147483647) (λ a. rw (a, bounded) refl) (λ a. absurd (rw (a, bounded) at g))

unsigned_steady : (w : Bytes) (u m : Bool) (p : ℕ) (ds : Bytes) → Good (numeral_kind w (unsigned_part u m p ds)) → Steady (λ q. numeral_kind w (unsigned_part u m q ds)) p
unfolding unsigned_part numeral_kind Good is_run
unsigned_steady w u m p ds g =
    cases_o (stops_at false p ds)
    (λ a.
    cases (some is_digit ds)
    (λ b.
    cases (some (λ c. eqb c 46) ds)
    (λ c. (rw (a, b, c, unsigned_part) refl, λ p'. let a' = stops_at_none false p p' ds a in rw (a, a', b, c, unsigned_part) refl))
    (λ c. (rw (a, b, c, unsigned_part) (bounded_run w u m (value ds) (rw (a, b, c, unsigned_part) at g)), λ p'. let a' = stops_at_none false p p' ds a in rw (a, a', b, c, unsigned_part) refl)))
    (λ b. absurd (rw (a, b, unsigned_part) at g)))
    (λ q a. absurd (rw (a, unsigned_part) at g))

number_steady : (w : Bytes) (p x : ℕ) (xs : Bytes) → Good (numeral_kind w (numeral p (x ∷ xs))) → Steady (λ q. numeral_kind w (numeral q (x ∷ xs))) p
unfolding numeral
number_steady w p x xs g =
    cases (eqb x 45)
    (λ a. let s = unsigned_steady w false true (suc p) xs (rw (a, numeral) at g) in rw (a, numeral) (s.0, λ p'. s.1 (suc p')))
    (λ a.
    cases (eqb x 43)
    (λ b. let s = unsigned_steady w false false (suc p) xs (rw (a, b, numeral) at g) in rw (a, b, numeral) (s.0, λ p'. s.1 (suc p')))
    (λ b. rw (a, b, numeral) (unsigned_steady w true false p (x ∷ xs) (rw (a, b, numeral) at g))))

-- regular bytes that are a token are the same one at every place
pub run_steady : (p x : ℕ) (xs : Bytes) → Good (run_kind p x (x ∷ xs)) → Steady (λ q. run_kind q x (x ∷ xs)) p
unfolding run_kind is_run
run_steady p x xs g =
    cases (starts_number x)
    (λ a. rw (a, run_kind) (number_steady (x ∷ xs) p x xs (rw (a, run_kind) at g)))
    (λ a. (rw (a, run_kind) refl, λ p'. rw (a, run_kind) refl))

-- where decoding stands, with another place of the `#`
unfoldable pub moved : ℕ → Escape → Escape
moved s plain = plain
moved s (hash t) = hash s
moved s (half t h) = half s h

not_wrong : {q : ℕ} {d : Bytes} {B : Type 0} → wrong_hash q ≡ decoded d → B
not_wrong e = let z : ◌≡◌ {A = ℕ} 0 1 = cc in absurd (omega arith)

joined_again : (c : ℕ) (z z' : Decoded) (d : Bytes) → joined c z ≡ decoded d → ((b : Bytes) → z ≡ decoded b → z' ≡ decoded b) → joined c z' ≡ decoded d
unfolding joined
joined_again c (wrong_hash q) z' d e f = not_wrong e
joined_again c (decoded b) z' d e f = rw (f b refl) e

-- what a name stands for does not depend on the place
pub decode_again : (e : Escape) (s p p' : ℕ) (xs : Bytes) (d : Bytes) → decode e p xs ≡ decoded d → decode (moved s e) p' xs ≡ decoded d
unfolding decode moved
decode_again plain s p p' [] d h = h
decode_again (hash t) s p p' [] d h = not_wrong h
decode_again (half t v) s p p' [] d h = not_wrong h
decode_again plain s p p' (x ∷ xs) d h =
    cases (eqb x 35)
    (λ a. rw (a, decode) (decode_again (hash p) p' (suc p) (suc p') xs d (rw (a, decode) at h)))
    (λ a. rw (a, decode) (joined_again x (decode plain (suc p) xs) (decode plain (suc p') xs) d (rw (a, decode) at h) (λ b k. decode_again plain s (suc p) (suc p') xs b k)))
decode_again (hash t) s p p' (x ∷ xs) d h =
    cases_o (hex_digit x)
    (λ a. not_wrong (rw (a, decode) at h))
    (λ v a. rw (a, decode) (decode_again (half t v) s (suc p) (suc p') xs d (rw (a, decode) at h)))
decode_again (half t v) s p p' (x ∷ xs) d h =
    cases_o (hex_digit x)
    (λ a. not_wrong (rw (a, decode) at h))
    (λ l a.
    cases (eqb (v * 16 + l) 0)
    (λ b. not_wrong (rw (a, b, decode) at h))
    (λ b. rw (a, b, decode) (joined_again (v * 16 + l) (decode plain (suc p) xs) (decode plain (suc p') xs) d (rw (a, b, decode) at h) (λ c k. decode_again plain s (suc p) (suc p') xs c k))))

-- a name is the same one at every place
pub name_steady : (p : ℕ) (xs : Bytes) → Good (name_kind (decode plain p xs)) → Steady (λ q. name_kind (decode plain q xs)) p
unfolding name_kind is_run Good moved
name_steady p xs g = go (decode plain p xs) refl g
  where
    go : (z : Decoded) → decode plain p xs ≡ z → Good (name_kind z) → Steady (λ q. name_kind (decode plain q xs)) p
    go (wrong_hash q) e h = absurd h
    go (decoded d) e h = (rw e refl, λ p'. rw (e, decode_again plain 0 p p' xs d e) refl)
