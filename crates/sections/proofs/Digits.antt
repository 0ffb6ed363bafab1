-- Digits that are written are read again.
use Rattle.std.proofs.Common.{◌≡◌, ℕ, zero, suc, ◌+◌, ◌-◌, ◌*◌, ◌/◌, ◌%◌, ◌^◌, ◌<◌, ◌≤◌, Bool, true, false, ltb, [], ◌∷◌, ◌++◌, length, sym, refl, ◌∙◌, append_assoc, append-nil, mul_assoc, pow-suc, arith, length-append}
use Rattle.std.proofs.lemmas.Bool.Decides.{nat_tests}
use Rattle.std.proofs.lemmas.Bool.{le-leb, ltb-true, and_parts}
use Rattle.format.specs.Bytes.{Bytes, is_digit, span, every, value, value_on}
use Rattle.format.specs.Lines.{Piece, took, next, digits_of, digits, counted, is_empty}
use Rattle.format.specs.Sections.{begins_digit}
use Rattle.format.specs.Writing.{padded, decimal, decimal_on}
use Rattle.sections.proofs.Tests.{clash}
use Rattle.locality.proofs.Cases.{cases}

-- the place of what was taken, otherwise counted
pub took_at : {A : Type 0} {a : A} {p q : ℕ} {xs : Bytes} → p ≡ q → ◌≡◌ {A = Piece A} (took a p xs) (took a q xs)
took_at {a = a} {xs = xs} e = λ i. took a (e i) xs

-- a digit's byte is one
pub is_digit_made : (d : ℕ) → d < 10 → is_digit (48 + d) ≡ true
unfolding is_digit
is_digit_made d h = grind (arith, nat_tests)

split : (k m p : ℕ) (xs : Bytes) → digits_of (suc k) m p xs ≡ next (digits_of k m p xs) (λ m' p' xs'. digits_of 1 m' p' xs')
unfolding digits_of
split zero m p xs = refl
split (suc k) m p [] = refl
split (suc k) m p (x ∷ xs) =
    cases (is_digit x) (λ e. rw (e, digits_of) (split k (m * 10 + (x - 48)) (suc p) xs)) (λ e. rw (e, digits_of) refl)

one : (m p d : ℕ) (xs : Bytes) → d < 10 → digits_of 1 m p ((48 + d) ∷ xs) ≡ took (m * 10 + d) (suc p) xs
unfolding digits_of
one m p d xs h =
    let e : 48 + d - 48 ≡ d = omega arith in
    rw (is_digit_made d h, digits_of) (rw e refl)

-- the last k digits of a number below 10 ^ k, with zeros in front, are read again behind others
pub reads : (k m p n : ℕ) (ys : Bytes) → n < 10 ^ k → digits_of k m p (padded k n ys) ≡ took (m * 10 ^ k + n) (p + k) ys
unfolding digits_of padded
reads zero m p n ys h =
    let a : m ≡ m * 1 + n = omega arith in
    let b : p ≡ p + 0 = omega arith in
    λ i. took (a i) (b i) ys
reads (suc k) m p n ys h =
    let h' : n < 10 ^ k * 10 = rw (pow-suc 10 k) at h in
    let q : n / 10 < 10 ^ k = omega arith in
    let r : n % 10 < 10 = omega arith in
    let v : (m * 10 ^ k + n / 10) * 10 + n % 10 ≡ m * 10 ^ suc k + n = rw (pow-suc 10 k, ← mul_assoc m (10 ^ k) 10) (omega arith) in
    let w : suc (p + k) ≡ p + suc k = omega arith in
    split k m p (padded k (n / 10) ((48 + n % 10) ∷ ys))
    ∙ rw (reads k m p (n / 10) ((48 + n % 10) ∷ ys) q)
    (one (m * 10 ^ k + n / 10) (p + k) (n % 10) ys r ∙ (λ i. took (v i) (w i) ys))

-- the same from the first digit on
pub padded_read : (k p n : ℕ) (ys : Bytes) → n < 10 ^ k → digits_of k 0 p (padded k n ys) ≡ took n (p + k) ys
padded_read k p n ys h = let v : 0 * 10 ^ k + n ≡ n = omega arith in reads k 0 p n ys h ∙ (λ i. took (v i) (p + k) ys)

-- what stands behind padded digits may be split
pub padded_++ : (k n : ℕ) (xs ys : Bytes) → padded k n xs ++ ys ≡ padded k n (xs ++ ys)
unfolding padded
padded_++ zero n xs ys = refl
padded_++ (suc k) n xs ys = padded_++ k (n / 10) ((48 + n % 10) ∷ xs) ys

-- the value of digits behind others
pub value_on_++ : (n : ℕ) (xs ys : Bytes) → value_on n (xs ++ ys) ≡ value_on (value_on n xs) ys
unfolding value_on
value_on_++ n [] ys = refl
value_on_++ n (x ∷ xs) ys = value_on_++ (n * 10 + (x - 48)) xs ys

-- a test that each byte of two lists passes
pub every_++ : (f : ℕ → Bool) (xs ys : Bytes) → every f xs ≡ true → every f ys ≡ true → every f (xs ++ ys) ≡ true
unfolding every
every_++ f [] ys a b = b
every_++ f (x ∷ xs) ys a b =
    cases (f x) (λ e. rw (e, every) (every_++ f xs ys (rw (e, every) at a) b)) (λ e. rw (e, every) (rw (e, every) at a))

-- the one to k digits that f writes of n
pub record Spelt (n k : ℕ) (f : Bytes → Bytes) : Type 0 where
  pub ds : Bytes
  pub is : (acc : Bytes) → f acc ≡ ds ++ acc
  pub digit : every is_digit ds ≡ true
  pub val : value ds ≡ n
  pub some : 1 ≤ length ds
  pub few : length ds ≤ k

-- a number below 10 ^ k is written in one to k digits
pub spelt : (k n : ℕ) → n < 10 ^ suc k → Spelt n (suc k) (decimal_on (suc k) n)
unfolding decimal_on every value value_on
spelt zero n h = record {
  ds = (48 + n) ∷ [];
  is = λ acc. rw (below, decimal_on) refl;
  digit = rw (is_digit_made n (omega arith)) refl;
  val = omega arith;
  some = omega arith;
  few = omega arith;
}
  where
    below : ltb n 10 ≡ true
    below = le-leb (suc n) 10 (omega arith)
spelt (suc k) n h =
    cases (ltb n 10)
    (λ e. record {
      ds = (48 + n) ∷ [];
      is = λ acc. rw (e, decimal_on) refl;
      digit = rw (is_digit_made n (ltb-true n 10 e)) refl;
      val = omega arith;
      some = omega arith;
      few = omega arith;
    })
    (λ e. more e (spelt k (n / 10) (let h' : n < 10 ^ suc k * 10 = rw (pow-suc 10 (suc k)) at h in omega arith)))
  where
    more : ltb n 10 ≡ false → Spelt (n / 10) (suc k) (decimal_on (suc k) (n / 10)) → Spelt n (suc (suc k)) (decimal_on (suc (suc k)) n)
    more e s = record {
      ds = s.ds ++ ((48 + n % 10) ∷ []);
      is = λ acc. rw (e, decimal_on) (s.is ((48 + n % 10) ∷ acc) ∙ sym (append_assoc s.ds ((48 + n % 10) ∷ []) acc));
      digit = every_++ is_digit s.ds ((48 + n % 10) ∷ []) s.digit (rw (is_digit_made (n % 10) (omega arith)) refl);
      val = value_on_++ 0 s.ds ((48 + n % 10) ∷ []) ∙ (let v : value_on 0 s.ds ≡ n / 10 = s.val in rw v (omega arith));
      some = rw length-append (omega arith);
      few = rw length-append (let u = s.few in omega arith);
    }

-- one to ten digits that spell n
pub record Spells (n : ℕ) (ds : Bytes) : Type 0 where
  pub digit : every is_digit ds ≡ true
  pub val : value ds ≡ n
  pub some : 1 ≤ length ds
  pub few : length ds ≤ 10

-- a number below 10,000,000,000 is written in digits that spell it
pub spells : (n : ℕ) → n < 10 ^ 10 → Spells n (decimal n)
unfolding decimal
spells n h = go (spelt 9 n h)
  where
    go : Spelt n 10 (decimal_on 10 n) → Spells n (decimal_on 10 n [])
    go s =
        let d : decimal_on 10 n [] ≡ s.ds = s.is [] ∙ append-nil s.ds in
        rw d (record { digit = s.digit; val = s.val; some = s.some; few = s.few })

-- bytes that are no empty list
pub not_empty : (ds : Bytes) → 1 ≤ length ds → is_empty ds ≡ false
unfolding is_empty
not_empty [] h = absurd (omega arith)
not_empty (d ∷ ds) h = refl

-- digits are cut off whole, where no digit follows
pub span_digits : (p : ℕ) (ds ys : Bytes) → every is_digit ds ≡ true → begins_digit ys ≡ false → span is_digit p (ds ++ ys) ≡ (ds, p + length ds, ys)
unfolding span every begins_digit
span_digits p [] [] a b = let e : p ≡ p + 0 = omega arith in λ i. ([], e i, [])
span_digits p [] (y ∷ ys) a b = rw (b, span) (let e : p ≡ p + 0 = omega arith in λ i. ([], e i, y ∷ ys))
span_digits p (d ∷ ds) ys a b =
    cases (is_digit d)
    (λ e. rw (e, span) (rw (span_digits (suc p) ds ys (rw (e, every) at a) b) (let q : suc p + length ds ≡ p + suc (length ds) = omega arith in λ i. (d ∷ ds, q i, ys))))
    (λ e. let z : false ≡ true = rw (e, every) at a in clash z refl)

-- one to ten digits are read as the number that they spell, where no digit follows
pub digits_taken : (p n : ℕ) (ds ys : Bytes) → Spells n ds → begins_digit ys ≡ false → digits p (ds ++ ys) ≡ took n (p + length ds) ys
unfolding digits counted
digits_taken p n ds ys s e =
    rw (span_digits p ds ys s.digit e)
    (rw (le-leb (length ds) 10 s.few, counted) (rw (not_empty ds s.some, counted) (let v = s.val in λ i. took (v i) (p + length ds) ys)))

-- a number in decimal is read again, before any byte that is no digit
pub digits_read : (p n c : ℕ) (ys : Bytes) → n < 10 ^ 10 → is_digit c ≡ false → digits p (decimal n ++ (c ∷ ys)) ≡ took n (p + length (decimal n)) (c ∷ ys)
unfolding begins_digit
digits_read p n c ys h e = digits_taken p n (decimal n) (c ∷ ys) (spells n h) e

-- digits that spell a number begin with one
pub spelt_begin : (n : ℕ) (ds ys : Bytes) → Spells n ds → begins_digit (ds ++ ys) ≡ true
unfolding begins_digit every
spelt_begin n [] ys s = absurd (omega (arith, s.some))
spelt_begin n (d ∷ ds) ys s = (and_parts (is_digit d) (every is_digit ds) s.digit).0

-- a number in decimal begins with a digit
pub decimal_begins : (n : ℕ) (ys : Bytes) → n < 10 ^ 10 → begins_digit (decimal n ++ ys) ≡ true
decimal_begins n ys h = spelt_begin n (decimal n) ys (spells n h)

-- how many bytes padded digits are
pub padded_length : (k n : ℕ) (ys : Bytes) → length (padded k n ys) ≡ k + length ys
unfolding padded
padded_length zero n ys = omega arith
padded_length (suc k) n ys = padded_length k (n / 10) ((48 + n % 10) ∷ ys) ∙ omega arith
