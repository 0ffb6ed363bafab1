-- Decimal digits: what is written of a number, and the token that they are.
use Rattle.std.proofs.Common.{◌≡◌, ℕ, zero, suc, ◌+◌, ◌-◌, ◌*◌, ◌/◌, ◌%◌, ◌^◌, ◌<◌, ◌≤◌, Bool, true, false, ◌||◌, eqb, ltb, leb, [], ◌∷◌, ◌++◌, length, pos, None, sym, refl, ap, ◌∙◌, subst, append_assoc, append-nil, pow-suc, arith, length-append, ltb-true, le-leb, leb-true}
use Rattle.std.proofs.lemmas.Bool.Decides.{nat_tests}
use Rattle.format.specs.Bytes.{Bytes, is_digit, is_white, is_regular, is_delimiter, span, every, some, value, value_on}
use Rattle.format.specs.Numbers.{starts_number, stops_at, bounded, unsigned_part, numeral}
use Rattle.format.specs.Space.{skip}
use Rattle.format.specs.Tokens.{int, tok, numeral_kind, run_kind, run_token, start_at, token_at}
use Rattle.format.specs.Writing.{decimal, decimal_on}
use Rattle.locality.proofs.Cases.{cases}
use Rattle.locality.proofs.Tests.{clash, and_left, and_right}

-- a digit that is made of a number below ten
pub is_digit_made : (d : ℕ) → d < 10 → is_digit (48 + d) ≡ true
unfolding is_digit
is_digit_made d h = grind (arith, nat_tests)

value_on_++ : (n : ℕ) (xs ys : Bytes) → value_on n (xs ++ ys) ≡ value_on (value_on n xs) ys
unfolding value_on
value_on_++ n [] ys = refl
value_on_++ n (x ∷ xs) ys = value_on_++ (n * 10 + (x - 48)) xs ys

-- a test that two lists pass is passed by the two joined
pub every_++ : (f : ℕ → Bool) (xs ys : Bytes) → every f xs ≡ true → every f ys ≡ true → every f (xs ++ ys) ≡ true
unfolding every
every_++ f [] ys a b = b
every_++ f (x ∷ xs) ys a b =
    cases (f x) (λ e. rw (e, every) (every_++ f xs ys (rw (e, every) at a) b)) (λ e. rw (e, every) (rw (e, every) at a))

-- the digits that are written of n, at most k of them
pub record Spelt (n k : ℕ) (f : Bytes → Bytes) : Type 0 where
  pub ds : Bytes
  pub is : (acc : Bytes) → f acc ≡ ds ++ acc
  pub digit : every is_digit ds ≡ true
  pub val : value ds ≡ n
  pub some : 1 ≤ length ds
  pub few : length ds ≤ k

-- what is written of a number spells it
pub spelt : (k n : ℕ) → n < 10 ^ suc k → Spelt n (suc k) (decimal_on (suc k) n)
unfolding decimal_on every value value_on
spelt zero n h = record {
  ds = (48 + n) ∷ [];
  is = λ acc. rw (le-leb (suc n) 10 (omega arith), decimal_on) refl;
  digit = rw (is_digit_made n (omega arith)) refl;
  val = omega arith;
  some = omega arith;
  few = omega arith;
}
spelt (suc k) n h =
    cases (ltb n 10)
    (λ e. record {
      ds = (48 + n) ∷ [];
      is = λ acc. rw (e, decimal_on) refl;
      digit = rw (is_digit_made n (ltb-true n 10 e)) refl;
      val = omega arith;
      some = omega arith;
      few = omega arith;
    })
    (λ e. more e (spelt k (n / 10) (let h' : n < 10 ^ suc k * 10 = rw (pow-suc 10 (suc k)) at h in omega arith)))
  where
    more : ltb n 10 ≡ false → Spelt (n / 10) (suc k) (decimal_on (suc k) (n / 10)) → Spelt n (suc (suc k)) (decimal_on (suc (suc k)) n)
    more e s = record {
      ds = s.ds ++ ((48 + n % 10) ∷ []);
      is = λ acc. rw (e, decimal_on) (s.is ((48 + n % 10) ∷ acc) ∙ sym (append_assoc s.ds ((48 + n % 10) ∷ []) acc));
      digit = every_++ is_digit s.ds ((48 + n % 10) ∷ []) s.digit (rw (is_digit_made (n % 10) (omega arith)) refl);
      val = value_on_++ 0 s.ds ((48 + n % 10) ∷ []) ∙ (let v : value_on 0 s.ds ≡ n / 10 = s.val in rw v (omega arith));
      some = rw length-append (omega arith);
      few = rw length-append (let u = s.few in omega arith);
    }

-- a front whose bytes all pass, before a byte that does not
pub span_every : (f : ℕ → Bool) (p : ℕ) (ds : Bytes) (c : ℕ) (ys : Bytes) → every f ds ≡ true → f c ≡ false → span f p (ds ++ (c ∷ ys)) ≡ (ds, p + length ds, c ∷ ys)
unfolding span every
span_every f p [] c ys a b = rw (b, span) (let e : p ≡ p + 0 = omega arith in λ i. ([], e i, c ∷ ys))
span_every f p (d ∷ ds) c ys a b =
    cases (f d)
    (λ e. rw (e, span) (rw (span_every f (suc p) ds c ys (rw (e, every) at a) b) (let q : suc p + length ds ≡ p + suc (length ds) = omega arith in λ i. (d ∷ ds, q i, c ∷ ys))))
    (λ e. let z : false ≡ true = rw (e, every) at a in clash (cc))

-- what a digit is
pub record Figure (d : ℕ) : Type 0 where
  pub white : is_white d ≡ false
  pub percent : eqb d 37 ≡ false
  pub regular : is_regular d ≡ true
  pub starts : starts_number d ≡ true
  pub minus : eqb d 45 ≡ false
  pub plus : eqb d 43 ≡ false
  pub period : eqb d 46 ≡ false

figure : (e : ℕ) → e < 10 → Figure (48 + e)
unfolding is_white is_regular is_delimiter starts_number is_digit
figure zero h = record { white = refl; percent = refl; regular = refl; starts = refl; minus = refl; plus = refl; period = refl }
figure (suc zero) h = record { white = refl; percent = refl; regular = refl; starts = refl; minus = refl; plus = refl; period = refl }
figure (suc (suc zero)) h = record { white = refl; percent = refl; regular = refl; starts = refl; minus = refl; plus = refl; period = refl }
figure (suc (suc (suc zero))) h = record { white = refl; percent = refl; regular = refl; starts = refl; minus = refl; plus = refl; period = refl }
figure (suc (suc (suc (suc zero)))) h = record { white = refl; percent = refl; regular = refl; starts = refl; minus = refl; plus = refl; period = refl }
figure (suc (suc (suc (suc (suc zero))))) h = record { white = refl; percent = refl; regular = refl; starts = refl; minus = refl; plus = refl; period = refl }
figure (suc (suc (suc (suc (suc (suc zero)))))) h = record { white = refl; percent = refl; regular = refl; starts = refl; minus = refl; plus = refl; period = refl }
figure (suc (suc (suc (suc (suc (suc (suc zero))))))) h = record { white = refl; percent = refl; regular = refl; starts = refl; minus = refl; plus = refl; period = refl }
figure (suc (suc (suc (suc (suc (suc (suc (suc zero)))))))) h = record { white = refl; percent = refl; regular = refl; starts = refl; minus = refl; plus = refl; period = refl }
figure (suc (suc (suc (suc (suc (suc (suc (suc (suc zero))))))))) h = record { white = refl; percent = refl; regular = refl; starts = refl; minus = refl; plus = refl; period = refl }
figure (suc (suc (suc (suc (suc (suc (suc (suc (suc (suc e)))))))))) h = absurd (omega arith)

-- a digit is regular, starts a number, and is none of the bytes told apart
pub figure_of : (d : ℕ) → is_digit d ≡ true → Figure d
unfolding is_digit
figure_of d e =
    let a : 48 ≤ d = leb-true 48 d (and_left (leb 48 d) (leb d 57) e) in
    let b : d ≤ 57 = leb-true d 57 (and_right (leb 48 d) (leb d 57) e) in
    let q : 48 + (d - 48) ≡ d = omega arith in
    subst Figure q (figure (d - 48) (omega arith))

record Numerals (ds : Bytes) : Type 0 where
  runs : (b : Bool) (p : ℕ) → stops_at b p ds ≡ None
  no_period : some (λ c. eqb c 46) ds ≡ false
  regular : every is_regular ds ≡ true

numerals : (ds : Bytes) → every is_digit ds ≡ true → Numerals ds
unfolding every some stops_at
numerals [] e = record { runs = λ b p. refl; no_period = refl; regular = refl }
numerals (d ∷ ds) e =
    let a : is_digit d ≡ true = and_left (is_digit d) (every is_digit ds) e in
    let r = numerals ds (and_right (is_digit d) (every is_digit ds) e) in
    let f = figure_of d a in
    record {
      runs = λ b p. rw (a, stops_at) (r.runs b (suc p));
      no_period = rw (f.period, some) r.no_period;
      regular = rw (f.regular, every) r.regular;
    }

-- the digits of a number up to 2147483647 are that number
pub numeral_kind_fact : (p n d : ℕ) (ds : Bytes) → every is_digit (d ∷ ds) ≡ true → value (d ∷ ds) ≡ n → n ≤ 2147483647 → run_kind p d (d ∷ ds) ≡ int true (pos n)
unfolding run_kind numeral_kind numeral unsigned_part bounded every some
numeral_kind_fact p n d ds e v h =
    let a : is_digit d ≡ true = and_left (is_digit d) (every is_digit ds) e in
    let f = figure_of d a in
    let r = numerals (d ∷ ds) e in
    let digits : is_digit d || some is_digit ds ≡ true = rw a refl in
    let small : leb (value (d ∷ ds)) 2147483647 ≡ true = rw v (le-leb n 2147483647 h) in
    rw (f.starts, run_kind)
    (rw (f.minus, numeral)
    (rw (f.plus, numeral)
    (rw (r.runs false p, unsigned_part)
    (rw digits
    (rw r.no_period
    (rw (small, bounded) (ap (λ m. int true (pos m)) v)))))))

-- a written number as bytes: some digits
pub record Written (n : ℕ) : Type 0 where
  pub first : ℕ
  pub others : Bytes
  pub is : decimal n ≡ first ∷ others
  pub digit : every is_digit (first ∷ others) ≡ true
  pub val : value (first ∷ others) ≡ n

-- what is written of a number below 10,000,000,000
pub written : (n : ℕ) → n < 10 ^ 10 → Written n
unfolding decimal
written n h = go (spelt 9 n h)
  where
    split : (ds : Bytes) → decimal_on 10 n [] ≡ ds → every is_digit ds ≡ true → value ds ≡ n → 1 ≤ length ds → Written n
    split [] i a v s = absurd (omega arith)
    split (d ∷ ds) i a v s = record { first = d; others = ds; is = i; digit = a; val = v }

    go : Spelt n 10 (decimal_on 10 n) → Written n
    go s = split s.ds (s.is [] ∙ append-nil s.ds) s.digit s.val s.some

-- nothing is skipped before a written number
pub skip_decimal : (p n : ℕ) (ys : Bytes) → n < 10 ^ 10 → skip false p (decimal n ++ ys) ≡ (p, decimal n ++ ys)
unfolding skip every
skip_decimal p n ys h =
    let w = written n h in
    let f = figure_of w.first (and_left (is_digit w.first) (every is_digit w.others) w.digit) in
    rw w.is (rw (f.white, f.percent, skip) refl)

-- a written number is the token of that number, before a byte that is not regular
pub int_start : (p n c : ℕ) (ys : Bytes) → n ≤ 2147483647 → is_regular c ≡ false →
    start_at p (decimal n ++ (c ∷ ys)) ≡ tok (int true (pos n)) p (decimal n ++ (c ∷ ys)) (p + length (decimal n)) (c ∷ ys)
unfolding start_at run_token every
int_start p n c ys h e =
    let w = written n (omega arith) in
    let d : ℕ = w.first in
    let ds : Bytes = w.others in
    let f = figure_of w.first (and_left (is_digit w.first) (every is_digit w.others) w.digit) in
    let r = numerals w.others (and_right (is_digit w.first) (every is_digit w.others) w.digit) in
    rw w.is
    (rw (f.regular, start_at)
    (rw (span_every is_regular (suc p) w.others c ys r.regular e)
    (let k = numeral_kind_fact p n w.first w.others w.digit w.val h in let q : suc p + length w.others ≡ p + suc (length w.others) = omega arith in
    λ i. tok (k i) p (w.first ∷ (w.others ++ (c ∷ ys))) (q i) (c ∷ ys))))

-- a written number is the next token, before a byte that is not regular
pub int_token : (p n c : ℕ) (ys : Bytes) → n ≤ 2147483647 → is_regular c ≡ false →
    token_at p (decimal n ++ (c ∷ ys)) ≡ tok (int true (pos n)) p (decimal n ++ (c ∷ ys)) (p + length (decimal n)) (c ∷ ys)
unfolding token_at
int_token p n c ys h e = rw (skip_decimal p n (c ∷ ys) (omega arith)) (int_start p n c ys h e)
