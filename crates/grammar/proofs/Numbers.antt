-- Numbers are what the reader takes for them.
use Rattle.std.proofs.Common.{◌≡◌, ℕ, suc, ◌+◌, ◌≤◌, Bool, true, false, eqb, leb, [], ◌∷◌, ◌++◌, length, ℤ, pos, Some, None, sym, refl, ap, ◌∙◌, subst, arith, eqb-true, le-leb, leb-true}
use Rattle.format.specs.Bytes.{Bytes, end_of, is_digit, is_white, is_delimiter, is_regular, every, some, value}
use Rattle.format.specs.Numbers.{whole, fraction, past_bound, no_number, starts_number, stops_at, negated, bounded, unsigned_part, numeral}
use Rattle.locality.proofs.Cases.{cases, cases_o}
use Rattle.locality.proofs.Decimals.{figure_of, every_++}
use Rattle.locality.proofs.Tests.{clash, or_none}
use Rattle.grammar.specs.Spellings.{Digits, Integer, Pointed, Real}
use Rattle.grammar.proofs.Lists.{every_cons, every_first, every_others, every_none}

-- digits go on to the end
digits_run : (b : Bool) (p : ℕ) (ds : Bytes) → every is_digit ds ≡ true → stops_at b p ds ≡ None
unfolding stops_at
digits_run b p [] a = refl
digits_run b p (d ∷ ds) a = rw (every_first is_digit d ds a, stops_at) (digits_run b (suc p) ds (every_others is_digit d ds a))

digits_no_period : (ds : Bytes) → every is_digit ds ≡ true → some (λ c. eqb c 46) ds ≡ false
unfolding some
digits_no_period [] a = refl
digits_no_period (d ∷ ds) a = rw ((figure_of d (every_first is_digit d ds a)).period, some) (digits_no_period ds (every_others is_digit d ds a))

digits_regular : (ds : Bytes) → every is_digit ds ≡ true → every is_regular ds ≡ true
digits_regular [] a = every_none is_regular
digits_regular (d ∷ ds) a = every_cons is_regular d ds (figure_of d (every_first is_digit d ds a)).regular (digits_regular ds (every_others is_digit d ds a))

point_runs : (p : ℕ) (ds es : Bytes) → every is_digit ds ≡ true → every is_digit es ≡ true → stops_at false p (ds ++ (46 ∷ es)) ≡ None
unfolding stops_at is_digit
point_runs p [] es a b = digits_run true (suc p) es b
point_runs p (d ∷ ds) es a b = rw (every_first is_digit d ds a, stops_at) (point_runs (suc p) ds es (every_others is_digit d ds a) b)

some_behind : (f : ℕ → Bool) (xs ys : Bytes) → some f ys ≡ true → some f (xs ++ ys) ≡ true
unfolding some
some_behind f [] ys a = a
some_behind f (x ∷ xs) ys a = cases (f x) (λ e. rw (e, some) refl) (λ e. rw (e, some) (some_behind f xs ys a))

some_first : (f : ℕ → Bool) (x : ℕ) (xs : Bytes) → f x ≡ true → some f (x ∷ xs) ≡ true
unfolding some
some_first f x xs a = rw (a, some) refl

has_period : (ds es : Bytes) → some (λ c. eqb c 46) (ds ++ (46 ∷ es)) ≡ true
has_period ds es = some_behind (λ c. eqb c 46) ds (46 ∷ es) (some_first (λ c. eqb c 46) 46 es refl)

-- some digit stands before or behind the period
point_digit : (ds es : Bytes) → every is_digit ds ≡ true → every is_digit es ≡ true → 1 ≤ length ds + length es → some is_digit (ds ++ (46 ∷ es)) ≡ true
unfolding some is_digit
point_digit [] [] a b h = absurd (omega arith)
point_digit [] (e ∷ es) a b h = some_first is_digit e es (every_first is_digit e es b)
point_digit (d ∷ ds) es a b h = some_first is_digit d (ds ++ (46 ∷ es)) (every_first is_digit d ds a)

-- the digits of an integer
whole_part : (u m : Bool) (p : ℕ) {ds : Bytes} → Digits ds → unsigned_part u m p ds ≡ bounded u m (value ds)
unfolding unsigned_part
whole_part u m p (Digits.digits {d} {ds} a) =
    rw (digits_run false p (d ∷ ds) a, some_first is_digit d ds (every_first is_digit d ds a), digits_no_period (d ∷ ds) a, unsigned_part) refl

-- an integer is read as one
pub integer_read : {u : Bool} {z : ℤ} {w : Bytes} → Integer u z w → (p : ℕ) → numeral p w ≡ whole u z
unfolding numeral bounded
integer_read (Integer.unsigned (Digits.digits {d} {ds} a) h) p =
    let f = figure_of d (every_first is_digit d ds a) in
    rw (f.minus, f.plus, numeral) (whole_part true false p (Digits.digits a) ∙ rw (le-leb (value (d ∷ ds)) 2147483647 h, bounded) refl)
integer_read (Integer.plus {ds} a h) p = whole_part false false (suc p) a ∙ rw (le-leb (value ds) 2147483647 h, bounded) refl
integer_read (Integer.minus {ds} a h) p = whole_part false true (suc p) a ∙ rw (le-leb (value ds) 2147483648 h, bounded) refl

-- the digits and the period of a real
point_part : (u m : Bool) (p : ℕ) {w : Bytes} → Pointed w → unsigned_part u m p w ≡ fraction
unfolding unsigned_part
point_part u m p (Pointed.point ds es a b h) =
    rw (point_runs p ds es a b, point_digit ds es a b h, has_period ds es, unsigned_part) refl

-- what a number's bytes are: all regular, and the first starts a number
pub record Starts (w : Bytes) : Type 0 where
  pub first : ℕ
  pub others : Bytes
  pub is : w ≡ first ∷ others
  pub regular : every is_regular (first ∷ others) ≡ true
  pub starts : starts_number first ≡ true

digits_start : {ds : Bytes} → Digits ds → Starts ds
digits_start (Digits.digits {d} {ds} a) = record { first = d; others = ds; is = refl; regular = digits_regular (d ∷ ds) a; starts = (figure_of d (every_first is_digit d ds a)).starts }

sign_starts : (c : ℕ) {w : Bytes} → is_regular c ≡ true → starts_number c ≡ true → Starts w → Starts (c ∷ w)
sign_starts c {w} a b s = record { first = c; others = w; is = refl; regular = every_cons is_regular c w a (subst (λ v. every is_regular v ≡ true) (sym s.is) s.regular); starts = b }

point_starts : {w : Bytes} → Pointed w → Starts w
unfolding is_regular is_white is_delimiter starts_number is_digit
point_starts (Pointed.point [] es a b h) = record { first = 46; others = es; is = refl; regular = every_cons is_regular 46 es refl (digits_regular es b); starts = refl }
point_starts (Pointed.point (d ∷ ds) es a b h) = record {
  first = d;
  others = ds ++ (46 ∷ es);
  is = refl;
  regular = every_++ is_regular (d ∷ ds) (46 ∷ es) (digits_regular (d ∷ ds) a) (every_cons is_regular 46 es refl (digits_regular es b));
  starts = (figure_of d (every_first is_digit d ds a)).starts;
}

pub integer_starts : {u : Bool} {z : ℤ} {w : Bytes} → Integer u z w → Starts w
unfolding is_regular is_white is_delimiter starts_number is_digit
integer_starts (Integer.unsigned a h) = digits_start a
integer_starts (Integer.plus a h) = sign_starts 43 refl refl (digits_start a)
integer_starts (Integer.minus a h) = sign_starts 45 refl refl (digits_start a)

pub real_starts : {w : Bytes} → Real w → Starts w
unfolding is_regular is_white is_delimiter starts_number is_digit
real_starts (Real.unsigned a) = point_starts a
real_starts (Real.plus a) = sign_starts 43 refl refl (point_starts a)
real_starts (Real.minus a) = sign_starts 45 refl refl (point_starts a)

-- the first byte of digits and a period is no sign
point_unsigned : (p : ℕ) {w : Bytes} → Pointed w → numeral p w ≡ unsigned_part true false p w
unfolding numeral
point_unsigned p (Pointed.point [] es a b h) = refl
point_unsigned p (Pointed.point (d ∷ ds) es a b h) = let f = figure_of d (every_first is_digit d ds a) in rw (f.minus, f.plus, numeral) refl

-- a real is read as one
pub real_read : {w : Bytes} → Real w → (p : ℕ) → numeral p w ≡ fraction
unfolding numeral
real_read (Real.unsigned a) p = point_unsigned p a ∙ point_part true false p a
real_read (Real.plus a) p = point_part false false (suc p) a
real_read (Real.minus a) p = point_part false true (suc p) a

-- digits that go on to the end with no period
digits_only : (b : Bool) (p : ℕ) (ds : Bytes) → stops_at b p ds ≡ None → some (λ c. eqb c 46) ds ≡ false → every is_digit ds ≡ true
unfolding stops_at some
digits_only b p [] e h = every_none is_digit
digits_only b p (d ∷ ds) e h =
    let n = or_none (eqb d 46) (some (λ c. eqb c 46) ds) h in
    cases (is_digit d)
    (λ a. every_cons is_digit d ds a (digits_only b (suc p) ds (rw (a, stops_at) at e) n.1))
    (λ a. clash (let z : Some p ≡ None = rw (a, n.0, stops_at) at e in cc))

-- behind the first period only digits go on
digits_behind : (p : ℕ) (ds : Bytes) → stops_at true p ds ≡ None → every is_digit ds ≡ true
unfolding stops_at
digits_behind p [] e = every_none is_digit
digits_behind p (d ∷ ds) e =
    cases (is_digit d)
    (λ a. every_cons is_digit d ds a (digits_behind (suc p) ds (rw (a, stops_at) at e)))
    (λ a.
    cases (eqb d 46)
    (λ b. clash (let z : Some p ≡ None = rw (a, b, stops_at) at e in cc))
    (λ b. clash (let z : Some p ≡ None = rw (a, b, stops_at) at e in cc)))

-- digits around a period
record Around (w : Bytes) : Type 0 where
  front : Bytes
  back : Bytes
  is : w ≡ front ++ (46 ∷ back)
  fronts : every is_digit front ≡ true
  backs : every is_digit back ≡ true

around : (p : ℕ) (ds : Bytes) → stops_at false p ds ≡ None → some (λ c. eqb c 46) ds ≡ true → Around ds
unfolding stops_at some
around p [] e h = clash (cc)
around p (d ∷ ds) e h =
    cases (is_digit d)
    (λ a. more a (around (suc p) ds (rw (a, stops_at) at e) (rw ((figure_of d a).period, some) at h)))
    (λ a.
    cases (eqb d 46)
    (λ b. record { front = []; back = ds; is = ap {B = Bytes} (λ c. c ∷ ds) (eqb-true d 46 b); fronts = every_none is_digit; backs = digits_behind (suc p) ds (rw (a, b, stops_at) at e) })
    (λ b. clash (let z : Some p ≡ None = rw (a, b, stops_at) at e in cc)))
  where
    more : is_digit d ≡ true → Around ds → Around (d ∷ ds)
    more a r = record { front = d ∷ r.front; back = r.back; is = ap {B = Bytes} (λ ys. d ∷ ys) r.is; fronts = every_cons is_digit d r.front a r.fronts; backs = r.backs }

-- a period alone has no digit
digit_beside : (ds es : Bytes) → some is_digit (ds ++ (46 ∷ es)) ≡ true → 1 ≤ length ds + length es
unfolding some is_digit
digit_beside [] [] h = clash (cc)
digit_beside [] (e ∷ es) h = omega arith
digit_beside (d ∷ ds) es h = omega arith

pointed : (p : ℕ) (ds : Bytes) → stops_at false p ds ≡ None → some is_digit ds ≡ true → some (λ c. eqb c 46) ds ≡ true → Pointed ds
pointed p ds e d h =
    let r = around p ds e h in
    let k : some is_digit (r.front ++ (46 ∷ r.back)) ≡ true = subst (λ w. some is_digit w ≡ true) r.is d in
    subst Pointed (sym r.is) (Pointed.point r.front r.back r.fronts r.backs (digit_beside r.front r.back k))

digits_some : (ds : Bytes) → every is_digit ds ≡ true → some is_digit ds ≡ true → Digits ds
unfolding some
digits_some [] a h = clash (cc)
digits_some (d ∷ ds) a h = Digits.digits a

-- no answer is another
bound_whole : (u m : Bool) (n : ℕ) → bounded u m n ≡ fraction → ⊥
unfolding bounded
bound_whole u true n e = cases (leb n 2147483648) (λ a. clash (let z : whole u (negated n) ≡ fraction = rw (a, bounded) at e in cc)) (λ a. clash (let z : past_bound ≡ fraction = rw (a, bounded) at e in cc))
bound_whole u false n e = cases (leb n 2147483647) (λ a. clash (let z : whole u (pos n) ≡ fraction = rw (a, bounded) at e in cc)) (λ a. clash (let z : past_bound ≡ fraction = rw (a, bounded) at e in cc))

-- bytes behind the sign that are read as a real
part_pointed : (u m : Bool) (p : ℕ) (ds : Bytes) → unsigned_part u m p ds ≡ fraction → Pointed ds
unfolding unsigned_part
part_pointed u m p ds e =
    cases_o (stops_at false p ds)
    (λ a.
    cases (some is_digit ds)
    (λ b.
    cases (some (λ c. eqb c 46) ds)
    (λ c. pointed p ds a b c)
    (λ c. absurd (bound_whole u m (value ds) (rw (a, b, c, unsigned_part) at e))))
    (λ b. clash (let z : no_number (end_of p ds) ≡ fraction = rw (a, b, unsigned_part) at e in cc)))
    (λ q a. clash (let z : no_number q ≡ fraction = rw (a, unsigned_part) at e in cc))

-- bytes behind the sign that are read as an integer
part_digits : (u m : Bool) (p : ℕ) (ds : Bytes) (u' : Bool) (z : ℤ) → unsigned_part u m p ds ≡ whole u' z → Digits ds × (bounded u m (value ds) ≡ whole u' z)
unfolding unsigned_part
part_digits u m p ds u' z e =
    cases_o (stops_at false p ds)
    (λ a.
    cases (some is_digit ds)
    (λ b.
    cases (some (λ c. eqb c 46) ds)
    (λ c. clash (let k : fraction ≡ whole u' z = rw (a, b, c, unsigned_part) at e in cc))
    (λ c. (digits_some ds (digits_only false p ds a c) b, rw (a, b, c, unsigned_part) at e)))
    (λ b. clash (let k : no_number (end_of p ds) ≡ whole u' z = rw (a, b, unsigned_part) at e in cc)))
    (λ q a. clash (let k : no_number q ≡ whole u' z = rw (a, unsigned_part) at e in cc))

-- an integer within its bound
bound_plus : (u : Bool) (n : ℕ) (u' : Bool) (z : ℤ) → bounded u false n ≡ whole u' z → (n ≤ 2147483647) × (u ≡ u') × (pos n ≡ z)
unfolding bounded
bound_plus u n u' z e =
    cases (leb n 2147483647)
    (λ a. let k : whole u (pos n) ≡ whole u' z = rw (a, bounded) at e in (leb-true n 2147483647 a, cc, cc))
    (λ a. clash (let k : past_bound ≡ whole u' z = rw (a, bounded) at e in cc))

bound_minus : (u : Bool) (n : ℕ) (u' : Bool) (z : ℤ) → bounded u true n ≡ whole u' z → (n ≤ 2147483648) × (u ≡ u') × (negated n ≡ z)
unfolding bounded
bound_minus u n u' z e =
    cases (leb n 2147483648)
    (λ a. let k : whole u (negated n) ≡ whole u' z = rw (a, bounded) at e in (leb-true n 2147483648 a, cc, cc))
    (λ a. clash (let k : past_bound ≡ whole u' z = rw (a, bounded) at e in cc))

-- at equal values
integer_at : {u u' : Bool} {z z' : ℤ} {w w' : Bytes} → u ≡ u' → z ≡ z' → w ≡ w' → Integer u z w → Integer u' z' w'
integer_at {u} {u'} {z} {z'} {w} {w'} a b c i = subst (λ v. Integer u' z' v) c (subst (λ y. Integer u' y w) b (subst (λ t. Integer t z w) a i))

-- what is read as an integer is one
pub read_integer : (p x : ℕ) (xs : Bytes) (u : Bool) (z : ℤ) → numeral p (x ∷ xs) ≡ whole u z → Integer u z (x ∷ xs)
unfolding numeral
read_integer p x xs u z e =
    cases (eqb x 45)
    (λ a.
    let d = part_digits false true (suc p) xs u z (rw (a, numeral) at e) in
    let b = bound_minus false (value xs) u z d.1 in
    integer_at b.1 b.2 (ap {B = Bytes} (λ c. c ∷ xs) (sym (eqb-true x 45 a))) (Integer.minus d.0 b.0))
    (λ a.
    cases (eqb x 43)
    (λ c.
    let d = part_digits false false (suc p) xs u z (rw (a, c, numeral) at e) in
    let b = bound_plus false (value xs) u z d.1 in
    integer_at b.1 b.2 (ap {B = Bytes} (λ y. y ∷ xs) (sym (eqb-true x 43 c))) (Integer.plus d.0 b.0))
    (λ c.
    let d = part_digits true false p (x ∷ xs) u z (rw (a, c, numeral) at e) in
    let b = bound_plus true (value (x ∷ xs)) u z d.1 in
    integer_at b.1 b.2 refl (Integer.unsigned d.0 b.0)))

-- what is read as a real is one
pub read_real : (p x : ℕ) (xs : Bytes) → numeral p (x ∷ xs) ≡ fraction → Real (x ∷ xs)
unfolding numeral
read_real p x xs e =
    cases (eqb x 45)
    (λ a. subst (λ c. Real (c ∷ xs)) (sym (eqb-true x 45 a)) (Real.minus (part_pointed false true (suc p) xs (rw (a, numeral) at e))))
    (λ a.
    cases (eqb x 43)
    (λ c. subst (λ y. Real (y ∷ xs)) (sym (eqb-true x 43 c)) (Real.plus (part_pointed false false (suc p) xs (rw (a, c, numeral) at e))))
    (λ c. Real.unsigned (part_pointed true false p (x ∷ xs) (rw (a, c, numeral) at e))))
