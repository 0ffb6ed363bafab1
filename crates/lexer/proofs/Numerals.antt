-- A number read in one walk is the number of the definitions.
use Rattle.std.proofs.Common.{◌≡◌, ℕ, zero, suc, ◌+◌, ◌-◌, ◌*◌, ◌<◌, ◌≤◌, min, Bool, true, false, not, ◌&&◌, ◌||◌, eqb, [], ◌∷◌, length, get_or, drop, pos, neg_ℤ, Some, None, Ok, Err, Option, Result, ℤ, ◌⊎◌, inl, inr, cond, sym, refl, ap, ◌∙◌, ⊎_elim, add-zero, add-one, arith}
use Rattle.std.proofs.lemmas.List.{at_drop_all, nil_from_length}
use Rattle.std.proofs.lemmas.Bool.{cases_lt, le-leb, lt-leb, eq-eqb, ne_eqb, and_parts, and_right, and_from, both_ways, or_right}
use Rattle.std.proofs.lemmas.Bool.Decides.{nat_tests}
use Rattle.format.specs.Bytes.{Bytes, end_of, is_digit, some, value, value_on}
use Rattle.format.specs.Numbers.{Numeral, whole, fraction, past_bound, no_number, stops_at, negated, bounded, unsigned_part, numeral}
use Rattle.format.specs.Tokens.{Kind, int, flawed, numeral_kind}
use Rattle.lexer.specs.declared.flaw.Flaw.{Flaw}
use Rattle.lexer.specs.declared.flaw.Flaw.TheVariants.{BadNumber, OutOfRange}
use Rattle.lexer.specs.declared.number.Numeral.{Numeral as Read}
use Rattle.lexer.specs.declared.number.Sign.{Sign}
use Rattle.lexer.specs.declared.number.Sign.TheVariants.{Absent, Plus, Minus}
use Rattle.lexer.specs.Flaws.{flaw_shown}
use Rattle.lexer.specs.Numerals.{number_shown, is_absent, is_minus, size_shown, capped, finish, walk}
use Rattle.lexer.proofs.Cases.{cases, either_some}
use Rattle.lexer.proofs.Places.{at_place}

value_grows : (n : ℕ) (ds : Bytes) → n ≤ value_on n ds
unfolding value_on
value_grows n [] = omega arith
value_grows n (d ∷ ds) = omega (arith, value_grows (n * 10 + (d - 48)) ds)

past : (u m : Bool) (n : ℕ) → 2147483649 ≤ n → bounded u m n ≡ past_bound
unfolding bounded
past u true n h = rw (lt-leb n 2147483648 (omega arith), bounded)
past u false n h = rw (lt-leb n 2147483647 (omega arith), bounded)

-- a size that is capped is past the bounds where the size is
capped_bounds : (u m : Bool) (n : ℕ) (ds : Bytes) → bounded u m (value_on (capped n) ds) ≡ bounded u m (value_on n ds)
unfolding capped
capped_bounds u m n ds =
    ⊎_elim
    (λ l. let e : min n 2147483649 ≡ n = omega arith in rw e)
    (λ g. let e : min n 2147483649 ≡ 2147483649 = omega arith in
    past u m _ (omega (arith, value_grows (capped n) ds)) ∙ sym (past u m _ (omega (arith, value_grows n ds))))
    (cases_lt n 2147483650)

-- what the definition asks of the bytes behind the sign, and where that leads
abbrev verdict : Bool → Bool → Option ℕ → Bool → Bool → ℕ → ℕ → Numeral
verdict u m (Some q) d b v e = no_number q
verdict u m None true true v e = fraction
verdict u m None true false v e = bounded u m v
verdict u m None false b v e = no_number e

abbrev is_period : ℕ → Bool
is_period c = eqb c 46

module _ (u m : Bool) where
  by_verdict : (p : ℕ) (ds : Bytes) → unsigned_part u m p ds ≡ verdict u m (stops_at false p ds) (some is_digit ds) (some is_period ds) (value ds) (end_of p ds)
  unfolding unsigned_part
  by_verdict p ds =
      either_some (stops_at false p ds)
      (λ q e. rw (e, unsigned_part))
      (λ e. cases (some is_digit ds)
      (λ f. cases (some is_period ds) (λ g. rw (e, f, g, unsigned_part)) (λ g. rw (e, f, g, unsigned_part)))
      (λ f. rw (e, f, unsigned_part)))

  capped_verdict : (o : Option ℕ) (b : Bool) (n e : ℕ) (ds : Bytes) → verdict u m o true b (value_on (capped n) ds) e ≡ verdict u m o true b (value_on n ds) e
  capped_verdict (Some q) b n e ds = refl
  capped_verdict None true n e ds = refl
  capped_verdict None false n e ds = capped_bounds u m n ds

  any_value : (o : Option ℕ) (d : Bool) (v w e : ℕ) → verdict u m o d true v e ≡ verdict u m o d true w e
  any_value (Some q) d v w e = refl
  any_value None true v w e = refl
  any_value None false v w e = refl

-- one more byte
module _ (b d : Bool) (n p x : ℕ) (xs : Bytes) where
  on_digit : is_digit x ≡ true → walk b d n p (x ∷ xs) ≡ walk b true (capped (n * 10 + (x - 48))) (suc p) xs
  unfolding walk
  on_digit e = rw (e, walk)

  on_period : is_digit x ≡ false → (eqb x 46 && not b) ≡ true → walk b d n p (x ∷ xs) ≡ walk true d n (suc p) xs
  unfolding walk
  on_period e f = rw (e, f, walk)

  on_other : is_digit x ≡ false → (eqb x 46 && not b) ≡ false → walk b d n p (x ∷ xs) ≡ Err (BadNumber p)
  unfolding walk
  on_other e f = rw (e, f, walk)

  stops_past_digit : is_digit x ≡ true → stops_at b p (x ∷ xs) ≡ stops_at b (suc p) xs
  unfolding stops_at
  stops_past_digit e = rw (e, stops_at)

  end_past : end_of p (x ∷ xs) ≡ end_of (suc p) xs
  unfolding end_of
  end_past = omega arith

module _ (p x : ℕ) (xs : Bytes) where
  stops_past_period : is_digit x ≡ false → eqb x 46 ≡ true → stops_at false p (x ∷ xs) ≡ stops_at true (suc p) xs
  unfolding stops_at
  stops_past_period e f = rw (e, f, stops_at)

  stops_here : (b : Bool) → is_digit x ≡ false → (eqb x 46 && not b) ≡ false → stops_at b p (x ∷ xs) ≡ Some p
  unfolding stops_at
  stops_here b e f = cases (eqb x 46) (λ g. second b g (rw g at f)) (λ g. rw (e, g, stops_at))
    where
      second : (b : Bool) → eqb x 46 ≡ true → (true && not b) ≡ false → stops_at b p (x ∷ xs) ≡ Some p
      second true g h = rw (e, g, stops_at)
      second false g h = let z : ◌≡◌ {A = ℕ} 0 1 = cc in absurd (omega arith)

value_past : (n x : ℕ) (xs : Bytes) → value_on n (x ∷ xs) ≡ value_on (n * 10 + (x - 48)) xs
unfolding value_on
value_past n x xs = refl

digit_is_no_period : (x : ℕ) → is_digit x ≡ true → is_period x ≡ false
unfolding is_digit
digit_is_no_period x e = grind (arith, nat_tests)

some_on : (f : ℕ → Bool) (x : ℕ) (xs : Bytes) → f x ≡ true → some f (x ∷ xs) ≡ true
unfolding some
some_on f x xs e = rw (e, some)

some_past : (f : ℕ → Bool) (x : ℕ) (xs : Bytes) → f x ≡ false → some f (x ∷ xs) ≡ some f xs
unfolding some
some_past f x xs e = rw (e, some)

module _ (u m : Bool) (w : Bytes) where
  at_end : (b d : Bool) (n p : ℕ) → size_shown u m w (walk b d n p []) ≡ numeral_kind w (verdict u m (stops_at b p []) (d || some is_digit []) (b || some is_period []) (value_on n []) (end_of p []))
  unfolding walk stops_at some value_on end_of numeral_kind
  at_end true true n p = refl
  at_end false true n p = refl
  at_end b false n p = rw add-zero

  -- behind the first period
  period_step : (b d : Bool) (n p x : ℕ) (xs : Bytes) → is_digit x ≡ false → (eqb x 46 && not b) ≡ true
      → size_shown u m w (walk true d n (suc p) xs) ≡ numeral_kind w (verdict u m (stops_at true (suc p) xs) (d || some is_digit xs) true (value_on n xs) (end_of (suc p) xs))
      → size_shown u m w (walk b d n p (x ∷ xs)) ≡ numeral_kind w (verdict u m (stops_at b p (x ∷ xs)) (d || some is_digit (x ∷ xs)) (b || some is_period (x ∷ xs)) (value_on n (x ∷ xs)) (end_of p (x ∷ xs)))
  period_step true d n p x xs e f was = absurd (both_ways (eqb x 46 && false) (and_right (eqb x 46) false refl) f)
  period_step false d n p x xs e f was =
      let g = (and_parts (eqb x 46) true f).0 in
      rw (on_period false d n p x xs e f, stops_past_period p x xs e g, some_past is_digit x xs e, some_on is_period x xs g, end_past false d n p x xs)
      (was ∙ ap (numeral_kind w) (any_value u m (stops_at true (suc p) xs) (d || some is_digit xs) (value_on n xs) (value_on n (x ∷ xs)) (end_of (suc p) xs)))

  -- the same behind a part that was walked
  walk_is : (b d : Bool) (n p : ℕ) (ds : Bytes) → size_shown u m w (walk b d n p ds) ≡ numeral_kind w (verdict u m (stops_at b p ds) (d || some is_digit ds) (b || some is_period ds) (value_on n ds) (end_of p ds))
  unfolding numeral_kind
  walk_is b d n p [] = at_end b d n p
  walk_is b d n p (x ∷ xs) =
      cases (is_digit x)
      (λ e.
      rw (on_digit b d n p x xs e, stops_past_digit b d n p x xs e, or_right d _ (some_on is_digit x xs e), some_past is_period x xs (digit_is_no_period x e), value_past n x xs, end_past b d n p x xs)
      (walk_is b true (capped (n * 10 + (x - 48))) (suc p) xs
      ∙ ap (numeral_kind w) (capped_verdict u m (stops_at b (suc p) xs) (b || some is_period xs) (n * 10 + (x - 48)) (end_of (suc p) xs) xs)))
      (λ e.
      cases (eqb x 46 && not b)
      (λ f. period_step b d n p x xs e f (walk_is true d n (suc p) xs))
      (λ f. rw (on_other b d n p x xs e f, stops_here p x xs b e f)))

-- what the walk finds behind the sign is what the definition says
pub walk_meets : (u m : Bool) (w : Bytes) (p : ℕ) (ds : Bytes) (r : Result (Option ℕ) Flaw) → r ≡ walk false false 0 p ds → size_shown u m w r ≡ numeral_kind w (unsigned_part u m p ds)
unfolding value
walk_meets u m w p ds r is = ap (size_shown u m w) is ∙ walk_is u m w false false 0 p ds ∙ ap (numeral_kind w) (sym (by_verdict u m p ds))

-- the walk from a place of the digits on
abbrev pub walk_at : (period digit : Bool) → ℕ → Bytes → ℕ → ℕ → Result (Option ℕ) Flaw
walk_at b d n ds p i = walk b d n (p + i) (drop i ds)

module _ (b d : Bool) (n : ℕ) (ds : Bytes) (p i : ℕ) {z : Result (Option ℕ) Flaw} where
  pub walk_digit : i < length ds → is_digit (get_or ds i 0) ≡ true → walk_at b d n ds p i ≡ z → walk_at b true (capped (n * 10 + (get_or ds i 0 - 48))) ds p (i + 1) ≡ z
  walk_digit h e was =
      let j : p + (i + 1) ≡ suc (p + i) = omega arith in
      rw (j, add-one) (sym (at_place (walk b d n (p + i)) ds i h ∙ on_digit b d n (p + i) _ _ e) ∙ was)

  pub walk_period : i < length ds → is_digit (get_or ds i 0) ≡ false → get_or ds i 0 ≡ 46 → b ≡ false → walk_at b d n ds p i ≡ z → walk_at true d n ds p (i + 1) ≡ z
  walk_period h e f g was =
      let j : p + (i + 1) ≡ suc (p + i) = omega arith in
      let k : (eqb (get_or ds i 0) 46 && not b) ≡ true = and_from _ _ (eq-eqb _ _ f) (ap not g) in
      rw (j, add-one) (sym (at_place (walk b d n (p + i)) ds i h ∙ on_period b d n (p + i) _ _ e k) ∙ was)

  pub walk_stops : i < length ds → is_digit (get_or ds i 0) ≡ false → (eqb (get_or ds i 0) 46 && not b) ≡ false → walk_at b d n ds p i ≡ z → Err (BadNumber (p + i)) ≡ z
  walk_stops h e f was = sym (at_place (walk b d n (p + i)) ds i h ∙ on_other b d n (p + i) _ _ e f) ∙ was

  pub walk_ends : length ds ≤ i → walk_at b d n ds p i ≡ z → finish b d n (p + i) ≡ z
  unfolding walk
  walk_ends h was = sym (at_drop_all (walk b d n (p + i)) ds i h) ∙ was

-- the same state under other names
pub walk_on : (b c d e : Bool) (n m : ℕ) (ds : Bytes) (p i : ℕ) {z : Result (Option ℕ) Flaw} → c ≡ b → e ≡ d → m ≡ n → walk_at b d n ds p i ≡ z → walk_at c e m ds p i ≡ z
walk_on b c d e n m ds p i f g h was = rw (f, g, h) was

pub finish_at : (b d c e : Bool) (n p : ℕ) {z : Result (Option ℕ) Flaw} → b ≡ c → d ≡ e → finish b d n p ≡ z → finish c e n p ≡ z
finish_at b d c e n p f g was = rw (sym f, sym g) was

negated_is : (n : ℕ) → neg_ℤ (pos n) ≡ negated n
unfolding negated
negated_is zero = refl
negated_is (suc n) = refl

not_absent : (s : Sign) → (s ≡ Plus) ⊎ (s ≡ Minus) → is_absent s ≡ false
not_absent s (inl e) = rw e refl
not_absent s (inr e) = rw e refl

-- the sizes within their bounds and past them
plus_fits : (u : Bool) (n : ℕ) → n ≤ 2147483647 → bounded u false n ≡ whole u (pos n)
unfolding bounded
plus_fits u n h = rw (le-leb n 2147483647 h, bounded)

plus_passes : (u : Bool) (n : ℕ) → 2147483647 < n → bounded u false n ≡ past_bound
unfolding bounded
plus_passes u n h = rw (lt-leb n 2147483647 h, bounded)

minus_fits : (u : Bool) (n : ℕ) → n ≤ 2147483648 → bounded u true n ≡ whole u (neg_ℤ (pos n))
unfolding bounded
minus_fits u n h = rw (le-leb n 2147483648 h, bounded) (ap (whole u) (sym (negated_is n)))

minus_passes : (u : Bool) (n : ℕ) → 2147483648 < n → bounded u true n ≡ past_bound
unfolding bounded
minus_passes u n h = rw (lt-leb n 2147483648 h, bounded)

in_range : (u m : Bool) (n : ℕ) (z : ℤ) → z ≡ cond m (neg_ℤ (pos n)) (pos n) → n ≤ cond m 2147483648 2147483647 → bounded u m n ≡ whole u z
in_range u true n z e h = minus_fits u n h ∙ ap (whole u) (sym e)
in_range u false n z e h = plus_fits u n h ∙ ap (whole u) (sym e)

past_range : (u m : Bool) (n : ℕ) → cond m 2147483648 2147483647 < n → bounded u m n ≡ past_bound
past_range u true n h = minus_passes u n h
past_range u false n h = plus_passes u n h

-- an integer by its sign and its size
module _ (s : Sign) (m : Bool) (n : ℕ) (is : m ≡ is_minus s) (w : Bytes) where
  pub past_is : (f : Flaw) → f ≡ OutOfRange → cond m 2147483648 2147483647 < n → flawed (flaw_shown f) ≡ numeral_kind w (bounded (is_absent s) (is_minus s) n)
  unfolding numeral_kind
  past_is f e h = rw (e, sym is) (ap (numeral_kind w) (sym (past_range (is_absent s) m n h)))

  module _ (z : ℤ) (valued : z ≡ cond m (neg_ℤ (pos n)) (pos n)) (h : n ≤ cond m 2147483648 2147483647) where
    pub signed_is : (s ≡ Plus) ⊎ (s ≡ Minus) → int false z ≡ numeral_kind w (bounded (is_absent s) (is_minus s) n)
    unfolding numeral_kind
    signed_is e = rw (not_absent s e, sym is) (ap (numeral_kind w) (sym (in_range false m n z valued h)))

    pub unsigned_is : s ≡ Absent → int true (pos n) ≡ numeral_kind w (bounded (is_absent s) (is_minus s) n)
    unfolding numeral_kind
    unsigned_is e =
        let o : m ≡ false = rw e at is in
        let l : n ≤ 2147483647 = rw o at h in
        rw e (ap (numeral_kind w) (sym (plus_fits true n l)))

-- the size that the walk found
pub sized : (u m : Bool) (w : Bytes) (p : ℕ) (ds : Bytes) (o k : Option ℕ) → o ≡ k → Ok o ≡ walk false false 0 p ds → size_shown u m w (Ok k) ≡ numeral_kind w (unsigned_part u m p ds)
sized u m w p ds o k e was = ap (λ (t : Option ℕ). size_shown u m w (Ok t)) (sym e) ∙ walk_meets u m w p ds (Ok o) was

-- the same number under another name
pub shown_as : (w : Bytes) (r s : Read) (k : Kind) → r ≡ s → number_shown w (Ok r) ≡ k → number_shown w (Ok s) ≡ k
shown_as w r s k e h = ap (λ (t : Read). number_shown w (Ok t)) (sym e) ∙ h

-- a number by its first byte
module _ (p : ℕ) (run : Bytes) where
  pub no_byte : length run ≡ 0 → no_number p ≡ numeral p run
  unfolding numeral
  no_byte e = rw (nil_from_length run e, numeral)

  module _ (h : 0 < length run) where
    pub behind_minus : get_or run 0 0 ≡ 45 → unsigned_part false true (p + 1) (drop 1 run) ≡ numeral p run
    unfolding numeral
    behind_minus e = rw add-one (sym (at_place (numeral p) run 0 h ∙ rw (eq-eqb _ _ e, numeral)))

    pub behind_plus : (get_or run 0 0 ≡ 45 → ⊥) → get_or run 0 0 ≡ 43 → unsigned_part false false (p + 1) (drop 1 run) ≡ numeral p run
    unfolding numeral
    behind_plus d e = rw add-one (sym (at_place (numeral p) run 0 h ∙ rw (ne_eqb _ _ d, eq-eqb _ _ e, numeral)))

    pub without_sign : (get_or run 0 0 ≡ 45 → ⊥) → (get_or run 0 0 ≡ 43 → ⊥) → unsigned_part true false p run ≡ numeral p run
    unfolding numeral
    without_sign d e =
        sym (at_place (numeral p) run 0 h ∙ rw (ne_eqb _ _ d, ne_eqb _ _ e, numeral) (sym (at_place (unsigned_part true false p) run 0 h)))
