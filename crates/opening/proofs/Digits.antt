-- Digits, at a place of the window.
use Rattle.std.proofs.Common.{◌≡◌, ℕ, zero, suc, ◌+◌, ◌-◌, ◌*◌, ◌^◌, ◌<◌, ◌≤◌, min, true, ◌⊎◌, [], ◌∷◌, length, take, drop, sym, refl, ap, ◌∙◌, inl, inr, pow-suc, arith, lit<}
use native.Mathlib.Nat.{pow-le-pow_right}
use Rattle.std.specs.List.{prefix_len}
use Rattle.std.proofs.lemmas.List.{at_drop_all, length-drop, length-take}
use Rattle.std.proofs.lemmas.List.Sums.{prefix_len-le-length}
use Rattle.std.proofs.lemmas.Bool.{le-leb, lt-leb}
use Rattle.std.proofs.lemmas.Bool.Decides.{nat_tests}
use Rattle.format.specs.Bytes.{Bytes, is_digit, value, value_on}
use Rattle.format.specs.Lines.{took, short, misfit, is_empty, counted, digits, digits_of}
use Rattle.locality.proofs.Cases.{cases}
use Rattle.opening.proofs.Places.{place_on}
use Rattle.opening.proofs.Runs.{span_none, span_by, cut_at, run_on, run_stops}

pub digit_range : (x : ℕ) → is_digit x ≡ true → (48 ≤ x) × (x ≤ 57)
unfolding is_digit
digit_range x e = (grind (arith, nat_tests), grind (arith, nat_tests))

-- one more digit, one more power of ten
pub grows : (n k x : ℕ) → n < 10 ^ k → is_digit x ≡ true → n * 10 + (x - 48) < 10 ^ (suc k)
grows n k x h e = let d = digit_range x e in let p = pow-suc 10 k in omega arith

pub next_power : (n x v m k : ℕ) → v ≡ n * 10 + (x - 48) → k ≡ suc m → n < 10 ^ m → is_digit x ≡ true → v < 10 ^ k
next_power n x v m k e f h d = rw (e, f) (grows n m x h d)

-- at most ten digits spell less than ten to the tenth
pub ten_at_most : (n k : ℕ) → n < 10 ^ k → k ≤ 10 → n < 10 ^ 10
ten_at_most n k h l = let p : 10 ^ k ≤ 10 ^ 10 = pow-le-pow_right {n = 10} (lit< tt) l in omega arith

-- one to ten digits, more, or none
counted_some : (ds : Bytes) (p : ℕ) (rest : Bytes) → 0 < length ds → length ds ≤ 10 → counted (ds, p, rest) ≡ took (value ds) p rest
unfolding counted is_empty
counted_some [] p rest h l = absurd (omega arith)
counted_some (d ∷ ds) p rest h l = rw (le-leb (suc (length ds)) 10 l, counted)

counted_many : (ds : Bytes) (p : ℕ) (rest : Bytes) → 10 < length ds → counted (ds, p, rest) ≡ misfit
unfolding counted
counted_many ds p rest h = rw (lt-leb (length ds) 10 h, counted)

counted_none : (p : ℕ) (rest : Bytes) → 0 < length rest → counted ([], p, rest) ≡ misfit
unfolding counted is_empty
counted_none p [] h = absurd (omega arith)
counted_none p (x ∷ rest) h = refl

-- none, or more than ten, where eleven bytes are looked at
pub unfit : (n m : ℕ) → n ≡ min 11 m → (n ≡ 0) ⊎ ((n ≡ 0 → ⊥) × (10 < n)) → (m ≡ 0) ⊎ ((m ≡ 0 → ⊥) × (10 < m))
unfit n m e (inl z) = inl (omega arith)
unfit n m e (inr w) = inr (λ z. w.0 (omega arith), omega (arith, w.1))

pub digits_short : (src : Bytes) (p base : ℕ) → length src ≤ p → digits (base + p) (drop p src) ≡ short
unfolding digits counted is_empty
digits_short src p base h = at_drop_all (digits (base + p)) src p h ∙ ap counted (span_none (base + p))

-- the digits that stand at a place of the window, of which there are n
module _ (src : Bytes) (p base n : ℕ) (run : n ≡ prefix_len is_digit (drop p src)) where
  counted_here : digits (base + p) (drop p src) ≡ counted (cut_at (base + p) n (drop p src))
  unfolding digits
  counted_here = ap counted (span_by (base + p) (drop p src)) ∙ ap (λ (m : ℕ). counted (cut_at (base + p) m (drop p src))) (sym run)

  taken_length : length (take n (drop p src)) ≡ n
  taken_length = length-take n (drop p src) ∙ omega (arith, prefix_len-le-length is_digit (drop p src))

  none_here : p < length src → n ≡ 0 → digits (base + p) (drop p src) ≡ misfit
  none_here h e =
      counted_here
      ∙ ap (λ (m : ℕ). counted (cut_at (base + p) m (drop p src))) e
      ∙ counted_none (base + p + 0) (drop p src) (simp length-drop (omega arith))

  pub digits_misfit : p < length src → (n ≡ 0) ⊎ ((n ≡ 0 → ⊥) × (10 < n)) → digits (base + p) (drop p src) ≡ misfit
  digits_misfit h (inl e) = none_here h e
  digits_misfit h (inr w) = counted_here ∙ counted_many (take n (drop p src)) (base + p + n) (drop n (drop p src)) (omega (arith, taken_length, w.1))

  pub digits_took : 0 < n → n ≤ 10 → digits (base + p) (drop p src) ≡ took (value (take n (drop p src))) (base + (p + n)) (drop (p + n) src)
  digits_took h l =
      counted_here
      ∙ counted_some (take n (drop p src)) (base + p + n) (drop n (drop p src)) (omega (arith, taken_length)) (omega (arith, taken_length))
      ∙ place_on (took (value (take n (drop p src)))) src base p n

-- exactly so many digits
of_took : (k n p : ℕ) (xs : Bytes) → k ≤ prefix_len is_digit xs → digits_of k n p xs ≡ took (value_on n (take k xs)) (p + k) (drop k xs)
unfolding digits_of value_on
of_took zero n p xs h = let z : p ≡ p + 0 = omega arith in ap (λ (q : ℕ). took n q xs) z
of_took (suc k) n p [] h = absurd (omega arith)
of_took (suc k) n p (x ∷ xs) h =
    cases (is_digit x)
    (λ e.
    let l = run_on x xs e in
    let z : suc p + k ≡ p + suc k = omega arith in
    rw (e, digits_of) (of_took k (n * 10 + (x - 48)) (suc p) xs (omega arith) ∙ ap (λ (q : ℕ). took (value_on (n * 10 + (x - 48)) (take k xs)) q (drop k xs)) z))
    (λ e. let l = run_stops x xs e in absurd (omega arith))

of_short : (k n p : ℕ) (xs : Bytes) → prefix_len is_digit xs < k → prefix_len is_digit xs ≡ length xs → digits_of k n p xs ≡ short
unfolding digits_of
of_short zero n p xs h e = absurd (omega arith)
of_short (suc k) n p [] h e = refl
of_short (suc k) n p (x ∷ xs) h e =
    cases (is_digit x)
    (λ d. let l = run_on x xs d in rw (d, digits_of) (of_short k (n * 10 + (x - 48)) (suc p) xs (omega arith) (omega arith)))
    (λ d. let l = run_stops x xs d in absurd (omega arith))

of_misfit : (k n p : ℕ) (xs : Bytes) → prefix_len is_digit xs < k → prefix_len is_digit xs < length xs → digits_of k n p xs ≡ misfit
unfolding digits_of
of_misfit zero n p xs h e = absurd (omega arith)
of_misfit (suc k) n p [] h e = absurd (omega arith)
of_misfit (suc k) n p (x ∷ xs) h e =
    cases (is_digit x)
    (λ d. let l = run_on x xs d in rw (d, digits_of) (of_misfit k (n * 10 + (x - 48)) (suc p) xs (omega arith) (omega arith)))
    (λ d. rw (d, digits_of))

module _ (k : ℕ) (src : Bytes) (p base n : ℕ) (run : n ≡ prefix_len is_digit (drop p src)) where
  pub exactly_took : k ≤ n → digits_of k 0 (base + p) (drop p src) ≡ took (value (take k (drop p src))) (base + (p + k)) (drop (p + k) src)
  unfolding value
  exactly_took h = of_took k 0 (base + p) (drop p src) (omega arith) ∙ place_on (took (value_on 0 (take k (drop p src)))) src base p k

  pub exactly_short : n < k → n ≡ length (drop p src) → digits_of k 0 (base + p) (drop p src) ≡ short
  exactly_short h e = of_short k 0 (base + p) (drop p src) (omega arith) (omega arith)

  pub exactly_misfit : n < k → (n ≡ length (drop p src) → ⊥) → digits_of k 0 (base + p) (drop p src) ≡ misfit
  exactly_misfit h e = of_misfit k 0 (base + p) (drop p src) (omega arith) (omega (arith, prefix_len-le-length is_digit (drop p src)))
