-- Digits one by one from the last, and how many there are.
use Rattle.std.proofs.Common.{◌≡◌, ℕ, zero, suc, ◌+◌, ◌-◌, ◌*◌, ◌/◌, ◌%◌, ◌^◌, ◌<◌, ◌≤◌, true, ltb, [], ◌∷◌, ◌++◌, length, sym, refl, ap, ◌∙◌, pow-suc, arith, length-append}
use Rattle.std.proofs.lemmas.Bool.{lt-ltb, le-ltb}
use Rattle.format.specs.Bytes.{Bytes}
use Rattle.format.specs.Writing.{padded, decimal, decimal_on}
use Rattle.locality.proofs.Cases.{cases}
use Rattle.sections.proofs.Digits.{padded_++, spells}

below_ten : (n : ℕ) → n < 10 → ltb n 10 ≡ true
below_ten n h = lt-ltb n 10 h

-- a turn more than a number has digits changes nothing
fuel : (k n : ℕ) (acc : Bytes) → n < 10 ^ suc k → decimal_on (suc (suc k)) n acc ≡ decimal_on (suc k) n acc
unfolding decimal_on
fuel zero n acc h = rw (below_ten n (omega arith), decimal_on) refl
fuel (suc k) n acc h =
    cases (ltb n 10)
    (λ e. rw (e, decimal_on) refl)
    (λ e. rw (e, decimal_on) (fuel k (n / 10) ((48 + n % 10) ∷ acc) (let h' : n < 10 ^ suc k * 10 = rw (pow-suc 10 (suc k)) at h in omega arith)))

decimal_on_++ : (k n : ℕ) (xs ys : Bytes) → decimal_on k n (xs ++ ys) ≡ decimal_on k n xs ++ ys
unfolding decimal_on
decimal_on_++ zero n xs ys = refl
decimal_on_++ (suc k) n xs ys =
    cases (ltb n 10)
    (λ e. rw (e, decimal_on) refl)
    (λ e. rw (e, decimal_on) (decimal_on_++ k (n / 10) ((48 + n % 10) ∷ xs) ys))

-- a number below ten is one digit
pub decimal_one : (n : ℕ) → n < 10 → decimal n ≡ (48 + n) ∷ []
unfolding decimal decimal_on
decimal_one n h = rw (below_ten n h, decimal_on) refl

turn : (k n : ℕ) → 10 ≤ n → decimal_on (suc k) n [] ≡ decimal_on k (n / 10) ((48 + n % 10) ∷ [])
unfolding decimal_on
turn k n h = rw (le-ltb n 10 h, decimal_on) refl

-- a number from ten on is its tens and its last digit
pub decimal_more : (n : ℕ) → 10 ≤ n → n < 10 ^ 10 → decimal n ≡ decimal (n / 10) ++ ((48 + n % 10) ∷ [])
unfolding decimal
decimal_more n l h =
    turn 9 n l
    ∙ decimal_on_++ 9 (n / 10) [] ((48 + n % 10) ∷ [])
    ∙ ap (λ xs. xs ++ ((48 + n % 10) ∷ [])) (sym (fuel 8 (n / 10) [] (omega arith)))

-- how many digits that makes
pub decimal_more_length : (n : ℕ) → 10 ≤ n → n < 10 ^ 10 → length (decimal n) ≡ length (decimal (n / 10)) + 1
decimal_more_length n l h = ap length (decimal_more n l h) ∙ length-append (decimal (n / 10)) ((48 + n % 10) ∷ [])

-- a number below 10,000,000,000 has at most ten digits
pub decimal_length : (n : ℕ) → n < 10 ^ 10 → length (decimal n) ≤ 10
decimal_length n h = (spells n h).few

-- the last k digits: those of the tens, and the last one
pub padded_last : (k n : ℕ) → 0 < k → padded k n [] ≡ padded (k - 1) (n / 10) [] ++ ((48 + n % 10) ∷ [])
unfolding padded
padded_last zero n h = absurd (omega arith)
padded_last (suc k) n h = let e : suc k - 1 ≡ k = omega arith in rw e (sym (padded_++ k (n / 10) [] ((48 + n % 10) ∷ [])))

-- no digits
pub padded_none : (k n : ℕ) → k ≤ 0 → padded k n [] ≡ []
unfolding padded
padded_none zero n h = refl
padded_none (suc k) n h = absurd (omega arith)
