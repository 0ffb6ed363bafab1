-- What a byte counts as a hex digit, by its range.
use Rattle.std.proofs.Common.{◌≡◌, ℕ, ◌-◌, ◌<◌, ◌≤◌, true, false, ◌&&◌, leb, ◌⊎◌, Some, None, Option, is_some, inl, inr, ⊎_elim, sym, ◌∙◌, arith}
use Rattle.std.proofs.lemmas.Bool.{cases_lt, lt-leb, and_left, and_right}
use Rattle.std.proofs.lemmas.Bool.Decides.{nat_tests}
use Rattle.format.specs.Bytes.{is_digit}
use Rattle.format.specs.Names.{hex_digit}
use Rattle.format.specs.Strings.{is_hex}
use Rattle.lexer.proofs.Cases.{cases}

module _ (c : ℕ) where
  pub decimal_digit : is_digit c ≡ true → hex_digit c ≡ Some (c - 48)
  unfolding hex_digit
  decimal_digit d = rw (d, hex_digit)

  pub upper_digit : is_digit c ≡ false → 65 ≤ c → c ≤ 70 → hex_digit c ≡ Some (c - 55)
  unfolding hex_digit
  upper_digit d l h =
      let u : (leb 65 c && leb c 70) ≡ true = grind (arith, nat_tests) in
      rw (d, u, hex_digit)

  pub lower_digit : is_digit c ≡ false → 97 ≤ c → c ≤ 102 → hex_digit c ≡ Some (c - 87)
  unfolding hex_digit
  lower_digit d l h =
      let u : (leb 65 c && leb c 70) ≡ false = grind (arith, nat_tests) in
      let v : (leb 97 c && leb c 102) ≡ true = grind (arith, nat_tests) in
      rw (d, u, v, hex_digit)

  pub no_digit : is_digit c ≡ false → ((65 ≤ c) × (70 < c)) ⊎ (c < 65) → ((97 ≤ c) × (102 < c)) ⊎ (c < 97) → hex_digit c ≡ None
  unfolding hex_digit
  no_digit d k l =
      let u : (leb 65 c && leb c 70) ≡ false = grind (arith, nat_tests) in
      let v : (leb 97 c && leb c 102) ≡ false = grind (arith, nat_tests) in
      rw (d, u, v, hex_digit)

  -- a hex digit counts less than 16
  pub digit_small : (v : ℕ) → Some v ≡ hex_digit c → v < 16
  unfolding hex_digit is_digit
  digit_small v e =
      cases (is_digit c)
      (λ d. let f : v ≡ c - 48 = cc (decimal_digit d) in grind (arith, nat_tests))
      (λ d.
      cases (leb 65 c && leb c 70)
      (λ u. let f : Some v ≡ Some (c - 55) = e ∙ rw (d, u, hex_digit) in let g : v ≡ c - 55 = cc in grind (arith, nat_tests))
      (λ u.
      cases (leb 97 c && leb c 102)
      (λ w. let f : Some v ≡ Some (c - 87) = e ∙ rw (d, u, w, hex_digit) in let g : v ≡ c - 87 = cc in grind (arith, nat_tests))
      (λ w. let f : Some v ≡ None = e ∙ rw (d, u, w, hex_digit) in let z : ◌≡◌ {A = ℕ} 0 1 = cc in absurd (omega arith))))

-- the same by the range alone
pub by_digit : (c : ℕ) → 48 ≤ c → c ≤ 57 → hex_digit c ≡ Some (c - 48)
unfolding is_digit
by_digit c l h = decimal_digit c (grind (arith, nat_tests))

pub by_upper : (c : ℕ) → 65 ≤ c → c ≤ 70 → hex_digit c ≡ Some (c - 55)
unfolding is_digit
by_upper c l h = upper_digit c (grind (arith, nat_tests)) l h

pub by_lower : (c : ℕ) → 97 ≤ c → c ≤ 102 → hex_digit c ≡ Some (c - 87)
unfolding is_digit
by_lower c l h = lower_digit c (grind (arith, nat_tests)) l h

past_or_below : (c a b : ℕ) → (a ≤ c → b < c) → ((a ≤ c) × (b < c)) ⊎ (c < a)
past_or_below c a b h = ⊎_elim (λ l. inr l) (λ g. inl (g, h g)) (cases_lt c a)

pub by_none : (c : ℕ) → (48 ≤ c → 57 < c) → (65 ≤ c → 70 < c) → (97 ≤ c → 102 < c) → hex_digit c ≡ None
unfolding is_digit
by_none c h k l =
    no_digit c
    (⊎_elim (λ g. and_left (leb 48 c) (leb c 57) (lt-leb 48 c g)) (λ g. and_right (leb 48 c) (leb c 57) (lt-leb c 57 (h g))) (cases_lt c 48))
    (past_or_below c 65 70 k)
    (past_or_below c 97 102 l)

-- whether a byte counts as one
pub hex_told : (c : ℕ) (o : Option ℕ) → o ≡ hex_digit c → is_some o ≡ is_hex c
unfolding is_hex
hex_told c (Some v) e = rw (sym e, is_hex)
hex_told c None e = rw (sym e, is_hex)
