-- Runs of digits, in front of bytes and at their end, and the numbers that they spell.
use Rattle.std.proofs.Common.{◌≡◌, ℕ, zero, suc, ◌+◌, ◌-◌, ◌*◌, ◌<◌, ◌≤◌, min, true, false, [], ◌∷◌, ◌++◌, reverse, length, get_or, take, drop, sym, refl, ap, ◌∙◌, arith}
use Rattle.std.specs.List.{AllPass, prefix_len, suffix_len}
use Rattle.std.proofs.lemmas.List.{take_more, take_all, take-append-drop, take-append-le, get_or-take, get_or-drop, get_or-reverse, length-drop, length-reverse, length-take, reverse-append, reverse-reverse}
use Rattle.std.proofs.lemmas.List.Prefix.{front_rest}
use Rattle.std.proofs.lemmas.List.Sums.{prefix_len_passes, suffix_len-le-length}
use Rattle.format.specs.Bytes.{Bytes, is_digit, span, value, value_on}
use Rattle.locality.proofs.Cases.{cases}
use Rattle.sections.proofs.Digits.{value_on_++}

-- a run, digit by digit
pub span_on : (p x : ℕ) (xs : Bytes) → is_digit x ≡ true → span is_digit p (x ∷ xs) ≡ (x ∷ (span is_digit (suc p) xs).0, (span is_digit (suc p) xs).1, (span is_digit (suc p) xs).2)
unfolding span
span_on p x xs e = rw (e, span)

pub span_stops : (p x : ℕ) (xs : Bytes) → is_digit x ≡ false → span is_digit p (x ∷ xs) ≡ ([], p, x ∷ xs)
unfolding span
span_stops p x xs e = rw (e, span)

pub span_none : (p : ℕ) → span is_digit p [] ≡ ([], p, [])
unfolding span
span_none p = refl

-- how long it is, one digit on
pub run_on : (x : ℕ) (xs : Bytes) → is_digit x ≡ true → prefix_len is_digit (x ∷ xs) ≡ suc (prefix_len is_digit xs)
run_on x xs e = rw e (omega arith)

pub run_stops : (x : ℕ) (xs : Bytes) → is_digit x ≡ false → prefix_len is_digit (x ∷ xs) ≡ 0
run_stops x xs e = rw e refl

-- how long it is where no more than so many bytes are looked at
pub run_within : (m : ℕ) (xs : Bytes) → prefix_len is_digit (take m xs) ≡ min m (prefix_len is_digit xs)
run_within zero xs = omega arith
run_within (suc m) [] = omega arith
run_within (suc m) (x ∷ xs) =
    cases (is_digit x)
    (λ e. let a = run_on x (take m xs) e in let b = run_on x xs e in let w = run_within m xs in a ∙ omega arith)
    (λ e. let b = run_stops x xs e in run_stops x (take m xs) e ∙ omega arith)

-- bytes cut behind the first n of them, which are counted from p
abbrev pub cut_at : ℕ → ℕ → Bytes → (Bytes × ℕ × Bytes)
cut_at p n xs = (take n xs, p + n, drop n xs)

-- the digits in front
pub span_by : (p : ℕ) (xs : Bytes) → span is_digit p xs ≡ cut_at p (prefix_len is_digit xs) xs
span_by p [] = let z : p ≡ p + 0 = omega arith in span_none p ∙ ap (λ (q : ℕ). let r : Bytes × ℕ × Bytes = ([], q, []) in r) z
span_by p (x ∷ xs) =
    cases (is_digit x)
    (λ e.
    let n = prefix_len is_digit xs in
    let z : suc p + n ≡ p + suc n = omega arith in
    span_on p x xs e
    ∙ ap (λ (r : Bytes × ℕ × Bytes). let s : Bytes × ℕ × Bytes = (x ∷ r.0, r.1, r.2) in s) (span_by (suc p) xs)
    ∙ ap (λ (q : ℕ). let s : Bytes × ℕ × Bytes = (x ∷ take n xs, q, drop n xs) in s) z
    ∙ ap (λ (m : ℕ). cut_at p m (x ∷ xs)) (sym (run_on x xs e)))
    (λ e.
    let z : p ≡ p + 0 = omega arith in
    span_stops p x xs e
    ∙ ap (λ (q : ℕ). let s : Bytes × ℕ × Bytes = ([], q, x ∷ xs) in s) z
    ∙ ap (λ (m : ℕ). cut_at p m (x ∷ xs)) (sym (run_stops x xs e)))

pub front_pass : (xs : Bytes) (n : ℕ) → n ≤ prefix_len is_digit xs → AllPass is_digit (take n xs)
front_pass xs n h =
    λ k d l.
    let q = length-take n xs in
    let i : k < n = omega arith in
    rw (get_or-take n xs k d i) (prefix_len_passes is_digit xs k d (omega arith))

-- the digits at the end
pub end_pass : (xs : Bytes) (n m : ℕ) → n ≡ suffix_len is_digit xs → m + n ≡ length xs → AllPass is_digit (drop m xs)
end_pass xs n m e h =
    λ k d l.
    let q = length-drop m xs in
    let i : length xs - 1 - (m + k) < length xs = omega arith in
    let j : length xs - 1 - (length xs - 1 - (m + k)) ≡ m + k = omega arith in
    let s : length xs - 1 - (m + k) < suffix_len is_digit xs = omega arith in
    let r : get_or (reverse xs) (length xs - 1 - (m + k)) d ≡ get_or (drop m xs) k d =
    get_or-reverse xs (length xs - 1 - (m + k)) d i ∙ ap (λ (t : ℕ). get_or xs t d) j ∙ sym (get_or-drop m xs k d) in
    ap is_digit (sym r) ∙ prefix_len_passes is_digit (reverse xs) (length xs - 1 - (m + k)) d s

reverse_cut : (xs : Bytes) (m : ℕ) → reverse xs ≡ reverse (drop m xs) ++ reverse (take m xs)
reverse_cut xs m = ap reverse (sym (take-append-drop m xs)) ∙ reverse-append (take m xs) (drop m xs)

-- the last n bytes and the first m of them, backwards
module _ (xs : Bytes) (n m : ℕ) (h : m + n ≡ length xs) where
  last_length : length (reverse (drop m xs)) ≡ n
  last_length = length-reverse (drop m xs) ∙ length-drop m xs ∙ omega arith

  pub last_back : take n (reverse xs) ≡ reverse (drop m xs)
  last_back =
      ap (take n) (reverse_cut xs m) ∙ take-append-le n (reverse (drop m xs)) (reverse (take m xs)) (omega (arith, last_length)) ∙ take_all n (reverse (drop m xs)) (omega (arith, last_length))

  pub last_taken : reverse (take n (reverse xs)) ≡ drop m xs
  last_taken = ap reverse last_back ∙ reverse-reverse (drop m xs)

  pub last_dropped : drop n (reverse xs) ≡ reverse (take m xs)
  last_dropped =
      ap (λ (k : ℕ). drop k (reverse xs)) (sym last_length) ∙ front_rest (reverse xs) (reverse (drop m xs)) (reverse (take m xs)) (reverse_cut xs m)

-- the digits at the end, where no more than so many bytes are looked at
pub end_within : (m : ℕ) (xs : Bytes) → suffix_len is_digit (drop (length xs - m) xs) ≡ min m (suffix_len is_digit xs)
end_within m xs =
    let l = suffix_len-le-length is_digit xs in
    let b = last_back xs (min m (length xs)) (length xs - m) (omega arith) in
    ap (prefix_len is_digit) (sym b) ∙ run_within (min m (length xs)) (reverse xs) ∙ omega arith

-- the number that digits spell, one digit on
pub spelt_none : 0 ≡ value []
unfolding value value_on
spelt_none = refl

pub spelt_more : (ds : Bytes) (i : ℕ) → i < length ds → value (take (i + 1) ds) ≡ value (take i ds) * 10 + (get_or ds i 0 - 48)
unfolding value value_on
spelt_more ds i h = ap (value_on 0) (take_more ds i 0 h) ∙ value_on_++ 0 (take i ds) (get_or ds i 0 ∷ [])
