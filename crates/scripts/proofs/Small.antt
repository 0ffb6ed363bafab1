-- Numbers that a script names have at most ten digits.
use Rattle.std.proofs.Common.{◌≡◌, ℕ, suc, ◌+◌, ◌-◌, ◌*◌, ◌^◌, ◌<◌, ◌≤◌, true, eqb, leb, [], ◌∷◌, length, Some, None, Ok, Err, codes, Option, Result, refl, arith, lit<}
use native.Mathlib.Nat.{pow-le-pow_right}
use Rattle.std.proofs.lemmas.Bool.{leb-true}
use Rattle.format.specs.Bytes.{Bytes, is_digit, span, every, value, value_on}
use Rattle.format.specs.Frames.{behind}
use Rattle.format.specs.Lines.{took, is_empty, counted, digits}
use Rattle.locality.proofs.Cases.{cases}
use Rattle.locality.proofs.Tests.{clash, and_left, and_right}
use Rattle.opening.proofs.Digits.{grows}
use Rattle.scripts.specs.declared.error.Mistake.{Mistake}
use Rattle.scripts.specs.declared.line.Head.{Head}
use Rattle.scripts.specs.declared.line.Head.TheVariants.{Remove, Put}
use Rattle.scripts.specs.Lines.{whole, number_of, numbered, remove_of, put_of, saying, head_of}

span_passes : (p : ℕ) (xs : Bytes) → every is_digit (span is_digit p xs).0 ≡ true
unfolding span every
span_passes p [] = refl
span_passes p (x ∷ xs) = cases (is_digit x) (λ e. rw (e, span) (rw (e, every) (span_passes (suc p) xs))) (λ e. rw (e, span) refl)

value_below : (k n : ℕ) (ds : Bytes) → every is_digit ds ≡ true → n < 10 ^ k → value_on n ds < 10 ^ (k + length ds)
unfolding value_on every
value_below k n [] e h = let q : k ≡ k + 0 = omega arith in rw q at h
value_below k n (d ∷ ds) e h =
    let q : suc k + length ds ≡ k + suc (length ds) = omega arith in
    let r = value_below (suc k) (n * 10 + (d - 48)) ds (and_right (is_digit d) (every is_digit ds) e) (grows n k d h (and_left (is_digit d) (every is_digit ds) e)) in
    rw q at r

ten_digits : (ds : Bytes) → every is_digit ds ≡ true → length ds ≤ 10 → value ds < 10 ^ 10
unfolding value
ten_digits ds e h =
    let v = value_below 0 0 ds e (lit< tt) in
    let l : 0 + length ds ≤ 10 = omega arith in
    let p : 10 ^ (0 + length ds) ≤ 10 ^ 10 = pow-le-pow_right {n = 10} (lit< tt) l in
    omega arith

taken_small : (v p n : ℕ) (rest : Bytes) → v < 10 ^ 10 → whole (took v p rest) ≡ Some n → n < 10 ^ 10
unfolding whole
taken_small v p n [] h e = let q : v ≡ n = cc in omega arith
taken_small v p n (x ∷ xs) h e = clash (cc)

counted_small : (r : Bytes × ℕ × Bytes) (n : ℕ) → every is_digit r.0 ≡ true → whole (counted r) ≡ Some n → n < 10 ^ 10
unfolding counted whole
counted_small r n e h =
    cases (leb (length r.0) 10)
    (λ a.
    cases (is_empty r.0)
    (λ b.
    cases (is_empty r.2)
    (λ d. let z : None ≡ Some n = rw (a, b, d, counted) at h in clash (cc))
    (λ d. let z : None ≡ Some n = rw (a, b, d, counted) at h in clash (cc)))
    (λ b. taken_small (value r.0) r.1 n r.2 (ten_digits r.0 e (leb-true _ _ a)) (rw (a, b, counted) at h)))
    (λ a. let z : None ≡ Some n = rw (a, counted) at h in clash (cc))

number_small : (xs : Bytes) (n : ℕ) → number_of xs ≡ Some n → n < 10 ^ 10
unfolding number_of digits
number_small xs n e = counted_small (span is_digit 0 xs) n (span_passes 0 xs) e

-- a number of at most ten digits
abbrev pub SmallHead : Head → Type 0
SmallHead (Remove n) = n < 10 ^ 10
SmallHead (Put n) = n < 10 ^ 10

abbrev SmallChange : Result Head Mistake → Type 0
SmallChange (Ok h) = SmallHead h
SmallChange (Err m) = Unit {0}

abbrev SmallLine : Result (Option Head) Mistake → Type 0
SmallLine (Ok None) = Unit {0}
SmallLine (Ok (Some h)) = SmallHead h
SmallLine (Err m) = Unit {0}

put_small : (xs : Bytes) (o : Option ℕ) → number_of xs ≡ o → SmallChange (numbered (λ n. Put n) o)
unfolding numbered
put_small xs (Some n) e = number_small xs n e
put_small xs None e = tt

remove_small : (xs : Bytes) (o : Option ℕ) → number_of xs ≡ o → SmallChange (numbered (λ n. Remove n) o)
unfolding numbered
remove_small xs (Some n) e = number_small xs n e
remove_small xs None e = tt

removal_small : (o : Option Bytes) → SmallChange (remove_of o)
unfolding remove_of
removal_small (Some ds) = remove_small ds _ refl
removal_small None = tt

change_small : (l : Bytes) (o : Option Bytes) → SmallChange (put_of l o)
unfolding put_of
change_small l (Some ds) = put_small ds _ refl
change_small l None = removal_small (behind (codes "remove ") l)

said_small : (r : Result Head Mistake) → SmallChange r → SmallLine (saying r)
unfolding saying
said_small (Ok h) s = s
said_small (Err m) s = tt

line_small : (l : Bytes) → SmallLine (head_of l)
unfolding head_of
line_small [] = tt
line_small (x ∷ xs) =
    cases (eqb x 35)
    (λ e. rw (e, head_of) tt)
    (λ e. rw (e, head_of) (said_small _ (change_small (x ∷ xs) (behind (codes "put ") (x ∷ xs)))))

-- the number of a line has at most ten digits
pub head_small : (l : Bytes) (h : Head) → head_of l ≡ Ok (Some h) → SmallHead h
head_small l h e = rw e at (line_small l)
