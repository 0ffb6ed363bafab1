-- Bytes read backwards, by what they end with.
use Rattle.std.proofs.Common.{◌≡◌, ℕ, suc, ◌+◌, ◌-◌, ◌<◌, ◌≤◌, Bool, true, false, ◌&&◌, eqb, leb, ◌⊎◌, [], ◌∷◌, ◌++◌, reverse, length, take, drop, Some, None, Option, sym, refl, ap, ◌∙◌, inl, inr, append_assoc, append-nil, arith, Bor, MatchOption}
use mathlib.Core.List.{reverse_aux-eq}
use Rattle.std.specs.List.{suffix_len}
use Rattle.std.specs.Option.{option_map}
use Rattle.std.proofs.lemmas.List.{reverse-append, reverse-reverse}
use Rattle.std.proofs.lemmas.List.Sums.{suffix_len-le-length}
use Rattle.std.proofs.lemmas.Option.{none-some}
use Rattle.std.proofs.lemmas.Bool.{eq-eqb, eqb-true, le-leb, lt-leb, and_left, and_right, and_from}
use Rattle.format.specs.Bytes.{Bytes, is_digit, span, value}
use Rattle.format.specs.Frames.{behind}
use Rattle.format.specs.Sections.{back_eol, on, back_digits}
use Rattle.locality.proofs.Cases.{cases}
use Rattle.opening.proofs.Runs.{span_on, span_stops, span_none, span_by, cut_at, last_taken, last_dropped}

-- An end of line backwards.
module _ (x : ℕ) where
  pub back_cr : (xs : Bytes) → eqb x 10 ≡ false → eqb x 13 ≡ true → back_eol (x ∷ xs) ≡ Some xs
  unfolding back_eol
  back_cr xs e f = rw (e, f, back_eol)

  pub back_other : (xs : Bytes) → eqb x 10 ≡ false → eqb x 13 ≡ false → back_eol (x ∷ xs) ≡ None
  unfolding back_eol
  back_other xs e f = rw (e, f, back_eol)

  pub back_lf_last : eqb x 10 ≡ true → back_eol (x ∷ []) ≡ Some []
  unfolding back_eol
  back_lf_last e = rw (e, back_eol)

  pub back_crlf : (y : ℕ) (ys : Bytes) → eqb x 10 ≡ true → eqb y 13 ≡ true → back_eol (x ∷ y ∷ ys) ≡ Some ys
  unfolding back_eol
  back_crlf y ys e f = rw (e, f, back_eol)

  pub back_lf : (y : ℕ) (ys : Bytes) → eqb x 10 ≡ true → eqb y 13 ≡ false → back_eol (x ∷ y ∷ ys) ≡ Some (y ∷ ys)
  unfolding back_eol
  back_lf y ys e f = rw (e, f, back_eol)

pub back_none : back_eol [] ≡ None
unfolding back_eol
back_none = refl

-- the last byte, and those before it
last_byte : (bytes : Bytes) (y : ℕ) (ys : Bytes) → reverse bytes ≡ y ∷ ys → bytes ≡ reverse ys ++ (y ∷ [])
last_byte bytes y ys e = sym (reverse-reverse bytes) ∙ ap reverse e ∙ reverse_aux-eq ys (y ∷ [])

-- The bytes end with an end of line, or with none.
module _ (bytes : Bytes) where
  pub ends_crlf : (front : Bytes) → bytes ≡ front ++ (13 ∷ 10 ∷ []) → Some (reverse front) ≡ back_eol (reverse bytes)
  ends_crlf front e = sym (ap (λ l. back_eol (reverse l)) e ∙ ap back_eol (reverse-append front (13 ∷ 10 ∷ [])) ∙ back_crlf 10 13 (reverse front) refl refl)

  pub ends_lf : (front : Bytes) → bytes ≡ front ++ (10 ∷ []) → ((f : Bytes) → bytes ≡ f ++ (13 ∷ 10 ∷ []) → ⊥) → Some (reverse front) ≡ back_eol (reverse bytes)
  ends_lf front e un = sym (ap (λ l. back_eol (reverse l)) e ∙ ap back_eol (reverse-append front (10 ∷ [])) ∙ at (reverse front) refl) where
    at : (r : Bytes) → reverse front ≡ r → back_eol (10 ∷ r) ≡ Some r
    at [] w = back_lf_last 10 refl
    at (y ∷ ys) w =
        cases (eqb y 13)
        (λ c.
        let z : y ≡ 13 = eqb-true y 13 c in
        absurd (un (reverse ys) (e ∙ ap (λ l. l ++ (10 ∷ [])) (last_byte front y ys w) ∙ append_assoc (reverse ys) (y ∷ []) (10 ∷ []) ∙ ap (λ k. reverse ys ++ (k ∷ 10 ∷ [])) z)))
        (λ c. back_lf 10 y ys refl c)

  pub ends_cr : (r : Option (Bor Bytes)) → ((f : Bytes) → bytes ≡ f ++ (10 ∷ []) → ⊥) → MatchOption r ((f : Bytes) → bytes ≡ f ++ (13 ∷ []) → ⊥) (λ x. bytes ≡ x.now ++ (13 ∷ [])) → option_map (λ x. reverse x.now) r ≡ back_eol (reverse bytes)
  ends_cr (Some x) un is = sym (ap (λ l. back_eol (reverse l)) is ∙ ap back_eol (reverse-append x.now (13 ∷ [])) ∙ back_cr 13 (reverse x.now) refl refl)
  ends_cr None un nor = sym (at (reverse bytes) refl) where
    at : (r : Bytes) → reverse bytes ≡ r → back_eol r ≡ None
    at [] w = back_none
    at (y ∷ ys) w =
        let l = last_byte bytes y ys w in
        cases (eqb y 10)
        (λ c. let z : y ≡ 10 = eqb-true y 10 c in absurd (un (reverse ys) (l ∙ ap (λ k. reverse ys ++ (k ∷ [])) z)))
        (λ c.
        cases (eqb y 13)
        (λ d. let z : y ≡ 13 = eqb-true y 13 d in absurd (nor (reverse ys) (l ∙ ap (λ k. reverse ys ++ (k ∷ [])) z)))
        (λ d. back_other y ys c d))

-- A word backwards.
pub behind_all : (xs : Bytes) → behind [] xs ≡ Some xs
unfolding behind
behind_all xs = refl

pub behind_none : (w : ℕ) (ws : Bytes) → behind (w ∷ ws) [] ≡ None
unfolding behind
behind_none w ws = refl

pub behind_fits : (w x : ℕ) (ws xs : Bytes) → eqb w x ≡ true → behind (w ∷ ws) (x ∷ xs) ≡ behind ws xs
unfolding behind
behind_fits w x ws xs e = rw (e, behind)

pub behind_misfits : (w x : ℕ) (ws xs : Bytes) → eqb w x ≡ false → behind (w ∷ ws) (x ∷ xs) ≡ None
unfolding behind
behind_misfits w x ws xs e = rw (e, behind)

pub behind_front : (w ys : Bytes) → behind w (w ++ ys) ≡ Some ys
behind_front [] ys = behind_all ys
behind_front (x ∷ w) ys = behind_fits x x w (w ++ ys) (eq-eqb x x refl) ∙ behind_front w ys

-- where the bytes do not begin with the word
behind_is : (w xs ys : Bytes) → behind w xs ≡ Some ys → xs ≡ w ++ ys
behind_is [] xs ys e = let f : xs ≡ ys = (let g : Some xs ≡ Some ys = sym (behind_all xs) ∙ e in cc) in f
behind_is (w ∷ ws) [] ys e = absurd (none-some ys (sym (behind_none w ws) ∙ e))
behind_is (w ∷ ws) (x ∷ xs) ys e =
    cases (eqb w x)
    (λ f.
    let g : w ≡ x = eqb-true w x f in
    let h = behind_is ws xs ys (sym (behind_fits w x ws xs f) ∙ e) in
    rw (g, h) refl)
    (λ f. absurd (none-some ys (sym (behind_misfits w x ws xs f) ∙ e)))

pub behind_other : (w xs : Bytes) → ((rest : Bytes) → xs ≡ w ++ rest → ⊥) → behind w xs ≡ None
behind_other w xs h = go (behind w xs) refl where
  go : (o : Option Bytes) → behind w xs ≡ o → o ≡ None
  go None e = refl
  go (Some ys) e = absurd (h ys (behind_is w xs ys e))

-- the bytes end with a word, or they do not
pub ends_word : (bytes word : Bytes) (r : Option (Bor Bytes)) → MatchOption r ((front : Bytes) → bytes ≡ front ++ word → ⊥) (λ x. bytes ≡ x.now ++ word) → option_map (λ x. reverse x.now) r ≡ behind (reverse word) (reverse bytes)
ends_word bytes word (Some x) is = sym (ap (λ l. behind (reverse word) (reverse l)) is ∙ ap (behind (reverse word)) (reverse-append x.now word) ∙ behind_front (reverse word) (reverse x.now))
ends_word bytes word None un =
    sym (behind_other (reverse word) (reverse bytes)
    (λ rest e. un (reverse rest)
    (sym (reverse-reverse bytes) ∙ ap reverse e ∙ reverse-append (reverse word) rest ∙ ap (λ w. reverse rest ++ w) (reverse-reverse word))))

-- Digits backwards.
abbrev pub picked : Bool → ℕ → Bytes → Option (ℕ × Bytes)
picked true v rest = Some (v, rest)
picked false v rest = None

picked_is : (r : Bytes × ℕ × Bytes) → back_digits r ≡ picked (leb 1 r.1 && leb r.1 10) (value (reverse r.0)) r.2
unfolding back_digits
picked_is r = cases (leb 1 r.1 && leb r.1 10) (λ e. rw (e, back_digits)) (λ e. rw (e, back_digits))

-- the digits of a run before those seen
unfoldable pub back_on : Bytes → (Bytes × ℕ × Bytes) → Option (ℕ × Bytes)
back_on seen r = picked (leb 1 r.1 && leb r.1 10) (value (reverse r.0 ++ seen)) r.2

pub back_start : (r : Bytes × ℕ × Bytes) → back_on [] r ≡ back_digits r
unfolding back_on
back_start r = ap (λ l. picked (leb 1 r.1 && leb r.1 10) (value l) r.2) (append-nil (reverse r.0)) ∙ sym (picked_is r)

pub back_on_fact : (x q : ℕ) (seen ds rest : Bytes) → back_on seen (x ∷ ds, q, rest) ≡ back_on (x ∷ seen) (ds, q, rest)
unfolding back_on
back_on_fact x q seen ds rest =
    ap (λ l. picked (leb 1 q && leb q 10) (value l) rest) (ap (λ l. l ++ seen) (reverse_aux-eq ds (x ∷ [])) ∙ append_assoc (reverse ds) (x ∷ []) seen)

pub span_place : (p : ℕ) (xs : Bytes) → p ≤ (span is_digit p xs).1
span_place p [] = rw (span_none p) (omega arith)
span_place p (x ∷ xs) =
    cases (is_digit x)
    (λ e. rw (span_on p x xs e) (omega (arith, span_place (suc p) xs)))
    (λ e. rw (span_stops p x xs e) (omega arith))

pub back_many : (seen : Bytes) (r : Bytes × ℕ × Bytes) → 10 < r.1 → back_on seen r ≡ None
unfolding back_on
back_many seen r h = ap (λ b. picked b (value (reverse r.0 ++ seen)) r.2) (and_right (leb 1 r.1) (leb r.1 10) (lt-leb r.1 10 h))

-- The digits with which bytes end, of which there are n.
module _ (bytes : Bytes) (n : ℕ) (run : n ≡ suffix_len is_digit bytes) where
  long : length bytes - n + n ≡ length bytes
  long = omega (arith, run, suffix_len-le-length is_digit bytes)

  back_here : back_digits (span is_digit 0 (reverse bytes)) ≡ picked (leb 1 n && leb n 10) (value (drop (length bytes - n) bytes)) (reverse (take (length bytes - n) bytes))
  back_here =
      let z : 0 + n ≡ n = omega arith in
      ap back_digits (span_by 0 (reverse bytes) ∙ ap (λ (m : ℕ). cut_at 0 m (reverse bytes)) (sym run))
      ∙ picked_is (cut_at 0 n (reverse bytes))
      ∙ ap (λ (k : ℕ). picked (leb 1 k && leb k 10) (value (reverse (take n (reverse bytes)))) (drop n (reverse bytes))) z
      ∙ ap (λ (ds : Bytes). picked (leb 1 n && leb n 10) (value ds) (drop n (reverse bytes))) (last_taken bytes n (length bytes - n) long)
      ∙ ap (picked (leb 1 n && leb n 10) (value (drop (length bytes - n) bytes))) (last_dropped bytes n (length bytes - n) long)

  pub back_unfit : (n ≡ 0) ⊎ ((n ≡ 0 → ⊥) × (10 < n)) → None ≡ back_digits (span is_digit 0 (reverse bytes))
  back_unfit (inl e) = sym (back_here ∙ ap (λ b. picked b (value (drop (length bytes - n) bytes)) (reverse (take (length bytes - n) bytes))) (and_left (leb 1 n) (leb n 10) (lt-leb 1 n (omega arith))))
  back_unfit (inr w) = sym (back_here ∙ ap (λ b. picked b (value (drop (length bytes - n) bytes)) (reverse (take (length bytes - n) bytes))) (and_right (leb 1 n) (leb n 10) (lt-leb n 10 w.1)))

  pub back_taken : 0 < n → n ≤ 10 → {v : ℕ} → v ≡ value (drop (length bytes - n) bytes) → Some (v, reverse (take (length bytes - n) bytes)) ≡ back_digits (span is_digit 0 (reverse bytes))
  back_taken a b is =
      ap (λ (k : ℕ). Some (k, reverse (take (length bytes - n) bytes))) is
      ∙ sym (back_here ∙ ap (λ t. picked t (value (drop (length bytes - n) bytes)) (reverse (take (length bytes - n) bytes))) (and_from (leb 1 n) (leb n 10) (le-leb 1 n a) (le-leb n 10 b)))

-- one part backwards after another
pub on_some : {A B : Type 0} (x : Option A) (k : A → Option B) {a : A} {z : Option B} → Some a ≡ x → k a ≡ z → on x k ≡ z
on_some x k e was = ap (λ y. on y k) (sym e) ∙ was

pub on_none : {A B : Type 0} (x : Option A) (k : A → Option B) → None ≡ x → on x k ≡ None
on_none x k e = ap (λ y. on y k) (sym e)
