-- Bytes cut at their first LF.
use Rattle.std.proofs.Common.{◌≡◌, ℕ, suc, ◌+◌, ◌-◌, ◌<◌, ◌≤◌, List, [], ◌∷◌, ◌++◌, length, get_or, take, drop, min, sym, refl, ap, ◌∙◌, ⊎_elim, inl, inr, arith}
use Rattle.std.proofs.lemmas.List.{take-append-drop, take_more, take_all, drop_more, drop_all, drop-drop, get_or-take, length-drop, length-take-le}
use Rattle.std.proofs.lemmas.Bool.{cases_lt, ne_eqb}
use Rattle.format.specs.Bytes.{Bytes}
use Rattle.scripts.specs.Lines.{on_first, lines_of}
use Rattle.scripts.specs.Walks.{part, LineAt}

-- no byte is LF
abbrev pub Unbroken : Bytes → Type 0
Unbroken w = (i : ℕ) → i < length w → get_or w i 0 ≡ 10 → ⊥

unbroken_rest : (x : ℕ) (w : Bytes) → Unbroken (x ∷ w) → Unbroken w
unbroken_rest x w u i h = u (suc i) (omega arith)

-- a line, and others behind it
pub lines_cut : (w rest : Bytes) → Unbroken w → lines_of (w ++ (10 ∷ rest)) ≡ w ∷ lines_of rest
unfolding lines_of
lines_cut [] rest u = refl
lines_cut (x ∷ w) rest u =
    rw (ne_eqb x 10 (u 0 (omega arith)), lines_of) (ap (on_first x) (lines_cut w rest (unbroken_rest x w u)))

-- the last line, without LF
pub lines_last : (w : Bytes) → Unbroken w → 0 < length w → lines_of w ≡ w ∷ []
unfolding lines_of
lines_last [] u h = absurd (omega arith)
lines_last (x ∷ []) u h = rw (ne_eqb x 10 (u 0 (omega arith)), lines_of) refl
lines_last (x ∷ y ∷ w) u h =
    rw (ne_eqb x 10 (u 0 (omega arith)), lines_of) (ap (on_first x) (lines_last (y ∷ w) (unbroken_rest x (y ∷ w) u) (omega arith)))

unbroken_front : (xs : Bytes) (n : ℕ) → n ≤ length xs → ((k : ℕ) → k < n → get_or xs k 0 ≡ 10 → ⊥) → Unbroken (take n xs)
unbroken_front xs n h before i l e =
    let t = length-take-le n xs h in
    let lt : i < n = omega arith in
    before i lt (sym (get_or-take n xs i 0 lt) ∙ e)

-- bytes whose n-th is their first LF
cut_front : (xs : Bytes) (n : ℕ) → n < length xs → ((k : ℕ) → k < n → get_or xs k 0 ≡ 10 → ⊥) → get_or xs n 0 ≡ 10 → lines_of xs ≡ take n xs ∷ lines_of (drop (n + 1) xs)
cut_front xs n h before here =
    let parts : xs ≡ take n xs ++ (10 ∷ drop (n + 1) xs) =
    sym (take-append-drop n xs) ∙ ap (λ ys. take n xs ++ ys) (drop_more xs n 0 h ∙ ap (λ (b : ℕ). b ∷ drop (n + 1) xs) here) in
    ap lines_of parts ∙ lines_cut (take n xs) (drop (n + 1) xs) (unbroken_front xs n (omega arith) before)

module _ (src : Bytes) (from n end : ℕ) (begins : from < length src) (at : end ≡ from + n)
    (xs : Bytes) (is : xs ≡ drop from src) (within : n ≤ length xs) (before : (k : ℕ) → k < n → get_or xs k 0 ≡ 10 → ⊥) where
  long : length xs ≡ length src - from
  long = ap length is ∙ length-drop from src

  -- the line ends in LF
  line_cut : end < length src → (n < length xs → get_or xs n 0 ≡ 10) → LineAt src from (take n xs) (end + 1)
  line_cut h found =
      let l = long in
      let here = found (omega arith) in
      let s : from + (n + 1) ≡ end + 1 = omega arith in
      let d : end + 1 - from ≡ n + 1 = omega arith in
      let behind : drop (n + 1) xs ≡ drop (end + 1) src = ap (drop (n + 1)) is ∙ drop-drop (n + 1) from src ∙ ap (λ k. drop k src) s in
      let one : part src from (end + 1) ≡ take n xs ++ (10 ∷ []) =
      rw d (ap (take (n + 1)) (sym is) ∙ take_more xs n 0 (omega arith) ∙ ap (λ (b : ℕ). take n xs ++ (b ∷ [])) here) in
      record {
        moves = omega arith;
        inside = omega arith;
        is = ap lines_of (sym is) ∙ cut_front xs n (omega arith) before here ∙ rw behind refl;
        text = inl one;
      }

  -- the script ends
  line_last : length src ≤ end → LineAt src from (take n xs) end
  unfolding lines_of
  line_last h =
      let l = long in
      let all : take n xs ≡ xs = take_all n xs (omega arith) in
      let none : drop end src ≡ [] = drop_all end src h in
      let u : Unbroken xs = rw all at (unbroken_front xs n within before) in
      record {
        moves = omega arith;
        inside = omega arith;
        is = ap lines_of (sym is) ∙ lines_last xs u (omega arith) ∙ rw none (ap {B = List Bytes} (λ y. y ∷ []) (sym all));
        text = inr h;
      }

  -- the next line starts behind an LF, or the script ends
  pub line_found : (next : ℕ) → next ≡ min (end + 1) (length src) → (n < length xs → get_or xs n 0 ≡ 10) → LineAt src from (take n xs) next
  line_found next e found =
      let l = long in
      ⊎_elim
      (λ (h : end < length src). let q : next ≡ end + 1 = omega arith in rw q (line_cut h found))
      (λ (h : length src ≤ end). let q : next ≡ end = omega arith in rw q (line_last h))
      (cases_lt end (length src))
