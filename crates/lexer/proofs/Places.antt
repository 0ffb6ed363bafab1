-- What stands at a place of the bytes, as the definitions read it.
use Rattle.std.proofs.Common.{◌≡◌, ℕ, suc, ◌+◌, ◌<◌, ◌≤◌, List, [], ◌∷◌, length, get_or, drop, sym, ap, ◌∙◌, arith, drop-cons}
use Rattle.std.proofs.lemmas.List.{at_drop_all, at_drop_more}

-- a byte stands there, and the others behind it
pub at_place : {Y : Type 0} (F : List ℕ → Y) (src : List ℕ) (p : ℕ) → p < length src → F (drop p src) ≡ F (get_or src p 0 ∷ drop (suc p) src)
at_place F src p h = ap F (drop-cons src p 0 h)

-- the last two bytes
pub at_two : {Y : Type 0} (F : List ℕ → Y) (src : List ℕ) (p : ℕ) → p + 1 < length src → length src ≤ p + 2 → F (drop p src) ≡ F (get_or src p 0 ∷ get_or src (p + 1) 0 ∷ [])
at_two F src p h l =
    let i : p + 1 + 1 ≡ p + 2 = omega arith in
    let k : p < length src = omega arith in
    at_drop_more F src p 0 k
    ∙ at_drop_more (λ r. F (get_or src p 0 ∷ r)) src (p + 1) 0 h
    ∙ rw i (at_drop_all (λ r. F (get_or src p 0 ∷ get_or src (p + 1) 0 ∷ r)) src (p + 2) l)

-- three bytes stand there, and the others behind them
pub at_three : {Y : Type 0} (F : List ℕ → Y) (src : List ℕ) (p : ℕ) → p + 2 < length src → F (drop p src) ≡ F (get_or src p 0 ∷ get_or src (p + 1) 0 ∷ get_or src (p + 2) 0 ∷ drop (p + 3) src)
at_three F src p h =
    let i : p + 1 + 1 ≡ p + 2 = omega arith in
    let j : p + 2 + 1 ≡ p + 3 = omega arith in
    let k : p < length src = omega arith in
    let l : p + 1 < length src = omega arith in
    at_drop_more F src p 0 k
    ∙ at_drop_more (λ r. F (get_or src p 0 ∷ r)) src (p + 1) 0 l
    ∙ rw i (at_drop_more (λ r. F (get_or src p 0 ∷ get_or src (p + 1) 0 ∷ r)) src (p + 2) 0 h
    ∙ rw j)

-- two bytes stand there, and the others behind them
pub at_two_more : {Y : Type 0} (F : List ℕ → Y) (src : List ℕ) (p q r : ℕ) → q ≡ p + 1 → r ≡ p + 2 → q < length src → F (drop p src) ≡ F (get_or src p 0 ∷ get_or src q 0 ∷ drop r src)
at_two_more F src p q r e f h =
    let i : r ≡ q + 1 = omega arith in
    let k : p < length src = omega arith in
    at_drop_more F src p 0 k
    ∙ rw (sym e, i) (at_drop_more (λ r. F (get_or src p 0 ∷ r)) src q 0 h)
