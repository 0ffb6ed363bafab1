-- What stands at a place of the window, as the definitions read it.
use Rattle.std.proofs.Common.{◌≡◌, ℕ, suc, ◌+◌, ◌-◌, List, length, get_or, take, drop, ap, ◌∙◌, arith, get_or-drop}
use Rattle.std.proofs.lemmas.List.{drop-drop, length-drop, take_all}

-- one place on
pub one_on : {Y : Type 0} (F : ℕ → Y) (base p : ℕ) → F (suc (base + p)) ≡ F (base + (p + 1))
one_on F base p = let e : suc (base + p) ≡ base + (p + 1) = omega arith in ap F e

pub two_on : {Y : Type 0} (F : ℕ → Y) (base p : ℕ) → F (suc (suc (base + p))) ≡ F (base + (p + 2))
two_on F base p = let e : suc (suc (base + p)) ≡ base + (p + 2) = omega arith in ap F e

-- so many places on
pub place_on : {Y : Type 0} (F : ℕ → List ℕ → Y) (src : List ℕ) (base p n : ℕ) → F (base + p + n) (drop n (drop p src)) ≡ F (base + (p + n)) (drop (p + n) src)
place_on F src base p n =
    let e : base + p + n ≡ base + (p + n) = omega arith in
    ap (λ q. F q (drop n (drop p src))) e ∙ ap (F (base + (p + n))) (drop-drop n p src)

-- the bytes from a place on, as code cuts them
pub rest_is : (src : List ℕ) (p : ℕ) → take (length src - p) (drop p src) ≡ drop p src
rest_is src p = take_all (length src - p) (drop p src) (simp length-drop (omega arith))

-- and a byte of them
pub byte_on : (src : List ℕ) (p i q : ℕ) → q ≡ p + i → get_or (take (length src - p) (drop p src)) i 0 ≡ get_or src q 0
byte_on src p i q place = ap (λ xs. get_or xs i 0) (rest_is src p) ∙ rw place (get_or-drop p src i 0)
