-- What a table says of a number.
use Rattle.std.proofs.Common.{◌≡◌, ℕ, zero, suc, ◌+◌, ◌<◌, ◌≤◌, Bool, true, false, not, leb, List, [], ◌∷◌, map, slice_get, Some, None, Option, MatchOption, sym, refl, ap, ◌∙◌, arith}
use Rattle.std.specs.Option.{option_map}
use Rattle.std.proofs.lemmas.Bool.{lt-leb, le-leb}
use Rattle.entries.specs.declared.cell.Cell.{Cell}
use Rattle.entries.specs.Cells.{state_in}
use Rattle.format.specs.Book.{is_used, is_worn_out, may_put}
use Rattle.format.specs.Bytes.{Bytes}
use Rattle.format.specs.Revisions.{Revision, State, nth}
use Rattle.format.specs.Updates.{Update, new_numbers}
use Rattle.format.specs.Writing.{new_size}
use Rattle.writer.specs.Tables.{TableOf}

-- what stands at a place, in the words of a slice
pub nth_got : {A : Type 0} (n : ℕ) (xs : List A) → slice_get xs n ≡ nth n xs
unfolding nth
nth_got n [] = refl
nth_got zero (x ∷ xs) = refl
nth_got (suc n) (x ∷ xs) = nth_got n xs

pub nth_map : {A B : Type 0} (f : A → B) (n : ℕ) (xs : List A) → nth n (map f xs) ≡ option_map f (nth n xs)
unfolding nth
nth_map f n [] = refl
nth_map f zero (x ∷ xs) = refl
nth_map f (suc n) (x ∷ xs) = nth_map f n xs

-- what is asked of a cell, and is not so of a number that has none
pub told : (p : Option State → Bool) (o : Option Cell) (b : Bool) → p None ≡ false → MatchOption o (b ≡ false) (λ x. (file : Bytes) → b ≡ p (Some (state_in file x))) → (file : Bytes) → b ≡ p (option_map (state_in file) o)
told p None b e m file = m ∙ sym e
told p (Some x) b e m file = m file

-- the state of a number, by its cell
pub state_of : (file : Bytes) (cells : List Cell) (v : Revision) (n : ℕ) (o : Option Cell) → TableOf file cells v → o ≡ nth n cells → nth n v.states ≡ option_map (state_in file) o
state_of file cells v n o t e = ap (nth n) t.states ∙ nth_map (state_in file) n cells ∙ ap (option_map (state_in file)) (sym e)

-- whether a number is in use, by its cell
pub used_by : (file : Bytes) (cells : List Cell) (v : Revision) (n : ℕ) (o : Option Cell) (b : Bool) → TableOf file cells v → o ≡ nth n cells → b ≡ is_used (option_map (state_in file) o) → is_used (nth n v.states) ≡ b
used_by file cells v n o b t e f = ap is_used (state_of file cells v n o t e) ∙ sym f

-- a number that is not 0 and at most the next new one may be put unless it is free for good
pub may_worn : (v : Revision) (u : Update) (n : ℕ) (b : Bool) → 1 ≤ n → n ≤ v.size + new_numbers v.size u → b ≡ is_worn_out (nth n v.states) → not b ≡ may_put v u n
unfolding may_put new_size
may_worn v u n b h l e =
    let p : leb 1 n ≡ true = le-leb 1 n h in
    let q : leb n (v.size + new_numbers v.size u) ≡ true = le-leb n (v.size + new_numbers v.size u) l in
    rw (p, q) (ap not e)

-- 0 may not be put
pub may_zero : (v : Revision) (u : Update) (n : ℕ) → n ≡ 0 → false ≡ may_put v u n
unfolding may_put
may_zero v u n h = let p : leb 1 n ≡ false = lt-leb 1 n (omega arith) in rw p refl

-- nor may a number past the next new one
pub may_past : (v : Revision) (u : Update) (n : ℕ) → 1 ≤ n → v.size + new_numbers v.size u < n → false ≡ may_put v u n
unfolding may_put new_size
may_past v u n h l =
    let p : leb 1 n ≡ true = le-leb 1 n h in
    let q : leb n (v.size + new_numbers v.size u) ≡ false = lt-leb n (v.size + new_numbers v.size u) l in
    rw (p, q) refl
