-- Parts of lists whose first items are the same, and items of lists whose images are the same.
use Rattle.std.proofs.Common.{◌≡◌, ℕ, zero, suc, ◌-◌, ◌<◌, ◌≤◌, List, [], ◌∷◌, map, length, get_or, take, drop, Some, sym, refl, ap, ◌∙◌, arith}
use Rattle.std.proofs.lemmas.List.{length-map, take-take}
use Rattle.std.proofs.lemmas.Slice.{between_is}
use Rattle.format.specs.Revisions.{nth}

pub nil_cons : {A P : Type 0} {x : A} {xs : List A} → ◌≡◌ {A = List A} [] (x ∷ xs) → P
nil_cons e = let z : ◌≡◌ {A = ℕ} 0 1 = cc in absurd (omega arith)

pub same_head : {A : Type 0} {x y : A} {xs ys : List A} → ◌≡◌ {A = List A} (x ∷ xs) (y ∷ ys) → x ≡ y
same_head e = cc

pub same_tail : {A : Type 0} {x y : A} {xs ys : List A} → ◌≡◌ {A = List A} (x ∷ xs) (y ∷ ys) → xs ≡ ys
same_tail e = cc

front_part : {A : Type 0} (xs : List A) (m off n : ℕ) → n ≤ m - off → take n (drop off (take m xs)) ≡ take n (drop off xs)
front_part xs m off n h = ap (take n) (sym (between_is xs off m)) ∙ take-take n (m - off) (drop off xs) h

-- a part within the first m items, where these are the same
pub part_alike : {A : Type 0} (xs ys : List A) (m : ℕ) → take m xs ≡ take m ys → (off n : ℕ) → n ≤ m - off → take n (drop off xs) ≡ take n (drop off ys)
part_alike xs ys m same off n h = sym (front_part xs m off n h) ∙ ap (λ zs. take n (drop off zs)) same ∙ front_part ys m off n h

-- an image of a list, at a place
pub nth_map_at : {A B : Type 0} (f : A → B) (xs : List A) (i : ℕ) (x : A) → i < length xs → x ≡ get_or xs i x → nth i (map f xs) ≡ Some (f x)
unfolding nth
nth_map_at f [] i x l h = absurd (omega arith)
nth_map_at f (y ∷ ys) zero x l h = ap (λ z. Some (f z)) (sym h)
nth_map_at f (y ∷ ys) (suc i) x l h = nth_map_at f ys i x (omega arith) h

-- lists whose images are the same are equally long
pub paired_length : {A B C : Type 0} (f : A → C) (g : B → C) (xs : List A) (ys : List B) → map f xs ≡ map g ys → length ys ≡ length xs
paired_length f g xs ys e = sym (length-map ys g) ∙ ap length (sym e) ∙ length-map xs f

-- and so are the images of their items
pub paired : {A B C : Type 0} (f : A → C) (g : B → C) (xs : List A) (ys : List B) → map f xs ≡ map g ys →
    (i : ℕ) (y : B) → i < length ys → y ≡ get_or ys i y → (x : A) × (nth i xs ≡ Some x) × (f x ≡ g y)
unfolding nth
paired f g xs [] e i y l h = absurd (omega arith)
paired f g [] (z ∷ zs) e i y l h = nil_cons e
paired f g (x ∷ xs) (z ∷ zs) e zero y l h = (x, refl, same_head e ∙ ap g (sym h))
paired f g (x ∷ xs) (z ∷ zs) e (suc i) y l h = paired f g xs zs (same_tail e) i y (omega arith) h
