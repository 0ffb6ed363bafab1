-- Parts of lists.
use Rattle.std.proofs.Common.{◌≡◌, ℕ, zero, suc, ◌+◌, ◌-◌, ◌≤◌, Bool, true, false, eqb, List, [], ◌∷◌, ◌++◌, map, length, get_or, refl, ap, ◌∙◌, append_assoc, arith}
use Rattle.std.proofs.lemmas.Bool.{eqb-true}
use Rattle.std.specs.List.{flat_map}
use Rattle.reports.specs.Runs.{run, runs_from, runs_of, up_from, numbers_in}

-- lists of one, two and four by their elements
pub one : {A B : Type 0} (f : A → B) (xs : List A) (a : A) → length xs ≡ 1 → a ≡ get_or xs 0 a → f a ∷ [] ≡ map f xs
one f [] a h p = absurd (omega arith)
one f (x ∷ []) a h p = ap (λ z. f z ∷ []) p
one f (x ∷ y ∷ xs) a h p = absurd (omega arith)

pub two : {A B : Type 0} (f : A → B) (xs : List A) (a b : A) → length xs ≡ 2 → a ≡ get_or xs 0 a → b ≡ get_or xs 1 b → f a ∷ (f b ∷ []) ≡ map f xs
two f [] a b h p q = absurd (omega arith)
two f (x ∷ xs) a b h p q = let r = one f xs b (omega arith) q in cc

pub four : {A B : Type 0} (f : A → B) (xs : List A) (a b c d : A) → length xs ≡ 4 → a ≡ get_or xs 0 a → b ≡ get_or xs 1 b → c ≡ get_or xs 2 c → d ≡ get_or xs 3 d → f a ∷ (f b ∷ (f c ∷ (f d ∷ []))) ≡ map f xs
four f [] a b c d h p q r s = absurd (omega arith)
four f (x ∷ []) a b c d h p q r s = absurd (omega arith)
four f (x ∷ y ∷ xs) a b c d h p q r s = let t = two f xs c d (omega arith) r s in cc

up_from_more : (a c : ℕ) → up_from a (suc c) ≡ up_from a c ++ ((a + c) ∷ [])
up_from_more a zero = let z : a ≡ a + 0 = omega arith in ap (λ n. n ∷ []) z
up_from_more a (suc c) =
    let z : suc a + c ≡ a + suc c = omega arith in
    ap (λ t. a ∷ t) (up_from_more (suc a) c ∙ ap (λ n. up_from (suc a) c ++ (n ∷ [])) z)

-- what is shown of the runs behind a run, from what is shown of those one number further
abbrev Behind : List ℕ → Type 0
Behind ns = (a b : ℕ) → a ≤ b → flat_map numbers_in (runs_from a b ns) ≡ up_from a (suc (b - a)) ++ ns

one_behind : (a b n : ℕ) (ns : List ℕ) → Behind ns → a ≤ b → (t : Bool) → eqb n (b + 1) ≡ t → flat_map numbers_in (elim t [ true ↦ runs_from a n ns | false ↦ run a b ∷ runs_from n n ns ]) ≡ up_from a (suc (b - a)) ++ (n ∷ ns)
one_behind a b n ns rest l true h =
    let e : n ≡ b + 1 = eqb-true n (b + 1) h in
    let c : n - a ≡ suc (b - a) = omega arith in
    let d : a + suc (b - a) ≡ n = omega arith in
    rest a n (omega arith)
    ∙ (ap (λ m. up_from a (suc m) ++ ns) c
    ∙ (ap (λ t. t ++ ns) (up_from_more a (suc (b - a)) ∙ ap (λ m. up_from a (suc (b - a)) ++ (m ∷ [])) d)
    ∙ append_assoc (up_from a (suc (b - a))) (n ∷ []) ns))
one_behind a b n ns rest l false h =
    let c : n - n ≡ 0 = omega arith in
    ap (λ t. up_from a (suc (b - a)) ++ t) (rest n n (omega arith) ∙ ap (λ m. up_from n (suc m) ++ ns) c)

runs_behind : (ns : List ℕ) → Behind ns
runs_behind [] a b l = refl
runs_behind (n ∷ ns) a b l = one_behind a b n ns (runs_behind ns) l (eqb n (b + 1)) refl

-- the runs of numbers, written out
pub runs_whole : (ns : List ℕ) → flat_map numbers_in (runs_of ns) ≡ ns
runs_whole [] = refl
runs_whole (n ∷ ns) =
    let c : n - n ≡ 0 = omega arith in
    runs_behind ns n n (omega arith) ∙ ap (λ m. up_from n (suc m) ++ ns) c
