-- Changes in any order are one update, and refused calls are not counted.
use Rattle.std.proofs.Common.{◌≡◌, ℕ, ◌<◌, ◌≤◌, [], ◌∷◌, sym, refl, ap, ◌∙◌, ⊎_elim, arith, eq-eqb, ne_eqb}
use Rattle.std.proofs.lemmas.Bool.{cases_lt, lt-ltb, le-ltb}
use Rattle.format.specs.Account.{after_event}
use Rattle.format.specs.Updates.{Change, Update, with_change}
use Rattle.laws.specs.Orders.{ChangesInAnyOrder, RefusedCallsAlterNothing}

-- a change of a lower number comes first
below : (n : ℕ) (c : Change) (r : ℕ × Change) (rs : Update) → n < r.0 → with_change n c (r ∷ rs) ≡ (n, c) ∷ r ∷ rs
unfolding with_change
below n c r rs h = rw (lt-ltb n r.0 h, with_change) refl

-- a change of the same number takes its place
here : (n : ℕ) (c : Change) (r : ℕ × Change) (rs : Update) → n ≡ r.0 → with_change n c (r ∷ rs) ≡ (n, c) ∷ rs
unfolding with_change
here n c r rs h = rw (le-ltb n r.0 (omega arith), with_change) (rw (eq-eqb n r.0 h) refl)

-- a change of a higher number comes behind
above : (n : ℕ) (c : Change) (r : ℕ × Change) (rs : Update) → r.0 < n → with_change n c (r ∷ rs) ≡ r ∷ with_change n c rs
unfolding with_change
above n c r rs h = rw (le-ltb n r.0 (omega arith), with_change) (rw (ne_eqb n r.0 (λ e. omega arith)) refl)

single : (n : ℕ) (c : Change) → with_change n c [] ≡ (n, c) ∷ []
unfolding with_change
single n c = refl

-- three ways of two numbers
compared : {P : Type 0} (n m : ℕ) → (n < m → P) → (n ≡ m → P) → (m < n → P) → P
compared n m low same high =
    ⊎_elim low (λ (h : m ≤ n). ⊎_elim high (λ (k : n ≤ m). same (omega arith)) (cases_lt m n)) (cases_lt n m)

-- the lower number of two, changed first or last
either_way : (n m : ℕ) (c d : Change) (u : Update) → n < m → with_change n c (with_change m d u) ≡ with_change m d (with_change n c u)
either_way n m c d [] h =
    ap (with_change n c) (single m d)
    ∙ (below n c (m, d) [] h ∙ sym (ap (with_change m d) (single n c) ∙ (above m d (n, c) [] h ∙ ap (λ z. (n, c) ∷ z) (single m d))))
either_way n m c d (r ∷ rs) h =
    compared m r.0
    (λ low.
    ap (with_change n c) (below m d r rs low)
    ∙ (below n c (m, d) (r ∷ rs) h
    ∙ sym (ap (with_change m d) (below n c r rs (omega arith)) ∙ (above m d (n, c) (r ∷ rs) h ∙ ap (λ z. (n, c) ∷ z) (below m d r rs low)))))
    (λ same.
    ap (with_change n c) (here m d r rs same)
    ∙ (below n c (m, d) rs h
    ∙ sym (ap (with_change m d) (below n c r rs (omega arith)) ∙ (above m d (n, c) (r ∷ rs) h ∙ ap (λ z. (n, c) ∷ z) (here m d r rs same)))))
    (λ high.
    ap (with_change n c) (above m d r rs high)
    ∙ compared n r.0
    (λ low.
    below n c r (with_change m d rs) low
    ∙ sym (ap (with_change m d) (below n c r rs low) ∙ (above m d (n, c) (r ∷ rs) h ∙ ap (λ z. (n, c) ∷ z) (above m d r rs high))))
    (λ same. here n c r (with_change m d rs) same ∙ sym (ap (with_change m d) (here n c r rs same) ∙ above m d (n, c) rs h))
    (λ up.
    above n c r (with_change m d rs) up
    ∙ (ap (λ z. r ∷ z) (either_way n m c d rs h) ∙ sym (ap (with_change m d) (above n c r rs up) ∙ above m d r (with_change n c rs) high))))

-- changes of two numbers, made in either order
pub any_order : ChangesInAnyOrder
any_order n m c d u ne =
    compared n m (either_way n m c d u) (λ e. absurd (ne e)) (λ h. sym (either_way m n d c u h))

-- a refused call is passed over
pub refused_alters_nothing : RefusedCallsAlterNothing
unfolding after_event
refused_alters_nothing opening a e h = rw (h, after_event) refl
