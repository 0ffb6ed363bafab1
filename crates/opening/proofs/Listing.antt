-- The entries of a subsection, one after another.
use Rattle.std.proofs.Common.{◌≡◌, ℕ, zero, suc, ◌+◌, ◌-◌, ◌<◌, ◌≤◌, Bool, true, false, ◌||◌, eqb, List, [], ◌∷◌, ◌++◌, length, drop, sym, refl, ap, ◌∙◌, append_assoc, append-nil, arith, length-drop}
use mathlib.Core.List.{map-append}
use Rattle.faults.specs.declared.fault.Fault.{Fault}
use Rattle.format.specs.Bytes.{Bytes, Got, ok, bad, then, is_digit}
use Rattle.format.specs.Lines.{Piece, took, short, misfit, placed, Slot, exact, digits_of, use_mark, slot_ends, slot_end, slot}
use Rattle.format.specs.Sections.{Listed, slots}
use Rattle.entries.specs.declared.entry.Entry.{Entry}
use Rattle.entries.specs.declared.entry.Row.{Row}
use Rattle.entries.specs.Rows.{slot_of, row_of, rows_of}
use Rattle.locality.proofs.Cases.{cases}
use Rattle.sections.proofs.Local.{not_short, not_misfit, not_bad, next_took}
use Rattle.sections.proofs.LinesLocal.{exact_shape}
use Rattle.opening.specs.Readings.{seen_as}

-- How many bytes the parts of an entry take.
digits_long : (k n p : ℕ) (xs : Bytes) {v q : ℕ} {ys : Bytes} → digits_of k n p xs ≡ took v q ys → length xs ≡ k + length ys
unfolding digits_of
digits_long zero n p xs {ys = ys} e = let f : xs ≡ ys = cc in rw f (omega arith)
digits_long (suc k) n p [] e = not_short e
digits_long (suc k) n p (x ∷ xs) e =
    cases (is_digit x) (λ b. let h = digits_long k _ _ xs (rw (b, digits_of) at e) in omega arith) (λ b. not_misfit (rw (b, digits_of) at e))

gap_long : (p : ℕ) (xs : Bytes) {u : Unit {0}} {q : ℕ} {ys : Bytes} → exact (32 ∷ []) p xs ≡ took u q ys → length xs ≡ 1 + length ys
gap_long p xs e = rw (exact_shape (32 ∷ []) p xs e).0 (omega arith)

mark_long : (p : ℕ) (xs : Bytes) {u : Bool} {q : ℕ} {ys : Bytes} → use_mark p xs ≡ took u q ys → length xs ≡ 1 + length ys
unfolding use_mark
mark_long p [] e = not_short e
mark_long p (x ∷ xs) {u} {q} {ys} e =
    cases (eqb x 110)
    (λ a. let f : ◌≡◌ {A = Piece Bool} (took true (suc p) xs) (took u q ys) = rw (a, use_mark) at e in let g : xs ≡ ys = cc in rw g (omega arith))
    (λ a.
    cases (eqb x 102)
    (λ b. let f : ◌≡◌ {A = Piece Bool} (took false (suc p) xs) (took u q ys) = rw (a, b, use_mark) at e in let g : xs ≡ ys = cc in rw g (omega arith))
    (λ b. not_misfit (rw (a, b, use_mark) at e)))

end_long : (p : ℕ) (xs : Bytes) {u : Unit {0}} {q : ℕ} {ys : Bytes} → slot_end p xs ≡ took u q ys → length xs ≡ 2 + length ys
unfolding slot_end
end_long p [] e = not_short e
end_long p (x ∷ []) e =
    cases (eqb x 32 || eqb x 13) (λ a. not_short (rw (a, slot_end) at e)) (λ a. not_misfit (rw (a, slot_end) at e))
end_long p (x ∷ y ∷ xs) {u} {q} {ys} e =
    cases (slot_ends x y)
    (λ a. let f : ◌≡◌ {A = Piece Unit} (took tt (suc (suc p)) xs) (took u q ys) = rw (a, slot_end) at e in let g : xs ≡ ys = cc in rw g (omega arith))
    (λ a. not_misfit (rw (a, slot_end) at e))

-- an entry takes 20 bytes
pub slot_long : (p : ℕ) (xs : Bytes) {s : Slot} {q : ℕ} {ys : Bytes} → slot p xs ≡ took s q ys → length xs ≡ 20 + length ys
unfolding slot
slot_long p xs {s} {q} {ys} e =
    next_took _ _ e
    (λ f p₁ xs₁ e₁ r₁.
    next_took _ _ r₁
    (λ _ p₂ xs₂ e₂ r₂.
    next_took _ _ r₂
    (λ g p₃ xs₃ e₃ r₃.
    next_took _ _ r₃
    (λ _ p₄ xs₄ e₄ r₄.
    next_took _ _ r₄
    (λ u p₅ xs₅ e₅ r₅.
    next_took _ _ r₅
    (λ _ p₆ xs₆ e₆ r₆.
    let h₁ = digits_long 10 0 p xs e₁ in
    let h₂ = gap_long p₁ xs₁ e₂ in
    let h₃ = digits_long 5 0 p₂ xs₂ e₃ in
    let h₄ = gap_long p₃ xs₃ e₄ in
    let h₅ = mark_long p₄ xs₄ e₅ in
    let h₆ = end_long p₅ xs₅ e₆ in
    let z : xs₆ ≡ ys = cc in
    let h₇ : length xs₆ ≡ length ys = ap length z in
    omega arith))))))

-- what was placed was taken
pub placed_took : {A : Type 0} (p : ℕ) (xs : Bytes) (z : Piece A) {a : A} {q : ℕ} {ys : Bytes} → placed p xs z ≡ ok a q ys → z ≡ took a q ys
unfolding placed
placed_took p xs (took b r zs) e = cc
placed_took p xs short e = not_bad e
placed_took p xs misfit e = not_bad e

-- rows, with one more
listed_more : (rs : List Row) (row : Row) → rows_of (rs ++ row ∷ []) ≡ rows_of rs ++ row_of row ∷ []
listed_more rs row = map-append row_of rs (row ∷ [])

-- what comes behind an entry
in_front : (old : Listed) (x : ℕ × Slot) (g : Got Listed) → seen_as (λ ss. (old ++ x ∷ []) ++ ss) g ≡ seen_as (λ ss. old ++ ss) (then g (λ ss p xs. ok (x ∷ ss) p xs))
in_front old x (ok ss p xs) = ap (λ l. ok l p xs) (append_assoc old (x ∷ []) ss)
in_front old x (bad f) = refl

-- An entry at p of the window src, as it was read.
module _ (src : Bytes) (base p : ℕ) where
  pub entry_long : (s : Slot) (q : ℕ) → placed (base + p) (drop p src) (slot (base + p) (drop p src)) ≡ ok s (base + q) (drop q src) → p ≤ length src → q ≤ length src → q ≡ p + 20
  entry_long s q e h l =
      let f = slot_long _ _ (placed_took _ _ _ e) in
      let g : length src - p ≡ 20 + (length src - q) = rw (length-drop p src, length-drop q src) at f in
      omega arith

  first_read : (c n : ℕ) (old : Listed) (s : Slot) (q : ℕ) → placed (base + p) (drop p src) (slot (base + p) (drop p src)) ≡ ok s (base + q) (drop q src) →
      seen_as (λ ss. (old ++ (n, s) ∷ []) ++ ss) (slots c (suc n) (base + q) (drop q src)) ≡ seen_as (λ ss. old ++ ss) (slots (suc c) n (base + p) (drop p src))
  unfolding slots
  first_read c n old s q e =
      in_front old (n, s) (slots c (suc n) (base + q) (drop q src))
      ∙ ap (λ g. seen_as (λ ss. old ++ ss) (then g (λ s p₁ xs₁. then (slots c (suc n) p₁ xs₁) (λ ss p₂ xs₂. ok ((n, s) ∷ ss) p₂ xs₂)))) (sym e)

  first_bad : (c n : ℕ) (old : Listed) (f : Fault) → placed (base + p) (drop p src) (slot (base + p) (drop p src)) ≡ bad f → seen_as (λ ss. old ++ ss) (slots (suc c) n (base + p) (drop p src)) ≡ bad f
  unfolding slots
  first_bad c n old f e =
      ap (λ g. seen_as (λ ss. old ++ ss) (then g (λ s p₁ xs₁. then (slots c (suc n) p₁ xs₁) (λ ss p₂ xs₂. ok ((n, s) ∷ ss) p₂ xs₂)))) e

  -- Of the entries of a subsection, i are read.
  module _ (count first i : ℕ) (rs : List Row) {z : Got Listed} (was : seen_as (λ ss. rows_of rs ++ ss) (slots (count - i) (first + i) (base + p) (drop p src)) ≡ z) where
    pub entries_more : (e : Entry) (q : ℕ) (row : Row) (more : List Row) → i < count → placed (base + p) (drop p src) (slot (base + p) (drop p src)) ≡ ok (slot_of e) (base + q) (drop q src) →
        row ≡ record { number = first + i; entry = e } → more ≡ rs ++ row ∷ [] → seen_as (λ ss. rows_of more ++ ss) (slots (count - (i + 1)) (first + (i + 1)) (base + q) (drop q src)) ≡ z
    entries_more e q row more h is one all =
        let c = count - (i + 1) in
        let k : count - i ≡ suc c = omega arith in
        let n : first + (i + 1) ≡ suc (first + i) = omega arith in
        let l : rows_of more ≡ rows_of rs ++ (first + i, slot_of e) ∷ [] = ap rows_of all ∙ listed_more rs row ∙ ap (λ r. rows_of rs ++ row_of r ∷ []) one in
        ap (λ m. seen_as (λ ss. rows_of more ++ ss) (slots c m (base + q) (drop q src))) n
        ∙ ap (λ m. seen_as (λ ss. m ++ ss) (slots c (suc (first + i)) (base + q) (drop q src))) l
        ∙ first_read c (first + i) (rows_of rs) (slot_of e) q is
        ∙ ap (λ m. seen_as (λ ss. rows_of rs ++ ss) (slots m (first + i) (base + p) (drop p src))) (sym k)
        ∙ was

    pub entries_bad : (f : Fault) → i < count → placed (base + p) (drop p src) (slot (base + p) (drop p src)) ≡ bad f → z ≡ bad f
    entries_bad f h is =
        let k : count - i ≡ suc (count - (i + 1)) = omega arith in
        sym was
        ∙ ap (λ m. seen_as (λ ss. rows_of rs ++ ss) (slots m (first + i) (base + p) (drop p src))) k
        ∙ first_bad (count - (i + 1)) (first + i) (rows_of rs) f is

    pub entries_all : count ≤ i → z ≡ ok (rows_of rs) (base + p) (drop p src)
    unfolding slots
    entries_all h =
        let k : count - i ≡ 0 = omega arith in
        sym was
        ∙ ap (λ m. seen_as (λ ss. rows_of rs ++ ss) (slots m (first + i) (base + p) (drop p src))) k
        ∙ ap (λ l. ok l (base + p) (drop p src)) (append-nil (rows_of rs))

-- behind no rows
pub behind_none : (rs : List Row) (l all : Listed) (b o : Bool) → rs ≡ [] → ◌≡◌ {A = Listed × Bool} (rows_of rs ++ l, b) (all, o) → (l ≡ all) × (b ≡ o)
behind_none rs l all b o none e =
    (ap (λ r. rows_of r ++ l) (sym none) ∙ ap (λ (x : Listed × Bool). x.0) e, ap (λ (x : Listed × Bool). x.1) e)
