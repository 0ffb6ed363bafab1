-- Subsections, one after another.
use Rattle.std.proofs.Common.{◌≡◌, ℕ, zero, suc, ◌+◌, ◌<◌, Bool, true, false, not, ◌&&◌, eqb, List, [], ◌∷◌, ◌++◌, drop, Some, None, Option, sym, refl, ap, ◌∙◌, append_assoc, append-nil, arith, lit<, Bor, MatchOption}
use mathlib.Core.Bool.{and-true, and-false}
use Rattle.faults.specs.declared.fault.Fault.{Fault}
use Rattle.std.specs.Slice.{IsItemAt}
use Rattle.std.proofs.lemmas.List.{at_drop_all, at_drop_more}
use Rattle.format.specs.Bytes.{Bytes, Got, ok, bad, then, is_digit}
use Rattle.format.specs.Revisions.{one_from_zero}
use Rattle.format.specs.Sections.{Listed, Sub, sub, begins_digit, subs, all_subs, listed}
use Rattle.format.specs.Strings.{turns}
use Rattle.locality.proofs.Cases.{cases}
use Rattle.sections.proofs.Local.{then_ok}
use Rattle.opening.specs.Readings.{seen_as}
use Rattle.opening.specs.Subsections.{sub_behind, all_behind}
use Rattle.opening.proofs.Readings.{seen_ok, seen_bad}

-- what stands at a place, where anything does
pub digit_there : (src : Bytes) (p : ℕ) (o : Option (Bor ℕ)) (b : Bool) → IsItemAt src p o → MatchOption o (b ≡ false) (λ x. b ≡ is_digit x.now) → b ≡ begins_digit (drop p src)
unfolding begins_digit
digit_there src p None b item e = e ∙ sym (at_drop_all begins_digit src p item.3)
digit_there src p (Some x) b item e = e ∙ ap is_digit item.1 ∙ sym (at_drop_more begins_digit src p x.now item.3.0)

-- what stands behind a subsection, with n turns left
abbrev on_sub : ℕ → Sub → ℕ → Bytes → Got (List Sub)
on_sub n s p xs = then (subs n (s.first + s.count) p xs) (λ ss p₂ xs₂. ok (s ∷ ss) p₂ xs₂)

-- what is listed behind a subsection
listed_behind : (old : Listed) (s : Sub) (g : Got (List Sub)) → seen_as (λ ss. old ++ listed ss) (then g (λ ss p₂ xs₂. ok (s ∷ ss) p₂ xs₂)) ≡ seen_as (λ ss. (old ++ s.rows) ++ listed ss) g
unfolding listed
listed_behind old s (ok ss p xs) = ap (λ l. ok l p xs) (sym (append_assoc old s.rows (listed ss)))
listed_behind old s (bad f) = refl

-- no digit stands next
subs_none : (n low p : ℕ) (xs : Bytes) → begins_digit xs ≡ false → subs n low p xs ≡ ok [] p xs
unfolding subs
subs_none zero low p xs e = refl
subs_none (suc n) low p xs e = rw (e, subs) refl

subs_on : (n low p : ℕ) (xs : Bytes) → begins_digit xs ≡ true → subs (suc n) low p xs ≡ then (sub low p xs) (on_sub n)
unfolding subs
subs_on n low p xs e = rw (e, subs) refl

-- The subsections from the place p on, with n turns left.
module _ (n low p : ℕ) (xs : Bytes) (old : Listed) {z : Got Listed} (was : seen_as (λ ss. old ++ listed ss) (subs n low p xs) ≡ z) where
  pub subs_end : begins_digit xs ≡ false → z ≡ ok old p xs
  unfolding listed
  subs_end e = sym was ∙ ap (seen_as (λ ss. old ++ listed ss)) (subs_none n low p xs e) ∙ ap (λ l. ok l p xs) (append-nil old)

module _ (k n low p : ℕ) (xs : Bytes) (old : Listed) {z : Got Listed} (was : seen_as (λ ss. old ++ listed ss) (subs k low p xs) ≡ z) (turn : k ≡ suc n) (digit : begins_digit xs ≡ true) where
  pub subs_bad : (f : Fault) → seen_as (sub_behind old) (sub low p xs) ≡ bad f → z ≡ bad f
  subs_bad f e =
      sym was
      ∙ ap (λ j. seen_as (λ ss. old ++ listed ss) (subs j low p xs)) turn
      ∙ ap (seen_as (λ ss. old ++ listed ss)) (subs_on n low p xs digit)
      ∙ ap (λ g. seen_as (λ ss. old ++ listed ss) (then g (on_sub n))) (seen_bad (sub_behind old) (sub low p xs) e)

  pub subs_more : (m c : ℕ) (all : Listed) (q : ℕ) (ys : Bytes) → seen_as (sub_behind old) (sub low p xs) ≡ ok (m, c, all) q ys → seen_as (λ ss. all ++ listed ss) (subs n (m + c) q ys) ≡ z
  subs_more m c all q ys e =
      let t = seen_ok (sub_behind old) (sub low p xs) e in
      let s = t.0 in
      sym (sym was
      ∙ ap (λ j. seen_as (λ ss. old ++ listed ss) (subs j low p xs)) turn
      ∙ ap (seen_as (λ ss. old ++ listed ss)) (subs_on n low p xs digit)
      ∙ ap (λ g. seen_as (λ ss. old ++ listed ss) (then g (on_sub n))) t.1
      ∙ listed_behind old s (subs n (s.first + s.count) q ys)
      ∙ ap (λ (x : ℕ × ℕ × Listed). seen_as (λ ss. x.2 ++ listed ss) (subs n (x.0 + x.1) q ys)) t.2)

-- a subsection is the only one where no digit stands behind it
only : (n low p : ℕ) (xs : Bytes) (s : Sub) (ss : List Sub) (q : ℕ) (ys : Bytes) → 0 < n → subs n low p xs ≡ ok ss q ys → one_from_zero (s ∷ ss) ≡ eqb s.first 0 && not (begins_digit xs)
unfolding one_from_zero
only zero low p xs s ss q ys h e = absurd (omega arith)
only (suc n) low p xs s ss q ys h e =
    cases (begins_digit xs)
    (λ d.
    then_ok (sub low p xs) (on_sub n) (sym (subs_on n low p xs d) ∙ e)
    (λ t p₁ xs₁ e₁ r₁.
    then_ok (subs n (t.first + t.count) p₁ xs₁) (λ ss p₂ xs₂. ok (t ∷ ss) p₂ xs₂) r₁
    (λ ts p₂ xs₂ e₂ r₂.
    let z : ss ≡ t ∷ ts = cc in
    rw (z, d) (sym (and-false (eqb s.first 0))))))
    (λ d.
    let f = subs_none (suc n) low p xs d in
    let z : ss ≡ [] = cc in
    rw (z, d) (sym (and-true (eqb s.first 0))))

-- All subsections, by the first one and those behind it.
module _ (p : ℕ) (xs : Bytes) (old : Listed) where
  all_on : all_subs p xs ≡ then (sub 0 p xs) (on_sub turns)
  unfolding all_subs
  all_on = refl

  pub all_first_bad : (f : Fault) → seen_as (sub_behind old) (sub 0 p xs) ≡ bad f → seen_as (all_behind old) (all_subs p xs) ≡ bad f
  all_first_bad f e = ap (seen_as (all_behind old)) (all_on ∙ ap (λ g. then g (on_sub turns)) (seen_bad (sub_behind old) (sub 0 p xs) e))

  module _ (m c : ℕ) (all : Listed) (q : ℕ) (ys : Bytes) (first : seen_as (sub_behind old) (sub 0 p xs) ≡ ok (m, c, all) q ys) where
    behind_first : (s : Sub) → sub 0 p xs ≡ ok s q ys → (m, c, all) ≡ sub_behind old s → all_subs p xs ≡ then (subs turns (m + c) q ys) (λ ss p₂ xs₂. ok (s ∷ ss) p₂ xs₂)
    behind_first s is e =
        all_on
        ∙ ap (λ g. then g (on_sub turns)) is
        ∙ ap (λ (x : ℕ × ℕ × Listed). then (subs turns (x.0 + x.1) q ys) (λ ss p₂ xs₂. ok (s ∷ ss) p₂ xs₂)) (sym e)

    pub all_bad : (f : Fault) → seen_as (λ ss. all ++ listed ss) (subs turns (m + c) q ys) ≡ bad f → seen_as (all_behind old) (all_subs p xs) ≡ bad f
    all_bad f e =
        let t = seen_ok (sub_behind old) (sub 0 p xs) first in
        ap (seen_as (all_behind old))
        (behind_first t.0 t.1 (sym t.2) ∙ ap (λ g. then g (λ ss p₂ xs₂. ok (t.0 ∷ ss) p₂ xs₂)) (seen_bad (λ ss. all ++ listed ss) (subs turns (m + c) q ys) e))

    pub all_read : (more : Listed) (r : ℕ) (zs : Bytes) (b : Bool) → seen_as (λ ss. all ++ listed ss) (subs turns (m + c) q ys) ≡ ok more r zs → b ≡ eqb m 0 && not (begins_digit ys) → seen_as (all_behind old) (all_subs p xs) ≡ ok (more, b) r zs
    unfolding listed
    all_read more r zs b e f =
        let t = seen_ok (sub_behind old) (sub 0 p xs) first in
        let u = seen_ok (λ ss. all ++ listed ss) (subs turns (m + c) q ys) e in
        let s = t.0 in
        let ss = u.0 in
        let l : old ++ (s.rows ++ listed ss) ≡ more = sym (append_assoc old s.rows (listed ss)) ∙ ap (λ (x : ℕ × ℕ × Listed). x.2 ++ listed ss) t.2 ∙ u.2 in
        let o : one_from_zero (s ∷ ss) ≡ b = only turns (m + c) q ys s ss r zs (lit< tt) u.1 ∙ ap (λ (x : ℕ × ℕ × Listed). eqb x.0 0 && not (begins_digit ys)) t.2 ∙ sym f in
        let g : seen_as (all_behind old) (all_subs p xs) ≡ ok (old ++ (s.rows ++ listed ss), one_from_zero (s ∷ ss)) r zs = ap (seen_as (all_behind old)) (behind_first s t.1 (sym t.2) ∙ ap (λ g. then g (λ ss p₂ xs₂. ok (s ∷ ss) p₂ xs₂)) u.1) in
        g ∙ (λ i. ok (l i, o i) r zs)
