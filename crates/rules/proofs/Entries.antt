-- The entries of a section: those that fit.
use Rattle.std.proofs.Common.{◌≡◌, ℕ, zero, suc, true, eqb, ltb, leb, List, [], ◌∷◌, ℤ, pos, negsuc, Some, Ok, sym, refl, ◌∙◌, subst, arith}
use Rattle.std.proofs.lemmas.Bool.{and_parts, and_from, eqb-true, eq-eqb, leb-true, le-leb, ltb-true, lt-ltb}
use Rattle.faults.specs.declared.reason.Reason.TheVariants.{ChainRule}
use Rattle.format.specs.Failures.{chain_fault}
use Rattle.format.specs.Lines.{Slot}
use Rattle.format.specs.Revisions.{nth, under_size, slot_fits, slots_fit, one_from_zero}
use Rattle.format.specs.Sections.{Sub, Section, Listed}
use Rattle.locality.proofs.Cases.{cases}
use Rattle.tables.proofs.Answered.{must_ok}
use Rattle.tables.proofs.Finds.{true_false}
use Rattle.rules.specs.Tables.{Under, EntryFits, OneFromZero}
use Rattle.rules.proofs.Lists.{no_place, same_place}

pub under_is : (n : ℕ) (z : ℤ) → under_size n z ≡ true → Under n z
unfolding under_size
under_is n (pos z) h = ltb-true n z h
under_is n (negsuc z) h = true_false (sym h)

pub is_under : (n : ℕ) (z : ℤ) → Under n z → under_size n z ≡ true
unfolding under_size
is_under n (pos z) h = lt-ltb n z h
is_under n (negsuc z) h = absurd h

pub slot_fits_fact : (off : ℕ) (size : ℤ) (n : ℕ) (e : Slot) → slot_fits off size n e ≡ true → EntryFits off size n e
unfolding slot_fits
slot_fits_fact off size zero e h =
    cases e.in_use
    (λ u. true_false (sym (rw (u, slot_fits) at h)))
    (λ u.
    let w = and_parts (eqb e.gen 65535) (under_size e.field size) (rw (u, slot_fits) at h) in
    let g = eqb-true e.gen 65535 w.0 in
    record { when_used = λ v. true_false (sym v ∙ u); when_free = λ v. (omega arith, under_is e.field size w.1, λ q. g) })
slot_fits_fact off size (suc n) e h =
    cases e.in_use
    (λ u.
    let w = and_parts (leb e.gen 65534) (ltb e.field off) (rw (u, slot_fits) at h) in
    record { when_used = λ v. (omega arith, leb-true e.gen 65534 w.0, ltb-true e.field off w.1); when_free = λ v. true_false (sym u ∙ v) })
    (λ u.
    let w = and_parts (leb e.gen 65535) (under_size e.field size) (rw (u, slot_fits) at h) in
    record {
      when_used = λ v. true_false (sym v ∙ u);
      when_free = λ v. (leb-true e.gen 65535 w.0, under_is e.field size w.1, λ q. absurd (omega arith));
    })

pub fits_slot : (off : ℕ) (size : ℤ) (n : ℕ) (e : Slot) → EntryFits off size n e → slot_fits off size n e ≡ true
unfolding slot_fits
fits_slot off size zero e f =
    cases e.in_use
    (λ u. absurd (let w = (f.when_used u).0 in omega arith))
    (λ u.
    let w = f.when_free u in
    rw (u, slot_fits) (and_from (eqb e.gen 65535) (under_size e.field size) (eq-eqb e.gen 65535 (w.2 refl)) (is_under e.field size w.1)))
fits_slot off size (suc n) e f =
    cases e.in_use
    (λ u.
    let w = f.when_used u in
    rw (u, slot_fits) (and_from (leb e.gen 65534) (ltb e.field off) (le-leb e.gen 65534 w.1) (lt-ltb e.field off w.2)))
    (λ u.
    let w = f.when_free u in
    rw (u, slot_fits) (and_from (leb e.gen 65535) (under_size e.field size) (le-leb e.gen 65535 w.0) (is_under e.field size w.1)))

-- the entries of rows
abbrev pub RowsFit : ℕ → ℤ → Listed → Type 0
RowsFit off size rs = (n : ℕ) (e : Slot) → (i : ℕ) × (nth i rs ≡ Some (n, e)) → EntryFits off size n e

pub slots_fit_fact : (off : ℕ) (size : ℤ) (rs : Listed) (v : Unit {0}) → slots_fit off size rs ≡ Ok v → RowsFit off size rs
unfolding slots_fit nth
slots_fit_fact off size [] v h n e (i, q) = no_place i q
slots_fit_fact off size (r ∷ rs) v h n e (zero, q) =
    let a = must_ok (slot_fits off size r.0 r.1) (chain_fault ChainRule off r.0) (λ _. slots_fit off size rs) v h in
    let w : r ≡ (n, e) = same_place q in
    subst (λ (x : ℕ × Slot). EntryFits off size x.0 x.1) w (slot_fits_fact off size r.0 r.1 a.0)
slots_fit_fact off size (r ∷ rs) v h n e (suc i, q) =
    let a = must_ok (slot_fits off size r.0 r.1) (chain_fault ChainRule off r.0) (λ _. slots_fit off size rs) v h in
    slots_fit_fact off size rs v a.1 n e (i, q)

pub fit_slots : (off : ℕ) (size : ℤ) (rs : Listed) → RowsFit off size rs → slots_fit off size rs ≡ Ok tt
unfolding slots_fit nth
fit_slots off size [] f = refl
fit_slots off size (r ∷ rs) f =
    rw (fits_slot off size r.0 r.1 (f r.0 r.1 (0, refl))) (fit_slots off size rs (λ n e w. f n e (suc w.0, w.1)))

one_of : (s : Section) (ss : List Sub) → s.subsections ≡ ss → one_from_zero ss ≡ true → OneFromZero s
unfolding one_from_zero
one_of s [] q h = true_false (sym h)
one_of s (x ∷ []) q h = record { only = x; is = q; first = eqb-true x.first 0 h }
one_of s (x ∷ y ∷ ss) q h = true_false (sym h)

-- one subsection, from 0
pub one_from_zero_fact : (s : Section) → one_from_zero s.subsections ≡ true → OneFromZero s
one_from_zero_fact s h = one_of s s.subsections refl h

pub from_zero_one : (s : Section) → OneFromZero s → one_from_zero s.subsections ≡ true
unfolding one_from_zero
from_zero_one s o = rw o.is (eq-eqb o.only.first 0 o.first)
