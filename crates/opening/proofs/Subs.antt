-- A subsection, by its line and its entries.
use Rattle.std.proofs.Common.{◌≡◌, ℕ, ◌<◌, ◌≤◌, Bool, true, false, ◌&&◌, leb, ◌⊎◌, ◌++◌, refl, ap, ◌∙◌, inl, inr}
use mathlib.Core.Bool.{and-false}
use Rattle.faults.specs.declared.fault.Fault.{Fault}
use Rattle.faults.specs.declared.reason.Reason.TheVariants.{BadLine}
use Rattle.std.proofs.lemmas.Bool.{le-leb, lt-leb}
use Rattle.format.specs.Bytes.{Bytes, Got, ok, bad, then}
use Rattle.format.specs.Failures.{section_fault}
use Rattle.format.specs.Lines.{placed, sub_line}
use Rattle.format.specs.Sections.{Listed, slots, Sub, sub}
use Rattle.opening.specs.Readings.{seen_as}
use Rattle.opening.specs.Subsections.{sub_behind}

-- where its line is refused
pub sub_line_bad : (low p : ℕ) (xs : Bytes) (old : Listed) (f : Fault) → placed p xs (sub_line p xs) ≡ bad f → seen_as (sub_behind old) (sub low p xs) ≡ bad f
unfolding sub
sub_line_bad low p xs old f e = rw e refl

-- behind a subsection's line, which may fit
abbrev fitting : (p n c q : ℕ) → Bytes → Bool → Got Sub
fitting p n c q ys b =
    elim b [
      | true ↦ then (slots c n q ys) (λ ss p₂ xs₂. ok (record { first = n; count = c; rows = ss }) p₂ xs₂)
      | false ↦ bad (section_fault BadLine p)
    ]

-- The line at p was read.
module _ (low p : ℕ) (xs : Bytes) (old : Listed) (n c q : ℕ) (ys : Bytes) (line : placed p xs (sub_line p xs) ≡ ok (n, c) q ys) where
  behind_line : sub low p xs ≡ fitting p n c q ys (leb low n && leb 1 c)
  unfolding sub
  behind_line = rw line refl

  unfit : leb low n && leb 1 c ≡ false → seen_as (sub_behind old) (sub low p xs) ≡ bad (section_fault BadLine p)
  unfit e = ap (seen_as (sub_behind old)) (behind_line ∙ ap (fitting p n c q ys) e)

  -- out of order, or without an entry
  pub sub_unfit : (n < low) ⊎ ((low ≤ n) × (c ≡ 0)) → seen_as (sub_behind old) (sub low p xs) ≡ bad (section_fault BadLine p)
  sub_unfit (inl h) = unfit (rw (lt-leb low n h) refl)
  sub_unfit (inr h) = unfit (rw h.1 (and-false (leb low n)))

  behind : (g : Got Listed) → seen_as (sub_behind old) (then g (λ ss p₂ xs₂. ok (record { first = n; count = c; rows = ss }) p₂ xs₂)) ≡ then (seen_as (λ ss. old ++ ss) g) (λ all p₂ xs₂. ok (n, c, all) p₂ xs₂)
  behind (ok ss p₂ xs₂) = refl
  behind (bad f) = refl

  fits : low ≤ n → 1 ≤ c → seen_as (sub_behind old) (sub low p xs) ≡ then (seen_as (λ ss. old ++ ss) (slots c n q ys)) (λ all p₂ xs₂. ok (n, c, all) p₂ xs₂)
  fits h l =
      let e : leb low n && leb 1 c ≡ true = rw (le-leb low n h, le-leb 1 c l) refl in
      ap (seen_as (sub_behind old)) (behind_line ∙ ap (fitting p n c q ys) e) ∙ behind (slots c n q ys)

  pub sub_fits : low ≤ n → 1 ≤ c → {all : Listed} {r : ℕ} {zs : Bytes} → seen_as (λ ss. old ++ ss) (slots c n q ys) ≡ ok all r zs → seen_as (sub_behind old) (sub low p xs) ≡ ok (n, c, all) r zs
  sub_fits h l e = fits h l ∙ rw e refl

  pub sub_bad : low ≤ n → 1 ≤ c → {f : Fault} → seen_as (λ ss. old ++ ss) (slots c n q ys) ≡ bad f → seen_as (sub_behind old) (sub low p xs) ≡ bad f
  sub_bad h l e = fits h l ∙ rw e refl
