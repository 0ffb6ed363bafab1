-- A section says where it starts and where it ends.
use Rattle.std.proofs.Common.{◌≡◌, ℕ, false, codes, refl, subst}
use Rattle.format.specs.Bytes.{Bytes, Got, ok}
use Rattle.format.specs.Lines.{placed, exact, exact_line}
use Rattle.format.specs.Objects.{Entries}
use Rattle.format.specs.Sections.{all_subs, trailer_at, tail, Section, section}
use Rattle.format.specs.Space.{skip}
use Rattle.format.specs.Tokens.{token_at}
use Rattle.chains.proofs.Steps.{by_reading, never_reading}

-- a section that is read at `off` down to e starts and ends there
pub section_places : (off : ℕ) (xs : Bytes) (s : Section) (e : ℕ) (rest : Bytes) → section off xs ≡ ok s e rest → (s.offset ≡ off) × (s.end ≡ e)
unfolding section
section_places off xs s e rest h =
    by_reading (placed off xs (exact_line (codes "xref") off xs))
    (λ u p₁ xs₁ a.
    by_reading (all_subs p₁ xs₁)
    (λ ss p₂ xs₂ b.
    by_reading (placed p₂ xs₂ (exact (codes "trailer") p₂ xs₂))
    (λ v p₃ xs₃ c.
    by_reading (trailer_at (token_at p₃ xs₃))
    (λ t p₄ xs₄ d.
    by_reading (tail off (skip false p₄ xs₄).0 (skip false p₄ xs₄).1)
    (λ w p₅ xs₅ f. made ss t p₅ xs₅ (rw (a, b, c, d, f) at h))
    (λ x f. never_reading (rw (a, b, c, d, f) at h)))
    (λ x d. never_reading (rw (a, b, c, d) at h)))
    (λ x c. never_reading (rw (a, b, c) at h)))
    (λ x b. never_reading (rw (a, b) at h)))
    (λ x a. never_reading (rw a at h))
  where
    made : (ss : _) (t : ℕ × Entries) (p : ℕ) (ys : Bytes) →
        ◌≡◌ {A = Got Section} (ok (record { offset = off; end = p; subsections = ss; marked = t.0; trailer = t.1 }) p ys) (ok s e rest) → (s.offset ≡ off) × (s.end ≡ e)
    made ss t p ys q =
        let k : ◌≡◌ {A = Section} (record { offset = off; end = p; subsections = ss; marked = t.0; trailer = t.1 }) s = cc in
        let n : p ≡ e = cc in
        subst (λ z. (z.offset ≡ off) × (z.end ≡ e)) k (refl, n)
