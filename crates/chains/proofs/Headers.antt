-- The header is decided by the first eight bytes.
use Rattle.std.proofs.Common.{◌≡◌, ℕ, suc, ◌+◌, ◌-◌, ◌≤◌, true, eqb, [], ◌∷◌, ◌++◌, length, take, Some, None, codes, Option, ap, ◌∙◌, suc-add, zero-add, arith}
use Rattle.format.specs.Bytes.{Bytes}
use Rattle.format.specs.Frames.{behind}
use Rattle.format.specs.Revisions.{version_fits, header_fits}
use Rattle.chains.proofs.Steps.{never_true}
use Rattle.locality.proofs.Cases.{cases, cases_o}

never_none : {A P : Type 0} {a : A} → ◌≡◌ {A = Option A} None (Some a) → P
never_none e = let z : ◌≡◌ {A = ℕ} 0 1 = cc in absurd (omega arith)

some_same : {A : Type 0} {a b : A} → ◌≡◌ {A = Option A} (Some a) (Some b) → a ≡ b
some_same e = cc

-- what stands behind some bytes, cut
behind_cut : (ws xs rest : Bytes) (n : ℕ) → behind ws xs ≡ Some rest → behind ws (take (length ws + n) xs) ≡ Some (take n rest)
unfolding behind
behind_cut [] xs rest n h = rw zero-add (ap (λ ys. Some (take n ys)) (some_same h))
behind_cut (w ∷ ws) [] rest n h = never_none h
behind_cut (w ∷ ws) (x ∷ xs) rest n h =
    cases (eqb w x)
    (λ e. rw suc-add (rw (e, behind) (behind_cut ws xs rest n (rw (e, behind) at h))))
    (λ e. never_none (rw (e, behind) at h))

-- what stands behind some bytes, with more bytes
behind_longer : (ws xs rest ys : Bytes) → behind ws xs ≡ Some rest → behind ws (xs ++ ys) ≡ Some (rest ++ ys)
unfolding behind
behind_longer [] xs rest ys h = ap (λ zs. Some (zs ++ ys)) (some_same h)
behind_longer (w ∷ ws) [] rest ys h = never_none h
behind_longer (w ∷ ws) (x ∷ xs) rest ys h =
    cases (eqb w x)
    (λ e. rw (e, behind) (behind_longer ws xs rest ys (rw (e, behind) at h)))
    (λ e. never_none (rw (e, behind) at h))

version_cut : (rest : Bytes) (n : ℕ) → version_fits rest ≡ true → version_fits (take (suc n) rest) ≡ true
unfolding version_fits
version_cut [] n h = h
version_cut (x ∷ xs) n h = h

version_longer : (rest ys : Bytes) → version_fits rest ≡ true → version_fits (rest ++ ys) ≡ true
unfolding version_fits
version_longer [] ys h = never_true h
version_longer (x ∷ xs) ys h = h

-- eight bytes and more of a file with a header have it
pub header_cut : (file : Bytes) (m : ℕ) → 8 ≤ m → header_fits file ≡ true → header_fits (take m file) ≡ true
unfolding header_fits
header_cut file m l h =
    cases_o (behind (codes "%PDF-1.") file)
    (λ e. never_true (rw (e, header_fits) at h))
    (λ rest e.
    let k : m ≡ 7 + suc (m - 8) = omega arith in
    let c : behind (codes "%PDF-1.") (take m file) ≡ Some (take (suc (m - 8)) rest) = ap (λ j. behind (codes "%PDF-1.") (take j file)) k ∙ behind_cut (codes "%PDF-1.") file rest (suc (m - 8)) e in
    rw (c, header_fits) (version_cut rest (m - 8) (rw (e, header_fits) at h)))

-- a file with a header has it with more bytes behind
pub header_longer : (file more : Bytes) → header_fits file ≡ true → header_fits (file ++ more) ≡ true
unfolding header_fits
header_longer file more h =
    cases_o (behind (codes "%PDF-1.") file)
    (λ e. never_true (rw (e, header_fits) at h))
    (λ rest e. rw (behind_longer (codes "%PDF-1.") file rest more e, header_fits) (version_longer rest more (rw (e, header_fits) at h)))
