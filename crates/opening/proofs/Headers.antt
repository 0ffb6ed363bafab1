-- The header, at the start of the bytes.
use Rattle.std.proofs.Common.{◌≡◌, ℕ, suc, ◌+◌, ◌-◌, ◌≤◌, Bool, false, eqb, [], ◌∷◌, ◌++◌, length, take, Some, None, codes, Option, sym, refl, ap, ◌∙◌, suc-add, zero-add, arith, Bor, MatchOption}
use Rattle.format.specs.Bytes.{Bytes}
use Rattle.format.specs.Frames.{behind}
use Rattle.format.specs.Revisions.{version_fits, header_fits}
use Rattle.locality.proofs.Cases.{cases}
use Rattle.opening.proofs.Backwards.{behind_front, behind_other}

-- whether a version stands behind the word
abbrev fitting : Option Bytes → Bool
fitting None = false
fitting (Some rest) = version_fits rest

by_version : (file : Bytes) → header_fits file ≡ fitting (behind (codes "%PDF-1.") file)
unfolding header_fits
by_version file = at (behind (codes "%PDF-1.") file) where
  at : (o : Option Bytes) → elim o [ None ↦ false | Some rest ↦ version_fits rest ] ≡ fitting o
  at None = refl
  at (Some rest) = refl

-- a version stands behind the word, or nothing does
pub header_read : (src : Bytes) (r : Bool) (o : Option (Bor Bytes)) → MatchOption o ((rest : Bytes) → src ≡ codes "%PDF-1." ++ rest → ⊥) (λ x. src ≡ codes "%PDF-1." ++ x.now) → MatchOption o (r ≡ false) (λ x. r ≡ version_fits x.now) → r ≡ header_fits src
header_read src r None un e = e ∙ sym (by_version src ∙ ap fitting (behind_other (codes "%PDF-1.") src un))
header_read src r (Some x) is e = e ∙ sym (by_version src ∙ ap fitting (ap (behind (codes "%PDF-1.")) is ∙ behind_front (codes "%PDF-1.") x.now))

-- what stands behind a word, cut
abbrev cut : ℕ → Option Bytes → Option Bytes
cut n None = None
cut n (Some ys) = Some (take n ys)

behind_cut : (w xs : Bytes) (n : ℕ) → behind w (take (length w + n) xs) ≡ cut n (behind w xs)
unfolding behind
behind_cut [] xs n = rw zero-add refl
behind_cut (x ∷ w) [] n = rw suc-add refl
behind_cut (x ∷ w) (y ∷ ys) n =
    rw suc-add
    (cases (eqb x y) (λ e. rw (e, behind) (behind_cut w ys n)) (λ e. rw (e, behind) refl))

version_cut : (o : Option Bytes) (n : ℕ) → fitting (cut (suc n) o) ≡ fitting o
unfolding version_fits
version_cut None n = refl
version_cut (Some []) n = refl
version_cut (Some (x ∷ xs)) n = refl

-- eight bytes are enough
first_bytes : (file : Bytes) (n : ℕ) → 8 ≤ n → header_fits (take n file) ≡ header_fits file
first_bytes file n h =
    let e : n ≡ 7 + suc (n - 8) = omega arith in
    by_version (take n file)
    ∙ ap (λ k. fitting (behind (codes "%PDF-1.") (take k file))) e
    ∙ ap fitting (behind_cut (codes "%PDF-1.") file (suc (n - 8)))
    ∙ version_cut (behind (codes "%PDF-1.") file) (n - 8)
    ∙ sym (by_version file)

-- what the first bytes tell, the file tells
pub header_in_file : (src : Bytes) (r : Bool) → r ≡ header_fits src → (file : Bytes) (n : ℕ) → 8 ≤ n → src ≡ take n file → r ≡ header_fits file
header_in_file src r e file n h is = e ∙ ap header_fits is ∙ first_bytes file n h
