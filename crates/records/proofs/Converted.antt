-- A signed number that was converted: it is from 0 on, or the conversion failed.
use Rattle.std.proofs.Common.{◌≡◌, ℕ, ◌^◌, ◌<◌, ℤ, pos, negsuc, unsigned_abs, Ok, Err, Result, MatchResult, sym, refl, ap, arith, w64, Fits, SFits}
use Rattle.std.proofs.Math.Facts.{Fits-nat_abs}
use Rattle.std.proofs.lemmas.Result.{MatchResult-at_ok, MatchResult-at_err}
use Rattle.std.specs.Int.{FitsUnsignedBits}
use Rattle.std.specs.Result.{OkIff}

fits_pos : (m : ℕ) → SFits w64 (pos m) → m < 2 ^ 64
fits_pos m f = let h : Fits w64 m = Fits-nat_abs {w = w64} {w' = w64} {z = pos m} tt f in omega (arith, h.fits)

converted : {E : Type 0} (z : ℤ) (r : Result ℕ E) → SFits w64 z → OkIff r (FitsUnsignedBits 64 z) (unsigned_abs z) → MatchResult r (λ k. z ≡ pos k) (λ _. (m : ℕ) × (z ≡ negsuc m))
converted (pos m) (Ok k) f o = ap pos (sym o.1)
converted (negsuc m) (Ok k) f o = absurd o.0
converted (pos m) (Err d) f o = absurd (o (fits_pos m f))
converted (negsuc m) (Err d) f o = (m, refl)

pub converted_ok : {E : Type 0} (z y : ℤ) (r : Result ℕ E) → SFits w64 z → y ≡ z → OkIff r (FitsUnsignedBits 64 y) (unsigned_abs y) → (k : ℕ) → r ≡ Ok k → z ≡ pos k
converted_ok z y r f e o k q = MatchResult-at_ok (λ k. z ≡ pos k) (λ _. (m : ℕ) × (z ≡ negsuc m)) k q (converted z r f (rw e at o))

pub converted_err : {E : Type 0} (z y : ℤ) (r : Result ℕ E) → SFits w64 z → y ≡ z → OkIff r (FitsUnsignedBits 64 y) (unsigned_abs y) → (d : E) → r ≡ Err d → (m : ℕ) × (z ≡ negsuc m)
converted_err z y r f e o d q = MatchResult-at_err (λ k. z ≡ pos k) (λ _. (m : ℕ) × (z ≡ negsuc m)) d q (converted z r f (rw e at o))
