-- Ways of a test.
use Rattle.std.proofs.Common.{◌≡◌, ℕ, Bool, true, false, arith}

-- no test goes both ways
pub clash : {P : Type 0} {b : Bool} → b ≡ true → b ≡ false → P
clash e f = let z : ◌≡◌ {A = ℕ} 0 1 = cc in absurd (omega arith)
