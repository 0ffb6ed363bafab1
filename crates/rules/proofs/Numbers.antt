-- What is left up to a number, and integers that are equal.
use Rattle.std.proofs.Common.{◌≡◌, ℕ, zero, suc, ◌+◌, ◌≤◌, pos, arith}

pub left_over : (a b : ℕ) → a ≤ b → (n : ℕ) × (a + n ≡ b)
left_over zero b h = (b, omega arith)
left_over (suc a) zero h = absurd (omega arith)
left_over (suc a) (suc b) h = let w = left_over a b (omega arith) in (w.0, let e = w.1 in omega arith)

pub pos_once : {m n : ℕ} → pos m ≡ pos n → m ≡ n
pos_once e = cc
