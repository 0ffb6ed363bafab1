-- How many bytes the pieces are at most, for a caller to see that there is room.
use Rattle.std.specs.Prelude.{◌≡◌, ℕ, ◌+◌, ◌*◌, ◌^◌, ◌<◌, ◌≤◌, List, [], length, Some}
use Rattle.format.specs.Bytes.{Bytes}
use Rattle.format.specs.Lines.{Slot}
use Rattle.format.specs.Writing.{decimal, framed_bytes, prev_bytes, run_on, slot_bytes}
use Rattle.writer.specs.Pieces.{pair_bytes, size_bytes, close_bytes}

-- of numbers below 10,000,000,000
pub record Bounds : Type 0 where
  pub number : (n : ℕ) → n < 10 ^ 10 → length (decimal n) ≤ 10
  pub object : (n g : ℕ) (b : Bytes) → n < 10 ^ 10 → g < 10 ^ 10 → length (framed_bytes n g b) ≤ length b + 34
  pub entry : (s : Slot) → length (slot_bytes s) ≡ 20
  pub run : (first : ℕ) (ss : List Slot) → first < 10 ^ 10 → length ss < 10 ^ 10 → length (run_on (first, ss) []) ≤ 22 + 20 * length ss
  pub pair : (k v : Bytes) → length (pair_bytes k v) ≡ length k + length v + 2
  pub size : (n : ℕ) → n < 10 ^ 10 → length (size_bytes n) ≤ 17
  pub prev : (p : ℕ) → p < 10 ^ 10 → length (prev_bytes (Some p)) ≤ 17
  pub close : (at : ℕ) → at < 10 ^ 10 → length (close_bytes at) ≤ 30
