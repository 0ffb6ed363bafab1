use Rattle.std.proofs.Common.{◌≡◌, ℕ, ◌*◌, ◌<◌, get_or, take, vec_items}
use Rattle.replay.specs.Hex.{hex_of, HexDigit}
use Rattle.replay.proofs.hex.decode.Given as goal

abbrev pub invariant-loop-high : goal.invariant-loop-high
invariant-loop-high l =
    (hex_of (vec_items l.bytes) ≡ take (2 * l.high-index) l.text)
    × ((k : ℕ) → k < 2 * l.high-index → HexDigit (get_or l.text k 0))
