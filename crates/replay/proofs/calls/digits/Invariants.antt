use Rattle.std.proofs.Common.{◌≡◌, ◌-◌, length, take, vec_items}
use Rattle.replay.specs.Hex.{hex_of}
use Rattle.replay.proofs.calls.digits.Given as goal

abbrev pub invariant-loop-place : goal.invariant-loop-place
invariant-loop-place g l =
    (length l.window ≡ 4096)
    × (vec_items l.text ≡ hex_of (take l.place (g.S.Store.meaning l.store).bytes))

abbrev pub decreases-loop-place : goal.decreases-loop-place
decreases-loop-place g l = l.length - l.place
