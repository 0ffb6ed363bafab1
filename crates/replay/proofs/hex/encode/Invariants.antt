use Rattle.std.proofs.Common.{◌≡◌, ◌++◌, take, vec_items}
use Rattle.replay.specs.Hex.{hex_of}
use Rattle.replay.proofs.hex.encode.Given as goal

abbrev pub invariant-loop-b : goal.invariant-loop-b
invariant-loop-b l = vec_items l.text ≡ vec_items l.initial.text ++ hex_of (take l.b-index l.bytes)
