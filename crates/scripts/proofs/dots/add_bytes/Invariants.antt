use Rattle.std.proofs.Common.{◌≡◌, true, ◌++◌, take, vec_items}
use Rattle.scripts.specs.Dots.{dot_as, each_byte}
use Rattle.scripts.proofs.Dotting.{starts_after}
use Rattle.scripts.proofs.dots.add_bytes.Given as goal

abbrev pub invariant-loop-b : goal.invariant-loop-b
invariant-loop-b l =
    (vec_items l.out ≡ vec_items l.initial.out ++ each_byte (dot_as l.dot) true (take l.b-index l.bytes))
    × (l.starts ≡ starts_after true (take l.b-index l.bytes))
