use Rattle.std.proofs.Common.{◌≡◌, ◌^◌, ◌<◌, take}
use Rattle.format.specs.Bytes.{value}
use Rattle.opening.proofs.numbers.number.Given as goal

abbrev pub invariant-loop-b : goal.invariant-loop-b
invariant-loop-b l = (l.n ≡ value (take l.b-index l.digits)) × (l.n < 10 ^ l.b-index)
