use Rattle.std.proofs.Common.{◌≡◌, ◌++◌, take, drop}
use Rattle.stores.proofs.store.Store.read.Given as goal

abbrev pub invariant-loop-i : goal.invariant-loop-i
invariant-loop-i g l =
    l.window ≡ take l.i (drop l.from (g.Self.Store.meaning l.self).bytes) ++ drop l.i l.initial.window
