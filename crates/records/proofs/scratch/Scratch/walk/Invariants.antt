use Rattle.std.proofs.Common.{◌≡◌, length}
use Rattle.records.specs.declared.chain.Ending.TheVariants.{At}
use Rattle.records.specs.Trailers.{offsets_in}
use Rattle.records.proofs.Chaining.{Walking}
use Rattle.records.proofs.scratch.Scratch.walk.Given as goal

abbrev pub invariant-loop : goal.invariant-loop
invariant-loop g l =
    (length (offsets_in l.self) ≡ l.counter)
    × Walking (g.S.Store.meaning l.store).bytes l.newest (At l.length) (length (offsets_in l.self)) l.offset l.ending (offsets_in l.self)
