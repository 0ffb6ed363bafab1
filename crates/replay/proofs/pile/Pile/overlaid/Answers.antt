use Rattle.std.proofs.Common.{Some, ap}
use Rattle.stores.specs.Flats.{flat_meaning}
use Rattle.stores.specs.Overlays.{overlay_meaning}
use Rattle.replay.specs.Piles.{top_of}
use Rattle.replay.proofs.pile.Pile.overlaid.Goals as goal

pub returns-in-Ok : goal.returns-in-Ok
returns-in-Ok c = (flat_meaning c.in-Bare.store, ap top_of c.in-Bare.is, ap Some c.new.ensures.meaning)

pub returns-in-Ok-check : goal.returns-in-Ok-check
returns-in-Ok-check c =
    (overlay_meaning flat_meaning c.in-Once.store, ap top_of c.in-Once.is, ap Some c.new-in-Ok-check.ensures.meaning)
