use Rattle.std.proofs.Common.{◌∙◌, sym, ap}
use Rattle.replay.proofs.Told.{found_told}
use Rattle.replay.proofs.readings.tokens.Goals as goal

pub loop-values-preserved : goal.loop-values-preserved
loop-values-preserved c =
    let told = c.in_ok-found.ensures in (
      ap (λ s. s.now) told.src ∙ c.loop-values.invariant.0,
      found_told _ _ _ _ _ _ c.in_ok-found.found c.in-Some.sort c.loop-values.invariant.0 c.loop-values.invariant.1 told.is (sym c.in-Some.ensures) c.in_ok-push.ensures.items told.moves,
    )
