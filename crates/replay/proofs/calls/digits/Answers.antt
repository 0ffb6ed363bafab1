use Rattle.std.proofs.Common.{◌+◌, ◌≤◌, length, vec_items, ap, ◌∙◌, arith}
use Rattle.std.proofs.lemmas.List.{take_all}
use Rattle.replay.specs.Hex.{hex_of}
use Rattle.replay.proofs.Hexes.{window_told}
use Rattle.replay.proofs.calls.digits.Goals.{else-loop-place-test, then-loop-place-test+in_ok-encode+else-length-place-gt4096}
use Rattle.replay.proofs.calls.digits.Goals as goal

pub loop-place-preserved : goal.loop-place-preserved
loop-place-preserved g c =
    let within : ◌≤◌ c.loop-place.place (length (g.S.Store.meaning c.args.store.now).bytes) = omega (arith, c.len-length.ensures, c.loop-place-test.true) in (
      omega (arith, c.read-count.auto.buffer, c.loop-place.invariant.0),
      window_told (g.S.Store.meaning c.args.store.now).bytes _ _ _ _ _ _ 4096 within c.loop-place.invariant.0 c.read-count.ensures c.loop-place.invariant.1 c.in_ok-encode.ensures,
    )

pub returns : goal.returns
returns g c =
    let bytes = (g.S.Store.meaning c.args.store.now).bytes in
    let place = c.loop-place.place in
    elim c.loop-place-test.branch [
      | else-loop-place-test w ↦
          ap vec_items w.text-is ∙ (c.loop-place.invariant.1 ∙ ap hex_of (take_all place bytes (omega (arith, c.len-length.ensures, w.loop-place-test.false))))
      | then-loop-place-test+in_ok-encode+else-length-place-gt4096 w ↦
          let within : ◌≤◌ c.loop-place.place (length (g.S.Store.meaning c.args.store.now).bytes) = omega (arith, c.len-length.ensures, w.loop-place-test.true) in
          let told = window_told bytes _ _ _ _ _ _ 4096 within c.loop-place.invariant.0 w.read-count.ensures c.loop-place.invariant.1 w.in_ok-encode.ensures in
          ap vec_items w.text-is ∙ (told ∙ ap hex_of (take_all (place + 4096) bytes (omega (arith, c.len-length.ensures))))
    ]
