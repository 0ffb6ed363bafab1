use Rattle.std.proofs.Common.{◌≡◌, ◌+◌, ◌<◌, length, take, ◌∙◌, arith}
use Rattle.std.proofs.lemmas.List.{length-take-le}
use Rattle.stores.proofs.Windows.{filled_more, window_never}
use Rattle.stores.proofs.store.Store.read.Goals as goal

pub loop-i-preserved : goal.loop-i-preserved
loop-i-preserved g c =
    let xs = (g.Self.Store.meaning c.args.self.now).bytes in
    let was = take c.min-count.result c.args.buffer.now in
    let long : length was ≡ c.min-count.result = length-take-le _ _ (omega arith) in
    let h : c.args.from + c.loop-i.i < length xs = omega arith in
    elim c.match-byte_at.branch [
      | goal.in-Some w ↦ w.window-is ∙ filled_more xs c.args.from was c.loop-i.window c.loop-i.i w.in-Some.b c.loop-i.invariant (omega arith) h w.in-Some.ensures
      | goal.in_default w ↦ absurd (window_never xs c.args.from c.loop-i.i h w.in_default.ensures)
    ]
