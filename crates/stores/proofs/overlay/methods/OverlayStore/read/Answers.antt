use Rattle.std.proofs.Common.{refl, arith}
use Rattle.stores.proofs.Overlaid.{row_read}
use Rattle.stores.proofs.overlay.methods.OverlayStore.read.Goals as goal

pub returns : goal.returns
returns g c =
    let s = c.args.self.now in
    let xs = (g.S.Store.meaning s.below).bytes in
    row_read s.shown s.used xs s.tail (omega arith) c.args.from c.min-ahead.result _ _ _ c.args.buffer.now _ _ (omega arith) refl c.read.ensures c.read_tail-behind.ensures
