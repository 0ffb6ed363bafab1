use Rattle.std.proofs.Common.{◌∙◌, lit≤}
use Rattle.records.proofs.Openings.{tail_window}
use Rattle.records.proofs.open.newest_offset.Goals as goal

pub returns : goal.returns
returns g c =
    let file = (g.S.Store.meaning c.args.store.now).bytes in
    c.last_offset.ensures.ends file 31 (lit≤ tt) (tail_window file c.seen.result.now c.len.result c.saturating_sub.result c.len.ensures c.saturating_sub.ensures (c.seen.ensures ∙ c.fill.ensures))
