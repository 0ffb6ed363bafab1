use Rattle.std.proofs.Common.{◌∙◌, lit≤}
use Rattle.records.proofs.open.has_header.Goals as goal

pub returns : goal.returns
returns g c = c.header_fits.ensures.begins (g.S.Store.meaning c.args.store.now).bytes 8 (lit≤ tt) (c.seen.ensures ∙ c.fill.ensures)
