use Rattle.std.proofs.Common.{length, arith}
use Rattle.records.specs.Tabled.{cells_held, revisions_held}
use Rattle.records.proofs.Tabling.{stacked_total}
use Rattle.records.proofs.revision_tables.Tables.push.Goals as goal

pub lay-requires-clause-room : goal.lay-requires-clause-room
lay-requires-clause-room c =
    let cells = cells_held c.args.self.now in
    let revisions = revisions_held c.args.self.now in
    let total = stacked_total 0 (length cells) revisions c.requires.tabled.stacked c.requires.tabled.small in
    omega arith
