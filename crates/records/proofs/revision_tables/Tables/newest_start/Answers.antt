use Rattle.std.proofs.Common.{◌≡◌, MatchOption, length, arith, rules}
use Rattle.records.specs.Tabled.{cells_held, revisions_held}
use Rattle.records.proofs.Tabling.{last_within, newest_told}
use Rattle.records.proofs.revision_tables.Tables.newest_start.Goals as goal

pub returns : goal.returns
returns c =
    let cells = cells_held c.args.self.now in
    let revisions = revisions_held c.args.self.now in
    let w = last_within 0 (length cells) revisions c.requires.stacked c.requires.small in
    let told : MatchOption c.last.result (c.map_or.result ≡ c.len.result) (λ x. c.map_or.result ≡ x.now.first) = search rules in
    let is = newest_told (length cells) c.len.result revisions c.revisions.result.now c.last.result c.map_or.result c.revisions.ensures c.last.ensures.item told (omega (arith, c.len.ensures)) in
    record { is = is; within = omega (arith, is, w.0); small = omega (arith, is, w.1) }
