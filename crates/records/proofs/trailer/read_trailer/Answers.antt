use Rattle.std.proofs.Common.{refl}
use Rattle.records.specs.Trailers.{seen_by}
use Rattle.records.proofs.Sectioned.{trailer_seen}
use Rattle.records.proofs.trailer.read_trailer.Goals as goal

pub returns-clause-is : goal.returns-clause-is
returns-clause-is g c =
    let file = (g.S.Store.meaning c.args.store.now).bytes in
    let s = c.in_ok-section.ensures.is in
    trailer_seen file c.args.offset (seen_by c.section_at.new.self) c.in_ok-section.section c.section_at.new.self.rows s.0 s.1 s.2 (seen_by c.section_at.new.self) refl
