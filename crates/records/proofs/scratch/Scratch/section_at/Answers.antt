use Rattle.std.proofs.Common.{sym, ap, ◌∙◌, arith}
use Rattle.faults.specs.declared.reason.Reason.TheVariants.{BytesEnd}
use Rattle.format.specs.Bytes.{bad}
use Rattle.format.specs.Chain.{window_bytes}
use Rattle.format.specs.Failures.{section_fault}
use Rattle.records.proofs.Checking.{section_past}
use Rattle.records.proofs.Reading.{window_counts}
use Rattle.records.proofs.Sectioned.{section_seen}
use Rattle.records.proofs.scratch.Scratch.section_at.Goals as goal

pub returns-then-offset-length-clause-is : goal.returns-then-offset-length-clause-is
returns-then-offset-length-clause-is g c =
    let file = (g.S.Store.meaning c.args.store.now).bytes in
    section_past file c.args.offset (omega arith) ∙ ap (λ n. bad (section_fault BytesEnd n)) (sym c.len-length.ensures) ∙ ap bad (sym c.met.ensures)

pub read_section-requires-clause-counts : goal.read_section-requires-clause-counts
read_section-requires-clause-counts g c =
    let file = (g.S.Store.meaning c.args.store.now).bytes in
    window_counts file c.seen.result.now c.args.offset window_bytes (c.seen.ensures ∙ c.fill.ensures) (omega arith) (omega arith)

pub returns-clause-is : goal.returns-clause-is
returns-clause-is g c =
    let file = (g.S.Store.meaning c.args.store.now).bytes in
    section_seen file c.args.offset c.seen.result.now _ c.read_section.new.rows c.read_section.result (omega arith) (c.seen.ensures ∙ c.fill.ensures) c.seen.ensures c.read_section.ensures
