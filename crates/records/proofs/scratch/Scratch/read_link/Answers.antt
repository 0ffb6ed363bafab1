use Rattle.std.proofs.Common.{Err, sym, ap, ◌∙◌, arith}
use Rattle.format.specs.Chain.{in_bound, window_bytes}
use Rattle.entries.specs.Rows.{rows_of}
use Rattle.opening.specs.Trailers.{told_of}
use Rattle.records.specs.Windows.{seen_in}
use Rattle.records.proofs.Answering.{handed}
use Rattle.records.proofs.Checking.{link_bad}
use Rattle.records.proofs.Reading.{window_counts}
use Rattle.records.proofs.Sectioned.{read_high, read_untold, read_told, read_places}
use Rattle.records.proofs.scratch.Scratch.read_link.Goals as goal

pub returns-in_err-section-clause-is : goal.returns-in_err-section-clause-is
returns-in_err-section-clause-is g c =
    let file = (g.S.Store.meaning c.args.store.now).bytes in
    let z = handed c.from_residual.result c.in_err-section.field-0.0 c.from_residual.ensures.1 in
    rw z (link_bad file c.args.offset c.in_err-section.field-0.0 c.in_err-section.ensures.is)

pub returns-then-not-in_bound-clause-is : goal.returns-then-not-in_bound-clause-is
returns-then-not-in_bound-clause-is g c =
    let file = (g.S.Store.meaning c.args.store.now).bytes in
    let s = c.in_ok-section.ensures.is in
    read_high file c.args.offset (seen_in c.section_at.new.self.window) c.in_ok-section.section c.section_at.new.self.rows s.0 s.1 s.2 (ap (λ rs. in_bound (rows_of rs)) (sym c.as_slice.ensures) ∙ sym c.if-not-in_bound.ensures) ∙ ap Err (sym c.met.ensures)

pub overflow_add-mark : goal.overflow_add-mark
overflow_add-mark g c =
    let file = (g.S.Store.meaning c.args.store.now).bytes in
    let s = c.in_ok-section.ensures.is in
    record { fits = (read_places file c.args.offset (seen_in c.section_at.new.self.window) c.in_ok-section.section c.section_at.new.self.rows s.0 s.1 s.2 (window_counts file (seen_in c.section_at.new.self.window) c.args.offset window_bytes s.1 c.in_ok-section.ensures.counts (omega arith))).0 }

pub overflow_add-end : goal.overflow_add-end
overflow_add-end g c =
    let file = (g.S.Store.meaning c.args.store.now).bytes in
    let s = c.in_ok-section.ensures.is in
    record { fits = (read_places file c.args.offset (seen_in c.section_at.new.self.window) c.in_ok-section.section c.section_at.new.self.rows s.0 s.1 s.2 (window_counts file (seen_in c.section_at.new.self.window) c.args.offset window_bytes s.1 c.in_ok-section.ensures.counts (omega arith))).1 }

pub returns-in_default-clause-is : goal.returns-in_default-clause-is
returns-in_default-clause-is g c =
    let file = (g.S.Store.meaning c.args.store.now).bytes in
    let s = c.in_ok-section.ensures.is in
    read_untold file c.args.offset (seen_in c.section_at.new.self.window) c.in_ok-section.section c.section_at.new.self.rows s.0 s.1 s.2 c.seen.result.now (told_of c.told.result) c.seen.ensures (ap told_of c.in_default.is) c.told.ensures (ap (λ rs. in_bound (rows_of rs)) (sym c.as_slice.ensures) ∙ sym c.if-not-in_bound.ensures) ∙ ap Err (sym c.met-in_default.ensures)

pub returns-clause-is : goal.returns-clause-is
returns-clause-is g c =
    let file = (g.S.Store.meaning c.args.store.now).bytes in
    let s = c.in_ok-section.ensures.is in
    read_told file c.args.offset (seen_in c.section_at.new.self.window) c.in_ok-section.section c.section_at.new.self.rows s.0 s.1 s.2 c.seen.result.now c.in-Some.told c.seen.ensures c.in-Some.ensures (ap (λ rs. in_bound (rows_of rs)) (sym c.as_slice.ensures) ∙ sym c.if-not-in_bound.ensures)
