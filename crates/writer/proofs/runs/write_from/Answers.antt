use Rattle.std.proofs.Common.{length, sym, ap, ◌∙◌, arith}
use Rattle.writer.specs.Listing.{front}
use Rattle.writer.specs.Plans.{rows_of}
use Rattle.writer.proofs.Listing.{entry_listed, entry_passed}
use Rattle.writer.proofs.RunsWritten.{run_written, none_written}
use Rattle.writer.proofs.runs.write_from.Goals as goal

pub returns-then-is_some-clause-runs : goal.returns-then-is_some-clause-runs
returns-then-is_some-clause-runs c =
    let e = c.write_run.ensures in
    let s = entry_listed (rows_of c.args.plan.now) c.args.n c.entry_of.result c.entry_of.ensures (sym c.is_some.ensures ∙ c.if-is_some.true) in
    let l = ap (λ xs. length (front xs)) s.1 in
    let i = e.is in
    let p = c.requires.within in
    let q = c.args.plan.now.few in
    run_written (rows_of c.args.plan.now) c.args.n c.write_run.result _ _ c.args.draft.now c.write_run.new.draft s.1 (omega arith) (omega arith) i e.adds

pub returns-else-is_some-clause-runs : goal.returns-else-is_some-clause-runs
returns-else-is_some-clause-runs c =
    none_written (rows_of c.args.plan.now) c.args.n c.args.draft.now
    (entry_passed (rows_of c.args.plan.now) c.args.n c.entry_of.result c.entry_of.ensures (sym c.is_some.ensures ∙ c.if-is_some.false))
