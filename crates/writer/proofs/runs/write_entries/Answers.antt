use Rattle.std.proofs.Common.{◌≡◌, [], length, ap, ◌∙◌, arith}
use Rattle.entries.specs.Rows.{slot_of}
use Rattle.sections.proofs.Entries.{slot_length}
use Rattle.writer.specs.Listing.{front, listed_at}
use Rattle.writer.specs.Plans.{rows_of}
use Rattle.writer.proofs.RunsWritten.{entries_done, entries_step, no_entries}
use Rattle.writer.proofs.runs.write_entries.Goals as goal
use Rattle.writer.proofs.runs.write_entries.Goals.{in-Some, in_default}

pub loop-n-preserved : goal.loop-n-preserved
loop-n-preserved c =
    let i = c.loop-n.invariant in
    elim c.match-entry_of.branch [
      | in-Some w ↦
          let e = ap front w.in-Some.ensures in
          let l = ap length e in
          let g = w.entry.ensures.grown in
          let s = slot_length (slot_of w.in-Some.entry) in
          let m = w.entry.ensures.limit in
          rw w.draft-is (omega arith, omega arith, m ∙ i.2, entries_step c.args.draft.now c.loop-n.draft w.entry.new.self _ _ _ _ e w.entry.ensures i.3)
      | in_default w ↦
          let l = ap (λ xs. length (front xs)) w.in_default.ensures in
          absurd (omega arith)
    ]

pub returns : goal.returns
returns c =
    let i = c.loop-n.invariant in
    let r = c.requires.end in
    let e : front (listed_at (rows_of c.args.plan.now) c.loop-n.n) ≡ [] = no_entries _ (omega arith) in
    entries_done c.args.draft.now c.loop-n.draft _ _ e i.3 i.2
