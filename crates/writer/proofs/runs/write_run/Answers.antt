use Rattle.std.proofs.Common.{◌≡◌, ◌-◌, [], ◌++◌, length, ap, ◌∙◌, arith}
use Rattle.format.specs.Writing.{slots_on}
use Rattle.writer.specs.Listing.{front, listed_at}
use Rattle.writer.specs.Pieces.{line_bytes}
use Rattle.writer.specs.Plans.{rows_of}
use Rattle.writer.proofs.Joined.{adds_as, adds_then}
use Rattle.writer.proofs.Pieces.{run_parts}
use Rattle.writer.proofs.runs.write_run.Goals as goal

pub returns-clause-adds : goal.returns-clause-adds
returns-clause-adds c =
    let fs = front (listed_at (rows_of c.args.plan.now) c.args.first) in
    let k = c.run_end-end.ensures.is in
    let q : c.run_end-end.result - c.args.first ≡ length fs = omega arith in
    adds_as (adds_then c.run_line.ensures c.write_entries.ensures) (ap (λ n. line_bytes c.args.first n ++ slots_on fs []) (c.from.ensures ∙ q) ∙ run_parts c.args.first fs)
