use Rattle.std.proofs.Common.{arith}
use Rattle.writer.specs.Plans.{rows_of}
use Rattle.writer.proofs.RunsWritten.{front_within, runs_done}
use Rattle.writer.proofs.runs.write_runs.Goals as goal

pub write_from-n-requires-clause-room : goal.write_from-n-requires-clause-room
write_from-n-requires-clause-room c =
    let i = c.loop-n.invariant in
    let g = i.1.grown in
    let l = i.1.limit in
    let f = front_within (rows_of c.args.plan.now) c.loop-n.n in
    let p = c.args.plan.now.few in
    let r = c.requires in
    omega arith

pub returns-clause-adds : goal.returns-clause-adds
returns-clause-adds c =
    let i = c.loop-n.invariant in
    let h = c.loop-n-test.false in
    runs_done (rows_of c.args.plan.now) c.loop-n.n c.args.draft.now c.loop-n.draft (omega arith) i.1
