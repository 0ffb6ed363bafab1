use Rattle.std.proofs.Common.{length, refl, ap, ◌∙◌, arith}
use Rattle.writer.specs.Helds.{update_of}
use Rattle.writer.proofs.Weights.{weight_step, weight_bound}
use Rattle.writer.proofs.Written.{halfway_start, halfway_step, halfway_all}
use Rattle.writer.proofs.update.Writer.write_objects.Goals as goal

pub loop-n-init : goal.loop-n-init
loop-n-init c =
    let b = weight_bound 0 c.args.held.now in (
      λ file. halfway_start file c.args.newest.now.cells.now (update_of c.args.held.now) c.args.newest.now.len c.args.size c.args.self.now.draft c.clear.new.self c.requires.empty c.clear.ensures,
      ap length c.clear.ensures,
      omega arith,
      refl,
    )

pub write_number-requires-clause-room : goal.write_number-requires-clause-room
write_number-requires-clause-room c =
    let i = c.loop-n.invariant in
    let w = weight_step c.loop-n.n (update_of c.args.held.now) in
    omega arith

pub loop-n-preserved : goal.loop-n-preserved
loop-n-preserved c =
    let i = c.loop-n.invariant in
    let w = weight_step c.loop-n.n (update_of c.args.held.now) in
    let e = c.write_number.ensures in (
      λ file. halfway_step file c.args.newest.now.cells.now (update_of c.args.held.now) c.args.newest.now.len c.args.size c.loop-n.n c.args.self.now.draft c.loop-n.self.draft c.write_number.new.self.draft c.loop-n.self.plan c.write_number.new.self.plan c.loop-n-test.true (i.0 file) (e.writes file),
      omega arith,
      omega arith,
      e.limit ∙ i.3,
    )

pub returns-clause-writes : goal.returns-clause-writes
returns-clause-writes c = λ file.
    let i = c.loop-n.invariant in
    halfway_all file c.args.newest.now.cells.now (update_of c.args.held.now) c.args.newest.now.len c.args.size c.loop-n.n c.args.self.now.draft c.loop-n.self.draft c.loop-n.self.plan c.loop-n-test.false i.3 (i.0 file)
