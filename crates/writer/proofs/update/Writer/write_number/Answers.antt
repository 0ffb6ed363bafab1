use Rattle.std.proofs.Common.{◌+◌, [], ◌∷◌, ◌++◌, ap, ◌∙◌, arith}
use Rattle.std.specs.Option.{option_map}
use Rattle.entries.specs.Cells.{state_in, states_in}
use Rattle.format.specs.Revisions.{find, nth}
use Rattle.format.specs.Writing.{entry_gen}
use Rattle.writer.specs.Changes.{content_in}
use Rattle.writer.specs.Drafts.{count}
use Rattle.writer.specs.Helds.{pool_of, update_of}
use Rattle.writer.specs.Plans.{change_bytes, room_for, rows_of}
use Rattle.writer.proofs.Joined.{adds_as}
use Rattle.writer.proofs.Planning.{bytes_by_change, change_fits, planned_by, small_generation, state_by}
use Rattle.writer.proofs.update.Writer.write_number.Goals as goal

pub planned-requires : goal.planned-requires
planned-requires c =
    let e = ap (λ o. entry_gen (option_map (state_in []) o)) c.cell_at-before.ensures in
    let s = small_generation c.args.n [] c.args.newest.now.cells.now c.args.newest.now.generations in
    omega arith

pub returns-clause-writes : goal.returns-clause-writes
returns-clause-writes c = λ file.
    let n = c.args.n in
    let cs = c.args.newest.now.cells.now in
    let g = c.generation_of.result in
    let s = state_by file cs n c.cell_at-before.result c.cell_at-before.ensures in
    record {
      bytes = adds_as c.write_change.ensures
          (ap (change_bytes n g) c.find-change.ensures.is
          ∙ bytes_by_change n g (c.args.newest.now.len + count c.args.self.now.draft) (nth n (states_in file cs)) (find n (update_of c.args.held.now)) (c.generation_of.ensures file ∙ ap entry_gen s));
      rows = c.push.ensures
          ∙ ap (λ x. rows_of c.args.self.now.plan ++ x ∷ [])
          (c.planned.ensures file (pool_of c.args.held.now)
          ∙ planned_by _ _ _ _ _ _ (ap (λ k. c.args.newest.now.len + k) c.len.ensures) s c.find-change.ensures.is);
    }

pub returns-clause-grown : goal.returns-clause-grown
returns-clause-grown c =
    let e = ap room_for c.find-change.ensures.is in
    let fits = change_fits c.args.n c.generation_of.result (option_map (content_in (pool_of c.args.held.now)) c.find-change.result) (omega arith) (omega arith) in
    let grown = c.write_change.ensures.grown in
    omega arith
