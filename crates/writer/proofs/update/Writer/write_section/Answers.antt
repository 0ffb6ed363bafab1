use Rattle.std.proofs.Common.{ℕ, ◌++◌, Some, sym, subst, arith}
use Rattle.format.specs.Writing.{prev_bytes, runs}
use Rattle.writer.specs.Drafts.{Adds}
use Rattle.writer.specs.Listing.{listed_at}
use Rattle.writer.specs.Pieces.{close_bytes, size_bytes}
use Rattle.writer.specs.Plans.{plan_count, rows_of}
use Rattle.writer.proofs.Copied.{read_some}
use Rattle.writer.proofs.Joined.{adds_then, adds_as}
use Rattle.writer.proofs.Pieces.{section_parts}
use Rattle.writer.proofs.update.Writer.write_section.Goals as goal

pub returns : goal.returns
returns c = λ es h.
    let P : ℕ → Type 0 = λ n. Adds c.copy_entries.new.draft (size_bytes n ++ (prev_bytes (Some c.args.newest.now.offset) ++ close_bytes c.args.at.value)) c.write_tail.new.draft in
    adds_as
    (adds_then c.section_line.ensures
    (adds_then c.write_runs.ensures.adds
    (adds_then c.trailer_lines.ensures
    (adds_then (c.copy_entries.ensures.adds es h) (subst P c.len-size.ensures c.write_tail.ensures)))))
    (sym (section_parts c.args.at.value (runs 0 (listed_at (rows_of c.args.self.now.plan) 0)) es (plan_count c.args.self.now.plan) (Some c.args.newest.now.offset)))

pub write_tail-requires : goal.write_tail-requires
write_tail-requires c =
    let y = read_some c.args.newest.now.window.now c.args.newest.now.inside c.args.newest.now.readable in
    let a = c.section_line.ensures in
    let b = c.write_runs.ensures in
    let d = c.trailer_lines.ensures in
    let e = c.copy_entries.ensures.adds y.0 y.1 in
    let l = e.limit in
    let k = d.limit in
    let j = b.adds.limit in
    let i = a.limit in
    let p = a.grown in
    let q = b.grown in
    let r = d.grown in
    let s = c.copy_entries.ensures.grown in
    let w = c.args.newest.now.narrow in
    let o = c.args.newest.now.placed in
    let m = c.requires in
    omega arith

pub invariant_of-self : goal.invariant_of-self
invariant_of-self c =
    let y = read_some c.args.newest.now.window.now c.args.newest.now.inside c.args.newest.now.readable in
    let a = c.section_line.ensures.limit in
    let b = c.write_runs.ensures.adds.limit in
    let d = c.trailer_lines.ensures.limit in
    let e = (c.copy_entries.ensures.adds y.0 y.1).limit in
    let f = c.write_tail.ensures.limit in
    let m = c.args.self.now.room in
    omega arith
