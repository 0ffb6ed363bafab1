use Rattle.std.proofs.Common.{◌+◌, Some, sym, ap, ◌∙◌}
use Rattle.format.specs.Writing.{entry_for, free_slot}
use Rattle.writer.specs.declared.plan.Planned.TheVariants.{Kept, Vacant, Wrote, Freed}
use Rattle.writer.specs.Planned.{cell_of}
use Rattle.writer.specs.Plans.{rows_of}
use Rattle.writer.proofs.Listing.{entry_at, next_in, kept_entry, wrote_entry, freed_entry}
use Rattle.writer.proofs.listed.entry_of.Goals as goal

pub returns-in-Kept : goal.returns-in-Kept
returns-in-Kept c =
    let plan = rows_of c.args.plan.now in
    let n = c.args.n in
    entry_at plan _ n Kept _ c.as_slice.ensures c.requires c.in-Kept.is (kept_entry n (next_in plan (n + 1)))

pub returns-in-Vacant : goal.returns-in-Vacant
returns-in-Vacant c =
    let plan = rows_of c.args.plan.now in
    let n = c.args.n in
    let x = Vacant c.in-Vacant.generation c.in-Vacant.next in
    entry_at plan _ n x _ c.as_slice.ensures c.requires c.in-Vacant.is (ap (λ l. entry_for n l (cell_of x)) (sym c.next_free.ensures) ∙ sym c.vacant_entry.ensures)

pub returns-in-Wrote : goal.returns-in-Wrote
returns-in-Wrote c =
    let plan = rows_of c.args.plan.now in
    let n = c.args.n in
    entry_at plan _ n (Wrote c.in-Wrote.generation c.in-Wrote.offset) _ c.as_slice.ensures c.requires c.in-Wrote.is (wrote_entry n (next_in plan (n + 1)) c.in-Wrote.generation c.in-Wrote.offset)

pub returns-in-Freed : goal.returns-in-Freed
returns-in-Freed c =
    let plan = rows_of c.args.plan.now in
    let n = c.args.n in
    let g = c.in-Freed.generation in
    entry_at plan _ n (Freed g) _ c.as_slice.ensures c.requires c.in-Freed.is
    (freed_entry n (next_in plan (n + 1)) g ∙ ap (λ l. Some (free_slot l g)) (sym c.next_free-in-Freed.ensures))
