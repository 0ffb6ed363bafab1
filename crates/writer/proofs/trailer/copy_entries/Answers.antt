use Rattle.std.proofs.Common.{sym, refl, ◌∙◌, arith}
use Rattle.writer.proofs.Copied.{first, copying_start, copying_step, copying_done, copy_fits}
use Rattle.writer.proofs.trailer.copy_entries.Goals as goal

pub entries-init : goal.entries-init
entries-init c = (λ es h. copying_start c.args.src.now c.args.inside es c.args.draft.now h, omega arith, omega arith, refl)

pub copy_entry-requires : goal.copy_entry-requires
copy_entry-requires c =
    let i = c.entries.invariant in
    let was = i.0 c.requires.readable.0 c.requires.readable.1 in
    let one = first c.args.src.now c.entries.at was.rest c.in-Some.one was.behind (sym c.in-Some.ensures) in
    let e = one.lies.ends in
    let s = one.starts in
    let r = c.requires.room in
    record { lies = one.lies; room = omega arith }

pub entries-smaller : goal.entries-smaller
entries-smaller c =
    let i = c.entries.invariant in
    let was = i.0 c.requires.readable.0 c.requires.readable.1 in
    let one = first c.args.src.now c.entries.at was.rest c.in-Some.one was.behind (sym c.in-Some.ensures) in
    let a = one.lies.ends in
    let b = one.lies.named in
    let d = one.lies.apart in
    let e = one.lies.valued in
    let s = one.starts in
    omega arith

pub entries-preserved : goal.entries-preserved
entries-preserved c =
    let i = c.entries.invariant in
    let src = c.args.src.now in
    let was = i.0 c.requires.readable.0 c.requires.readable.1 in
    let one = first src c.entries.at was.rest c.in-Some.one was.behind (sym c.in-Some.ensures) in
    let e = one.lies.ends in
    let s = one.starts in
    let f = copy_fits src c.in-Some.one one.lies in
    let g = c.copy_entry.ensures.grown in (
      λ es h. copying_step src c.entries.at es c.in-Some.one c.args.draft.now c.entries.draft c.copy_entry.new.draft (i.0 es h) (sym c.in-Some.ensures) c.copy_entry.ensures,
      omega arith,
      omega arith,
      c.copy_entry.ensures.limit ∙ i.3,
    )

pub returns-clause-adds : goal.returns-clause-adds
returns-clause-adds c = λ es h.
    let i = c.entries.invariant in
    copying_done c.args.src.now c.entries.at es c.args.draft.now c.entries.draft (i.0 es h) (sym c.in_default.ensures) i.3
