use Rattle.std.proofs.Common.{◌≡◌, [], ◌∷◌, ◌++◌, length, sym, ap, ◌∙◌, arith, length-append}
use Rattle.entries.specs.Reserving.{items_of}
use Rattle.records.specs.Tabled.{cells_held, revisions_held}
use Rattle.records.specs.Trailers.{offsets_in}
use Rattle.records.proofs.Answering.{handed}
use Rattle.records.proofs.Openings.{reading_start, reading_stop, reading_on, reading_end, later}
use Rattle.records.proofs.Tabling.{tabled_none}
use Rattle.records.proofs.open.read_revisions.Goals as goal

pub loop-offset-init : goal.loop-offset-init
loop-offset-init g c =
    let none = ap length c.requires.revisions in (
      tabled_none (revisions_held c.args.tables.now) (cells_held c.args.tables.now) c.requires.revisions c.requires.cells,
      omega (arith, c.args.scratch.now.offsets.few),
      λ ls l. reading_start (g.S.Store.meaning c.args.store.now).bytes ls (offsets_in c.args.scratch.now) (revisions_held c.args.tables.now) (cells_held c.args.tables.now) c.requires.revisions c.requires.cells l,
    )

pub loop-offset-preserved : goal.loop-offset-preserved
loop-offset-preserved g c =
    let file = (g.S.Store.meaning c.args.store.now).bytes in
    let e = c.in_ok-read_revision.ensures.offsets in
    let n = ap (λ o. length (items_of o)) e in
    let p : offsets_in c.loop-offset.scratch ≡ offsets_in c.read_revision.new.scratch ++ c.in-Some.offset ∷ [] = c.in-Some.ensures.items ∙ ap (λ v. items_of v ++ c.in-Some.offset ∷ []) (sym e) in
    let l = ap length p ∙ length-append (offsets_in c.read_revision.new.scratch) (c.in-Some.offset ∷ []) in (
      c.in_ok-read_revision.ensures.tabled,
      omega (arith, l, n, c.in_ok-read_revision.ensures.grown),
      λ ls l.
          let r = c.loop-offset.invariant.2 ls l in
          let t = c.in_ok-read_revision.ensures.is r.h r.tables (later file ls (offsets_in c.read_revision.new.scratch) (offsets_in c.loop-offset.scratch) (revisions_held c.loop-offset.tables) (cells_held c.loop-offset.tables) c.in-Some.offset p r) in
          reading_on file ls (offsets_in c.read_revision.new.scratch) (offsets_in c.loop-offset.scratch) (revisions_held c.loop-offset.tables) (cells_held c.loop-offset.tables) c.in-Some.offset p r t.0 (revisions_held c.read_revision.new.tables) (cells_held c.read_revision.new.tables) t.1 t.2 t.3,
    )

pub returns-in_err-read_revision-clause-is : goal.returns-in_err-read_revision-clause-is
returns-in_err-read_revision-clause-is g c =
    let file = (g.S.Store.meaning c.args.store.now).bytes in
    let z = handed c.from_residual.result c.in_err-read_revision.field-0.0 c.from_residual.ensures.1 in
    let p : offsets_in c.loop-offset.scratch ≡ items_of c.pop.new.self ++ c.in-Some.offset ∷ [] = c.in-Some.ensures.items in
    rw z
    (λ ls l.
    let r = c.loop-offset.invariant.2 ls l in
    reading_stop file ls (items_of c.pop.new.self) (offsets_in c.loop-offset.scratch) (revisions_held c.loop-offset.tables) (cells_held c.loop-offset.tables) c.in-Some.offset p r c.in_err-read_revision.field-0.0
    (c.in_err-read_revision.ensures.is r.h r.tables (later file ls (items_of c.pop.new.self) (offsets_in c.loop-offset.scratch) (revisions_held c.loop-offset.tables) (cells_held c.loop-offset.tables) c.in-Some.offset p r)))

pub returns-clause-is : goal.returns-clause-is
returns-clause-is g c =
    λ ls l. reading_end (g.S.Store.meaning c.args.store.now).bytes ls (offsets_in c.loop-offset.scratch) (revisions_held c.loop-offset.tables) (cells_held c.loop-offset.tables) c.in_default.ensures.none (c.loop-offset.invariant.2 ls l)
