use Rattle.std.proofs.Common.{◌≡◌, ◌+◌, ◌∷◌, ◌++◌, [], Some, None, Err, length, sym, ap, ◌∙◌, arith, length-append}
use Rattle.entries.specs.Reserving.{items_of}
use Rattle.records.specs.declared.chain.Ending.TheVariants.{At, By}
use Rattle.records.specs.Trailers.{offsets_in}
use Rattle.records.proofs.Answering.{handed}
use Rattle.records.proofs.Chaining.{read_as, walk_stop, walk_last, walk_on, walk_out, walking_as}
use Rattle.records.proofs.scratch.Scratch.walk.Goals as goal

pub returns-in_err-before : goal.returns-in_err-before
returns-in_err-before g c =
    let z = handed c.from_residual.result c.in_err-before.field-0.0 c.from_residual.ensures.1 in
    rw z (walk_stop (g.S.Store.meaning c.args.store.now).bytes c.args.newest (length (offsets_in c.loop.self)) c.loop.offset (At c.args.length) c.loop.ending (offsets_in c.loop.self) (omega arith) c.loop.invariant.1 c.in_err-before.field-0.0 c.in_err-before.ensures.is)

pub returns-in_default : goal.returns-in_default
returns-in_default g c =
    let k = ap (λ o. length (items_of o)) c.in_ok-before.ensures.kept in
    let a : items_of c.push.new.self ≡ offsets_in c.loop.self ++ c.loop.offset ∷ [] = c.push.ensures ∙ ap (λ v. items_of v ++ c.loop.offset ∷ []) c.in_ok-before.ensures.kept in
    walk_last (g.S.Store.meaning c.args.store.now).bytes c.args.newest (length (offsets_in c.loop.self)) c.loop.offset (At c.args.length) c.loop.ending (offsets_in c.loop.self) (omega arith) c.loop.invariant.1 (items_of c.push.new.self) a (read_as (g.S.Store.meaning c.args.store.now).bytes c.loop.offset c.loop.ending c.in_ok-before.before None c.in_default.is c.in_ok-before.ensures.is)

pub loop-preserved : goal.loop-preserved
loop-preserved g c =
    let k = ap (λ o. length (items_of o)) c.in_ok-before.ensures.kept in
    let a : items_of c.push.new.self ≡ offsets_in c.loop.self ++ c.loop.offset ∷ [] = c.push.ensures ∙ ap (λ v. items_of v ++ c.loop.offset ∷ []) c.in_ok-before.ensures.kept in
    let l = ap length a ∙ length-append (offsets_in c.loop.self) (c.loop.offset ∷ []) in (
      l ∙ omega arith,
      walking_as (g.S.Store.meaning c.args.store.now).bytes c.args.newest (length (offsets_in c.loop.self) + 1) (length (items_of c.push.new.self)) c.in-Some.place (At c.args.length) (By c.loop.offset) (items_of c.push.new.self) (omega (arith, l))
          (walk_on (g.S.Store.meaning c.args.store.now).bytes c.args.newest (length (offsets_in c.loop.self)) c.loop.offset (At c.args.length) c.loop.ending (offsets_in c.loop.self) (omega arith) c.loop.invariant.1 (items_of c.push.new.self) c.in-Some.place a (read_as (g.S.Store.meaning c.args.store.now).bytes c.loop.offset c.loop.ending c.in_ok-before.before (Some c.in-Some.place) c.in-Some.is c.in_ok-before.ensures.is)),
    )

pub returns : goal.returns
returns g c =
    walk_out (g.S.Store.meaning c.args.store.now).bytes c.args.newest (length (offsets_in c.loop.self)) c.loop.offset (At c.args.length) c.loop.ending (offsets_in c.loop.self) (omega arith) c.loop.invariant.1 ∙ ap Err (sym c.met.ensures)
