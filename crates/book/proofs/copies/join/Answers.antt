use Rattle.std.proofs.Common.{◌≡◌, ◌+◌, ◌≤◌, arith}
use Rattle.book.proofs.Copied.{stretch_joined}
use Rattle.book.proofs.copies.join.Goals as goal

pub loop-place-preserved : goal.loop-place-preserved
loop-place-preserved g c =
    let few : c.min-count.result ≤ c.read.result = omega (arith, c.min-count.ensures) in
    let past : c.loop-place.place + c.min-count.result ≡ c.loop-place.place + 4096 = omega (arith, c.min-count.ensures, c.read.ensures.count_is, c.loop-place.invariant.1, c.requires.inside) in (
      omega arith,
      omega (arith, c.read.auto.buffer),
      stretch_joined _ _ _ (g.S.Store.meaning c.args.store.now).bytes _ _ c.loop-place.place c.read.result c.min-count.result _ c.append.result c.loop-place.invariant.2 c.read.ensures few past (omega (arith, c.requires.inside)) (omega (arith, c.requires.room)) c.append.ensures,
    )

pub returns-2 : goal.returns-2
returns-2 g c =
    let few : c.min-count.result ≤ c.read.result = omega (arith, c.min-count.ensures) in
    let past : c.loop-place.place + c.min-count.result ≡ c.args.end = omega (arith, c.min-count.ensures, c.read.ensures.count_is, c.loop-place.invariant.1, c.requires.inside, c.loop-place-test.true) in
    stretch_joined _ _ _ (g.S.Store.meaning c.args.store.now).bytes _ _ c.loop-place.place c.read.result c.min-count.result _ c.append.result c.loop-place.invariant.2 c.read.ensures few past c.requires.inside c.requires.room c.append.ensures
