use Rattle.std.proofs.Common.{◌≡◌, ◌+◌, ◌-◌, ◌≤◌, take, drop, sym, refl, ap, ◌∙◌, zero-le, arith}
use Rattle.format.specs.Bytes.{same}
use Rattle.entries.specs.Cells.{part}
use Rattle.book.proofs.Sames.{alike, stretch_alike, unlike}
use Rattle.book.proofs.parts.same_parts.Goals as goal

pub loop-done-init : goal.loop-done-init
unfolding same
loop-done-init g c = (zero-le, refl, refl, refl)

pub loop-done-preserved : goal.loop-done-preserved
loop-done-preserved g c =
    let bytes = (g.S.Store.meaning c.args.store.now).bytes in
    let m = c.min-many.result in
    let whole : 2048 ≡ m = omega (arith, c.min-many.ensures) in
    let one : m ≤ c.read-one.result = omega (arith, c.min-many.ensures, c.read-one.ensures.count_is, c.requires.first) in
    let other : m ≤ c.read-other.result = omega (arith, c.min-many.ensures, c.read-other.ensures.count_is, c.requires.second, c.requires.even) in
    let e = stretch_alike bytes _ _ _ _ c.args.a.start c.args.b.start c.loop-done.done m _ _ _ one other (omega (arith, c.requires.first)) (omega (arith, c.requires.second, c.requires.even)) c.read-one.ensures c.read-other.ensures c.loop-done.invariant.3 c.if-not-same_bytes.ensures in (
      omega arith,
      omega (arith, c.read-one.auto.buffer),
      omega (arith, c.read-other.auto.buffer),
      ap (λ n. alike bytes c.args.a.start c.args.b.start (c.loop-done.done + n)) whole ∙ e,
    )

pub returns-then-not-same_bytes : goal.returns-then-not-same_bytes
returns-then-not-same_bytes g c =
    let bytes = (g.S.Store.meaning c.args.store.now).bytes in
    let m = c.min-many.result in
    let count = c.args.a.end - c.args.a.start in
    let few : c.loop-done.done + m ≤ count = omega (arith, c.min-many.ensures) in
    let one : m ≤ c.read-one.result = omega (arith, c.min-many.ensures, c.read-one.ensures.count_is, c.requires.first) in
    let other : m ≤ c.read-other.result = omega (arith, c.min-many.ensures, c.read-other.ensures.count_is, c.requires.second, c.requires.even) in
    let f = stretch_alike bytes _ _ _ _ c.args.a.start c.args.b.start c.loop-done.done m _ _ _ one other (omega (arith, c.requires.first)) (omega (arith, c.requires.second, c.requires.even)) c.read-one.ensures c.read-other.ensures c.loop-done.invariant.3 c.if-not-same_bytes.ensures in
    let u = unlike bytes c.args.a.start c.args.b.start (c.loop-done.done + m) count few (omega (arith, c.requires.first)) (omega (arith, c.requires.second, c.requires.even)) f in
    sym u ∙ ap (λ n. same (part bytes c.args.a.start c.args.a.end) (take n (drop c.args.b.start bytes))) c.requires.even

pub returns-else-not-same_bytes : goal.returns-else-not-same_bytes
returns-else-not-same_bytes g c =
    let bytes = (g.S.Store.meaning c.args.store.now).bytes in
    let m = c.min-many.result in
    let count = c.args.a.end - c.args.a.start in
    let all : c.loop-done.done + m ≡ count = omega (arith, c.min-many.ensures, c.loop-done-test.true) in
    let one : m ≤ c.read-one.result = omega (arith, c.min-many.ensures, c.read-one.ensures.count_is, c.requires.first) in
    let other : m ≤ c.read-other.result = omega (arith, c.min-many.ensures, c.read-other.ensures.count_is, c.requires.second, c.requires.even) in
    let e = stretch_alike bytes _ _ _ _ c.args.a.start c.args.b.start c.loop-done.done m _ _ _ one other (omega (arith, c.requires.first)) (omega (arith, c.requires.second, c.requires.even)) c.read-one.ensures c.read-other.ensures c.loop-done.invariant.3 c.if-not-same_bytes.ensures in
    sym e ∙ ap (alike bytes c.args.a.start c.args.b.start) all ∙ ap (λ n. same (part bytes c.args.a.start c.args.a.end) (take n (drop c.args.b.start bytes))) c.requires.even
