use Rattle.std.proofs.Common.{◌≡◌, length, take, sym, arith}
use Rattle.std.proofs.lemmas.List.{length-take-le}
use Rattle.writer.proofs.Joined.{adds_none, adds_then, adds_as}
use Rattle.writer.proofs.Lengths.{entries_length}
use Rattle.writer.proofs.Pieces.{slots_none, slots_more}
use Rattle.writer.proofs.draft.Draft.entries.Goals as goal

pub loop-one-init : goal.loop-one-init
loop-one-init c = adds_as (adds_none c.args.self.now) (sym slots_none)

pub entry-requires : goal.entry-requires
entry-requires c =
    let i = c.loop-one.one-index in
    let es = c.args.all.now in
    let l : length (take i es) ≡ i = length-take-le i es (omega arith) in
    let k = entries_length (take i es) in
    omega arith

pub loop-one-preserved : goal.loop-one-preserved
loop-one-preserved c =
    adds_as (adds_then c.loop-one.invariant c.entry.ensures) (sym (slots_more c.args.all.now c.loop-one.one-index _ c.loop-one-test.true))
