use Rattle.std.proofs.Common.{◌≡◌, ◌-◌, ◌++◌, length, drop, refl, ap, ◌∙◌, arith, length-drop, length-take}
use Rattle.entries.specs.Cells.{part}
use Rattle.format.specs.Questions.{fill_start}
use Rattle.book.proofs.copies.body_into.Goals as goal

pub returns : goal.returns
unfolding fill_start
returns g c =
    let file = (g.S.Store.meaning c.args.store.now).bytes in
    let b = part file c.args.body.start c.args.body.end in
    let l : c.args.body.end - c.args.body.start ≡ length b = simp (length-take, length-drop) (omega (arith, c.requires)) in
    (omega arith, refl, c.fill.ensures ∙ ap (λ k. b ++ drop k c.args.buffer.now) l)
