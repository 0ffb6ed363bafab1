use Rattle.std.proofs.Common.{◌≡◌, ◌+◌, ◌≤◌, not, length, sym, ap, ◌∙◌, eq-eqb, le-leb, leb-true, leb-false, arith}
use Rattle.std.proofs.lemmas.Bool.{both_ways}
use Rattle.format.specs.Book.{is_worn_out}
use Rattle.format.specs.Updates.{new_numbers}
use Rattle.writer.specs.Helds.{update_of}
use Rattle.writer.proofs.Tables.{may_zero, may_past, may_worn, state_of}
use Rattle.writer.proofs.decisions.may_put.Goals as goal
use Rattle.writer.proofs.decisions.may_put.Goals.{then-n-ne0+then-n-size, then-n-ne0+else-n-size, else-n-ne0}

pub returns-then-n-size-2 : goal.returns-then-n-size-2
returns-then-n-size-2 c = λ file v t.
    let u = update_of c.args.held.now in
    let e : new_numbers v.size u ≡ new_numbers (length c.args.cells.now) u = ap (λ k. new_numbers k u) t.size in
    let l : (1 ≤ c.args.n) × (c.args.n ≤ v.size + new_numbers v.size u) =
    elim c.if-n-ne0.branch [
      | then-n-ne0+then-n-size w ↦ (omega (arith, w.if-n-ne0.true), omega (arith, w.if-n-size.true))
      | then-n-ne0+else-n-size w ↦ (omega (arith, w.if-n-ne0.true), omega (arith, w.if-n-size.false, w.new_numbers.ensures.is, leb-true _ _ (sym w.value-is ∙ c.if-n-size-2.true)))
      | else-n-ne0 w ↦ absurd (both_ways _ (w.value-is ∙ ap not (eq-eqb c.args.n 0 (omega (arith, w.if-n-ne0.false)))) c.if-n-size-2.true)
    ] in
    may_worn v u c.args.n c.is_worn_out.result l.0 l.1
    (c.is_worn_out.ensures file ∙ ap is_worn_out (sym (state_of file c.args.cells.now v c.args.n c.cell_at.result t c.cell_at.ensures)))

pub returns-else-n-size-2 : goal.returns-else-n-size-2
returns-else-n-size-2 c = λ file v t.
    let u = update_of c.args.held.now in
    let e : new_numbers v.size u ≡ new_numbers (length c.args.cells.now) u = ap (λ k. new_numbers k u) t.size in
    elim c.if-n-ne0.branch [
      | then-n-ne0+then-n-size w ↦ absurd (both_ways _ c.if-n-size-2.false (w.value-is ∙ le-leb c.args.n (length c.args.cells.now) (omega (arith, w.if-n-size.true))))
      | then-n-ne0+else-n-size w ↦ c.if-n-size-2.false ∙ may_past v u c.args.n (omega (arith, w.if-n-ne0.true)) (omega (arith, w.if-n-size.false, w.new_numbers.ensures.is, leb-false _ _ (sym w.value-is ∙ c.if-n-size-2.false)))
      | else-n-ne0 w ↦ c.if-n-size-2.false ∙ may_zero v u c.args.n (omega (arith, w.if-n-ne0.false))
    ]
