use Rattle.std.proofs.Common.{Err, sym, ap, ◌∙◌}
use Rattle.std.proofs.lemmas.Bool.{eq-eqb, ne_eqb}
use Rattle.writer.specs.Helds.{update_of}
use Rattle.writer.proofs.Decided.{remove_unused, remove_root, remove_again, remove_full, remove_ok}
use Rattle.writer.proofs.Tables.{used_by}
use Rattle.writer.proofs.decisions.decide_remove.Goals as goal

pub returns-then-not-is_used : goal.returns-then-not-is_used
returns-then-not-is_used c = λ file v t h.
    let s = used_by file c.args.cells.now v c.args.n _ _ t c.cell_at.ensures (c.if-not-is_used.ensures file) in
    ap Err c.refused.ensures ∙ remove_unused v (update_of c.args.held.now) c.args.n s

pub returns-then-n-root : goal.returns-then-n-root
returns-then-n-root c = λ file v t h.
    let s = used_by file c.args.cells.now v c.args.n _ _ t c.cell_at.ensures (c.if-not-is_used.ensures file) in
    ap Err c.refused-then-n-root.ensures
    ∙ remove_root v (update_of c.args.held.now) c.args.n s (eq-eqb c.args.n v.root (c.if-n-root.true ∙ sym h))

pub returns-then-has : goal.returns-then-has
returns-then-has c = λ file v t h.
    let s = used_by file c.args.cells.now v c.args.n _ _ t c.cell_at.ensures (c.if-not-is_used.ensures file) in
    ap Err c.refused-then-has.ensures
    ∙ remove_again v (update_of c.args.held.now) c.args.n s (ne_eqb c.args.n v.root (λ e. c.if-n-root.false (e ∙ h))) (sym c.if-has.ensures)

pub returns-then-not-has_room : goal.returns-then-not-has_room
returns-then-not-has_room c = λ file v t h.
    let s = used_by file c.args.cells.now v c.args.n _ _ t c.cell_at.ensures (c.if-not-is_used.ensures file) in
    ap Err c.refused-then-not-has_room.ensures
    ∙ remove_full v (update_of c.args.held.now) c.args.n s (ne_eqb c.args.n v.root (λ e. c.if-n-root.false (e ∙ h))) (sym c.if-has.ensures) (sym c.if-not-has_room.ensures)

pub returns : goal.returns
returns c = λ file v t h.
    let s = used_by file c.args.cells.now v c.args.n _ _ t c.cell_at.ensures (c.if-not-is_used.ensures file) in
    remove_ok v (update_of c.args.held.now) c.args.n s (ne_eqb c.args.n v.root (λ e. c.if-n-root.false (e ∙ h))) (sym c.if-has.ensures) (sym c.if-not-has_room.ensures)
