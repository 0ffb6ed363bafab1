use Rattle.std.proofs.Common.{sym, refl, ap, ◌∙◌}
use Rattle.format.specs.Updates.{with_change}
use Rattle.scripts.specs.Rows.{rows_of}
use Rattle.scripts.proofs.Placed.{found_among, with_entry}
use Rattle.scripts.proofs.reading.add.Goals as goal

pub returns-then-contains_key : goal.returns-then-contains_key
returns-then-contains_key c =
    (sym (found_among c.args.found.number c.args.changes.now.entries) ∙ sym c.if-contains_key.ensures, refl)

pub returns : goal.returns
returns c =
    let n = c.args.found.number in
    let es = c.args.changes.now.entries in (
      sym (found_among n es) ∙ sym c.if-contains_key.ensures,
      ap rows_of c.in_ok-insert.ensures.entries ∙ with_entry n c.in_ok-change.change es ∙ ap (λ k. with_change n k (rows_of es)) c.in_ok-change.ensures,
    )
