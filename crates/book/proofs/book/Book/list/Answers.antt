use Rattle.std.proofs.Common.{length, Ok, sym, ap, ◌∙◌, arith}
use Rattle.entries.specs.Tables.{cells_of}
use Rattle.keeping.specs.Answering.{used_among}
use Rattle.keeping.proofs.Asked.{list_rows}
use Rattle.records.proofs.Answering.{handed}
use Rattle.book.specs.Asked.{listed}
use Rattle.book.proofs.Questioned.{list_refused, row_within, used_counted}
use Rattle.book.proofs.book.Book.list.Goals as goal

pub returns-in_err-row : goal.returns-in_err-row
returns-in_err-row g c =
    let z = handed c.from_residual.result c.in_err-row.field-0.0 c.from_residual.ensures.1 in
    ap listed z ∙ sym (list_refused _ c.args.k _ c.in_err-row.ensures)

pub cells_of-requires : goal.cells_of-requires
cells_of-requires g c =
    let r = c.in_ok-row.ensures in
    let w = row_within _ _ _ c.args.k c.in_ok-row.row r.0 r.1 in
    let l = ap length c.cells.ensures in
    omega (arith, w, l)

pub returns : goal.returns
returns g c =
    let r = c.in_ok-row.ensures in
    let q = c.in_ok-row.row in
    let n = c.used_in-in_use.ensures ∙ sym (used_counted _) ∙ ap used_among (c.cells_of.ensures ∙ ap (λ cs. cells_of cs q) c.cells.ensures) in
    ap (λ m. Ok (record { offset = q.offset; end = q.end; size = q.size; count = m })) n
    ∙ sym ((list_rows _ _ _ c.args.k r.0).some q r.1)
