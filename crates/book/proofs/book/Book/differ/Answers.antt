use Rattle.std.proofs.Common.{length, Ok, sym, ap, ◌∙◌, arith}
use Rattle.entries.specs.Tables.{cells_of}
use Rattle.records.proofs.Answering.{handed}
use Rattle.book.specs.Books.{moment_of, revisions_in, cells_in}
use Rattle.book.proofs.Compared.{revision_of, lies, differ_first, differ_second, differ_by_cells}
use Rattle.book.proofs.Questioned.{body_found, row_within}
use Rattle.book.proofs.book.Book.differ.Goals as goal

pub returns-in_err-earlier : goal.returns-in_err-earlier
returns-in_err-earlier g c =
    let z = handed c.from_residual.result c.in_err-earlier.field-0.0 c.from_residual.ensures.1 in
    z ∙ sym (differ_first _ c.args.j c.args.k c.args.n _ c.in_err-earlier.ensures)

pub returns-in_err-later : goal.returns-in_err-later
returns-in_err-later g c =
    let r = c.in_ok-earlier.ensures in
    let m = moment_of g.S.Store.meaning c.args.self.now in
    let v = revision_of m (revisions_in c.args.self.now) (cells_in c.args.self.now) c.args.n c.args.j c.in_ok-earlier.earlier r.0 r.1 in
    let z = handed c.from_residual-in_err-later.result c.in_err-later.field-0.0 c.from_residual-in_err-later.ensures.1 in
    z ∙ sym (differ_second m c.args.j c.args.k c.args.n v.0 _ v.1 c.in_err-later.ensures)

pub cells_of-requires : goal.cells_of-requires
cells_of-requires g c =
    let r = c.in_ok-earlier.ensures in
    let w = row_within _ _ _ c.args.j c.in_ok-earlier.earlier r.0 r.1 in
    let l = ap length c.cells-cells.ensures in
    omega (arith, w, l)

pub cells_of-requires-2 : goal.cells_of-requires-2
cells_of-requires-2 g c =
    let r = c.in_ok-later.ensures in
    let w = row_within _ _ _ c.args.k c.in_ok-later.later r.0 r.1 in
    let l = ap length c.cells-cells.ensures in
    omega (arith, w, l)

pub compare-requires : goal.compare-requires
compare-requires g c =
    let r = c.in_ok-earlier.ensures in
    let s = c.in_ok-later.ensures in
    let m = moment_of g.S.Store.meaning c.args.self.now in
    let rs = revisions_in c.args.self.now in
    let cs = cells_in c.args.self.now in
    let x = body_found (cells_in c.args.self.now) c.cells_of.result.now c.in_ok-earlier.earlier c.args.n c.body_of-before.result (c.cells_of.ensures ∙ ap (λ cs. cells_of cs c.in_ok-earlier.earlier) c.cells-cells.ensures) (row_within _ _ _ c.args.j c.in_ok-earlier.earlier r.0 r.1) c.body_of-before.ensures in
    let y = body_found (cells_in c.args.self.now) c.cells_of-2.result.now c.in_ok-later.later c.args.n c.body_of-after.result (c.cells_of-2.ensures ∙ ap (λ cs. cells_of cs c.in_ok-later.later) c.cells-cells.ensures) (row_within _ _ _ c.args.k c.in_ok-later.later s.0 s.1) c.body_of-after.ensures in
    record {
      first = lies m rs cs c.args.j c.args.n c.in_ok-earlier.earlier _ r.0 r.1 x;
      second = lies m rs cs c.args.k c.args.n c.in_ok-later.later _ s.0 s.1 y;
    }

pub returns : goal.returns
returns g c =
    let r = c.in_ok-earlier.ensures in
    let s = c.in_ok-later.ensures in
    let m = moment_of g.S.Store.meaning c.args.self.now in
    let rs = revisions_in c.args.self.now in
    let cs = cells_in c.args.self.now in
    let x = body_found (cells_in c.args.self.now) c.cells_of.result.now c.in_ok-earlier.earlier c.args.n c.body_of-before.result (c.cells_of.ensures ∙ ap (λ cs. cells_of cs c.in_ok-earlier.earlier) c.cells-cells.ensures) (row_within _ _ _ c.args.j c.in_ok-earlier.earlier r.0 r.1) c.body_of-before.ensures in
    let y = body_found (cells_in c.args.self.now) c.cells_of-2.result.now c.in_ok-later.later c.args.n c.body_of-after.result (c.cells_of-2.ensures ∙ ap (λ cs. cells_of cs c.in_ok-later.later) c.cells-cells.ensures) (row_within _ _ _ c.args.k c.in_ok-later.later s.0 s.1) c.body_of-after.ensures in
    ap Ok c.compare.ensures
    ∙ sym (differ_by_cells m rs cs c.args.j c.args.k c.args.n c.in_ok-earlier.earlier c.in_ok-later.later _ _ r.0 r.1 s.1 x y)
