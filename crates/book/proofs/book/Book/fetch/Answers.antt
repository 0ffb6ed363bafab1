use Rattle.std.proofs.Common.{◌≡◌, ◌-◌, length, Some, Err, sym, refl, ap, ◌∙◌, subst, arith, length-drop, length-take}
use Rattle.keeping.proofs.Asked.{fetch_cells}
use Rattle.entries.specs.Cells.{part}
use Rattle.entries.specs.Tables.{cells_of}
use Rattle.records.proofs.Answering.{handed}
use Rattle.book.specs.Books.{moment_of, revisions_in, cells_in}
use Rattle.book.specs.Copies.{BodyInto}
use Rattle.book.proofs.Questioned.{body_found, fetch_refused, no_body_found, row_within, unused, too_short, fetched}
use Rattle.book.proofs.book.Book.fetch.Goals as goal

pub returns-in_err-row : goal.returns-in_err-row
returns-in_err-row g c =
    let z = handed c.from_residual.result c.in_err-row.field-0.0 c.from_residual.ensures.1 in
    rw z (fetch_refused _ c.args.k c.args.n _ _ c.in_err-row.ensures, refl)

pub cells_of-own-requires : goal.cells_of-own-requires
cells_of-own-requires g c =
    let r = c.in_ok-row.ensures in
    let w = row_within _ _ _ c.args.k c.in_ok-row.row r.0 r.1 in
    let l = ap length c.cells.ensures in
    omega (arith, w, l)

pub body_into-requires : goal.body_into-requires
body_into-requires g c =
    let r = c.in_ok-row.ensures in
    let m = moment_of g.S.Store.meaning c.args.self.now in
    let a = body_found (cells_in c.args.self.now) c.cells_of-own.result.now c.in_ok-row.row c.args.n (Some c.in-Some.body) (c.cells_of-own.ensures ∙ ap (λ cs. cells_of cs c.in_ok-row.row) c.cells.ensures) (row_within _ _ _ c.args.k c.in_ok-row.row r.0 r.1) c.in-Some.ensures in
    let e = (fetch_cells m (revisions_in c.args.self.now) (cells_in c.args.self.now) c.args.k c.args.n 0 r.0).ends c.in_ok-row.row _ r.1 a in
    e

pub returns-in_err-length : goal.returns-in_err-length
returns-in_err-length g c =
    let r = c.in_ok-row.ensures in
    let m = moment_of g.S.Store.meaning c.args.self.now in
    let a = body_found (cells_in c.args.self.now) c.cells_of-own.result.now c.in_ok-row.row c.args.n (Some c.in-Some.body) (c.cells_of-own.ensures ∙ ap (λ cs. cells_of cs c.in_ok-row.row) c.cells.ensures) (row_within _ _ _ c.args.k c.in_ok-row.row r.0 r.1) c.in-Some.ensures in
    let z = handed c.from_residual-in_err-length.result c.in_err-length.field-0.0 c.from_residual-in_err-length.ensures.1 in
    let b = subst (λ x. BodyInto (part (g.S.Store.meaning c.args.self.now.store).bytes c.in-Some.body.start c.in-Some.body.end) (c.in-Some.body.end - c.in-Some.body.start) c.args.n c.args.buffer.now x c.body_into.new.buffer) c.in_err-length.was c.body_into.ensures in
    rw z (too_short m (revisions_in c.args.self.now) (cells_in c.args.self.now) c.args.k c.args.n _ _ _ _ c.in_ok-row.row r.0 r.1 a b.0 ∙ ap Err (sym b.1), b.2)

pub returns : goal.returns
returns g c =
    let r = c.in_ok-row.ensures in
    let m = moment_of g.S.Store.meaning c.args.self.now in
    let a = body_found (cells_in c.args.self.now) c.cells_of-own.result.now c.in_ok-row.row c.args.n (Some c.in-Some.body) (c.cells_of-own.ensures ∙ ap (λ cs. cells_of cs c.in_ok-row.row) c.cells.ensures) (row_within _ _ _ c.args.k c.in_ok-row.row r.0 r.1) c.in-Some.ensures in
    let b = subst (λ x. BodyInto (part (g.S.Store.meaning c.args.self.now.store).bytes c.in-Some.body.start c.in-Some.body.end) (c.in-Some.body.end - c.in-Some.body.start) c.args.n c.args.buffer.now x c.body_into.new.buffer) c.in_ok-length.was c.body_into.ensures in
    let e = (fetch_cells m (revisions_in c.args.self.now) (cells_in c.args.self.now) c.args.k c.args.n 0 r.0).ends c.in_ok-row.row _ r.1 a in
    let file = (g.S.Store.meaning c.args.self.now.store).bytes in
    let l : c.in-Some.body.end - c.in-Some.body.start ≡ length (part file c.in-Some.body.start c.in-Some.body.end) = simp (length-take, length-drop) (omega (arith, e.0, e.1)) in
    (part file c.in-Some.body.start c.in-Some.body.end, fetched m (revisions_in c.args.self.now) (cells_in c.args.self.now) c.args.k c.args.n _ _ _ _ c.in_ok-row.row r.0 r.1 a b.0, b.1 ∙ l, b.2)

pub returns-in_default : goal.returns-in_default
returns-in_default g c =
    let r = c.in_ok-row.ensures in
    let m = moment_of g.S.Store.meaning c.args.self.now in
    let f = body_found (cells_in c.args.self.now) c.cells_of-own.result.now c.in_ok-row.row c.args.n c.body_of.result (c.cells_of-own.ensures ∙ ap (λ cs. cells_of cs c.in_ok-row.row) c.cells.ensures) (row_within _ _ _ c.args.k c.in_ok-row.row r.0 r.1) c.body_of.ensures in
    let a = no_body_found _ c.in_ok-row.row c.args.n c.body_of.result f c.in_default.not-Some in
    (unused m (revisions_in c.args.self.now) (cells_in c.args.self.now) c.args.k c.args.n _ c.in_ok-row.row r.0 r.1 a ∙ ap Err (sym c.refused.ensures), refl)
