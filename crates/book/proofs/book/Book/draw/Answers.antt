use Rattle.std.proofs.Common.{take, Ok, Err, sym, refl, ap, ◌∙◌, arith}
use Rattle.std.proofs.lemmas.Bool.{le-leb, lt-leb}
use Rattle.faults.specs.declared.reason.Reason.TheVariants.{NoSpace}
use Rattle.faults.specs.Faults.{refused}
use Rattle.format.specs.Chain.{must}
use Rattle.keeping.proofs.Asked.{draw_rows}
use Rattle.records.proofs.Answering.{handed}
use Rattle.book.proofs.Questioned.{draw_refused}
use Rattle.book.proofs.book.Book.draw.Goals as goal

pub returns-in_err-row : goal.returns-in_err-row
returns-in_err-row g c =
    let z = handed c.from_residual.result c.in_err-row.field-0.0 c.from_residual.ensures.1 in
    rw z (draw_refused _ c.args.k _ _ c.in_err-row.ensures, refl)

pub returns-then-row-space : goal.returns-then-row-space
returns-then-row-space g c =
    let r = c.in_ok-row.ensures in
    let q = c.in_ok-row.row in
    let s = (g.T.Store.meaning c.args.out.now).space in
    let d = (draw_rows _ _ _ c.args.k s r.0).some q r.1 in
    let file = (g.S.Store.meaning c.args.self.now.store).bytes in
    (d ∙ ap (λ t. must t (refused NoSpace 0) (λ _. Ok (take q.end file))) (lt-leb q.end s (omega (arith, c.space.ensures))) ∙ ap Err (sym c.refused.ensures), refl)

pub join-requires-clause-inside : goal.join-requires-clause-inside
join-requires-clause-inside g c = let r = c.in_ok-row.ensures in (draw_rows _ _ _ c.args.k 0 r.0).short c.in_ok-row.row r.1

pub returns : goal.returns
returns g c =
    let r = c.in_ok-row.ensures in
    let q = c.in_ok-row.row in
    let s = (g.T.Store.meaning c.args.out.now).space in
    let d = (draw_rows _ _ _ c.args.k s r.0).some q r.1 in
    let file = (g.S.Store.meaning c.args.self.now.store).bytes in
    (_, d ∙ ap (λ t. must t (refused NoSpace 0) (λ _. Ok (take q.end file))) (le-leb q.end s (omega (arith, c.space.ensures))), c.join.ensures)
