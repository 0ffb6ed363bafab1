use Rattle.std.proofs.Common.{[], Err, sym, ap, ◌∙◌, arith}
use Rattle.faults.specs.declared.reason.Reason.TheVariants.{NoTail}
use Rattle.format.specs.Chain.{walk}
use Rattle.format.specs.Failures.{chain_fault}
use Rattle.format.specs.Revisions.{most_revisions}
use Rattle.records.specs.declared.chain.Ending.TheVariants.{At}
use Rattle.records.specs.Chained.{may_end}
use Rattle.records.specs.Tabled.{cells_held, revisions_held}
use Rattle.records.proofs.Answering.{handed}
use Rattle.records.proofs.Openings.{open_long, open_headless, open_tailless, open_unchained, open_unread, open_read}
use Rattle.records.proofs.open.open_file.Goals as goal

pub returns-then-length-gt-FILE_BYTES-clause-is : goal.returns-then-length-gt-FILE_BYTES-clause-is
returns-then-length-gt-FILE_BYTES-clause-is g c =
    open_long (g.S.Store.meaning c.args.store.now).bytes (omega arith) ∙ ap Err (sym c.met.ensures)

pub returns-then-not-has_header-clause-is : goal.returns-then-not-has_header-clause-is
returns-then-not-has_header-clause-is g c =
    open_headless (g.S.Store.meaning c.args.store.now).bytes (omega arith) (sym c.if-not-has_header.ensures) ∙ ap Err (sym c.met-then-not-has_header.ensures)

pub returns-in_default-clause-is : goal.returns-in_default-clause-is
returns-in_default-clause-is g c =
    open_tailless (g.S.Store.meaning c.args.store.now).bytes (omega arith) (sym c.if-not-has_header.ensures) (sym c.in_default.is ∙ c.newest_offset.ensures)
    ∙ ap (λ n. Err (chain_fault NoTail n 0)) (sym c.len-length.ensures) ∙ ap Err (sym c.met-in_default.ensures)

pub returns-in_err-walk-clause-is : goal.returns-in_err-walk-clause-is
returns-in_err-walk-clause-is g c =
    let z = handed c.from_residual.result c.in_err-walk.field-0.0 c.from_residual.ensures.1 in
    rw z (open_unchained (g.S.Store.meaning c.args.store.now).bytes (omega arith) (sym c.if-not-has_header.ensures) c.in-Some.newest c.in-Some.ensures c.in_err-walk.field-0.0 (ap (λ n. walk most_revisions (g.S.Store.meaning c.args.store.now).bytes c.in-Some.newest (may_end (At n)) []) (sym c.len-length.ensures) ∙ c.in_err-walk.ensures))

pub returns-in_err-read_revisions-clause-is : goal.returns-in_err-read_revisions-clause-is
returns-in_err-read_revisions-clause-is g c =
    let z = handed c.from_residual-in_err-read_revisions.result c.in_err-read_revisions.field-0.0 c.from_residual-in_err-read_revisions.ensures.1 in
    let w = c.in_ok-walk.ensures in
    rw z (open_unread (g.S.Store.meaning c.args.store.now).bytes (omega arith) (sym c.if-not-has_header.ensures) c.in-Some.newest c.in-Some.ensures w.0 (ap (λ n. walk most_revisions (g.S.Store.meaning c.args.store.now).bytes c.in-Some.newest (may_end (At n)) []) (sym c.len-length.ensures) ∙ w.1) c.in_err-read_revisions.field-0.0 (c.in_err-read_revisions.ensures.is w.0 w.2))

pub returns-clause-is : goal.returns-clause-is
returns-clause-is g c =
    let w = c.in_ok-walk.ensures in
    open_read (g.S.Store.meaning c.args.store.now).bytes (omega arith) (sym c.if-not-has_header.ensures) c.in-Some.newest c.in-Some.ensures w.0 (ap (λ n. walk most_revisions (g.S.Store.meaning c.args.store.now).bytes c.in-Some.newest (may_end (At n)) []) (sym c.len-length.ensures) ∙ w.1) c.len.result (revisions_held c.read_revisions.new.tables) (cells_held c.read_revisions.new.tables) c.len.ensures (c.in_ok-read_revisions.ensures.is w.0 w.2)
