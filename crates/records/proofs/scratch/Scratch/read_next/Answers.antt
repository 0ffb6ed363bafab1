use Rattle.std.proofs.Common.{Err, sym, ap, ◌∙◌}
use Rattle.records.proofs.Answering.{handed}
use Rattle.records.proofs.Chaining.{next_bad, next_no_prev, next_no_end, next_read}
use Rattle.records.proofs.scratch.Scratch.read_next.Goals as goal

pub returns-in_err-link-clause-is : goal.returns-in_err-link-clause-is
returns-in_err-link-clause-is g c =
    let z = handed c.from_residual.result c.in_err-link.field-0.0 c.from_residual.ensures.1 in
    rw z (next_bad (g.S.Store.meaning c.args.store.now).bytes c.args.offset c.args.ending c.in_err-link.field-0.0 c.in_err-link.ensures.is)

pub returns-in_err-before-clause-is : goal.returns-in_err-before-clause-is
returns-in_err-before-clause-is g c =
    let z = handed c.from_residual-in_err-before.result c.in_err-before.field-0.0 c.from_residual-in_err-before.ensures.1 in
    rw z (next_no_prev (g.S.Store.meaning c.args.store.now).bytes c.args.offset c.args.ending c.read_link.new.self.rows c.in_ok-link.link c.in_ok-link.ensures.is c.in_err-before.field-0.0 c.in_err-before.ensures)

pub returns-then-not-may_end-clause-is : goal.returns-then-not-may_end-clause-is
returns-then-not-may_end-clause-is g c =
    next_no_end (g.S.Store.meaning c.args.store.now).bytes c.args.offset c.args.ending c.read_link.new.self.rows c.in_ok-link.link c.in_ok-link.ensures.is c.in_ok-before.before c.in_ok-before.ensures (sym c.if-not-may_end.ensures)
    ∙ ap Err (sym c.broken_rule.ensures)

pub returns-clause-is : goal.returns-clause-is
returns-clause-is g c =
    next_read (g.S.Store.meaning c.args.store.now).bytes c.args.offset c.args.ending c.read_link.new.self.rows c.in_ok-link.link c.in_ok-link.ensures.is c.in_ok-before.before c.in_ok-before.ensures (sym c.if-not-may_end.ensures)
