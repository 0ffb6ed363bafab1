use Rattle.std.proofs.Common.{sym, ap, arith}
use Rattle.format.specs.Tokens.{stray}
use Rattle.lexer.specs.Endings.{span_flaw}
use Rattle.lexer.proofs.Cases.{handed}
use Rattle.lexer.proofs.Literals.{left_ends, left_closes, left_part, left_part_flawed, left_escaped, left_plain, too_deep, left_all}
use Rattle.lexer.proofs.head.Head.+literal_end.Goals as goal

pub returns-then-depth-eq0-clause-is : goal.returns-then-depth-eq0-clause-is
returns-then-depth-eq0-clause-is t c = ap (span_flaw (λ q. stray) c.args.self.src.now) (sym (too_deep _ _ _ c.if-depth-eq0.true))

pub inside-init : goal.inside-init
inside-init t c = (omega arith, left_all _ _ _ c.if-depth-eq0.false (omega arith))

pub returns-then-b-eq41-clause-is : goal.returns-then-b-eq41-clause-is
returns-then-b-eq41-clause-is t c = left_closes _ _ _ _ c.inside-test.true c.if-b-eq41.true c.inside.invariant.1

pub returns-in_err-at-clause-is : goal.returns-in_err-at-clause-is
returns-in_err-at-clause-is t c =
    let z = handed c.from_residual.result c.in_err-at.field-0.0 c.from_residual.ensures.1 in
    rw z (left_part_flawed _ _ _ _ c.inside-test.true c.if-b-eq41.false (λ q. stray) _ c.if-b-eq40.true c.in_err-at.ensures.is c.inside.invariant.1)

pub inside-preserved-then-b-eq40 : goal.inside-preserved-then-b-eq40
inside-preserved-then-b-eq40 t c =
    let told = c.in_ok-at.ensures in
    (omega (arith, told.within.0), left_part _ _ _ _ c.inside-test.true c.if-b-eq41.false _ c.if-b-eq40.true (sym told.is) told.within.0 c.inside.invariant.1)

pub inside-preserved-then-b-eq92 : goal.inside-preserved-then-b-eq92
inside-preserved-then-b-eq92 t c = (omega arith, left_escaped _ _ _ _ c.inside-test.true c.if-b-eq41.false c.if-b-eq40.false c.if-b-eq92.true c.inside.invariant.1)

pub inside-preserved : goal.inside-preserved
inside-preserved t c = (omega arith, left_plain _ _ _ _ c.inside-test.true c.if-b-eq41.false c.if-b-eq40.false c.if-b-eq92.false c.inside.invariant.1)

pub returns-clause-is : goal.returns-clause-is
returns-clause-is t c = ap (span_flaw (λ q. stray) c.args.self.src.now) (left_ends _ _ _ _ c.inside-test.false c.inside.invariant.1)
