use Rattle.std.proofs.Common.{sym, arith}
use Rattle.format.specs.Bytes.{is_regular}
use Rattle.lexer.proofs.RunsByStep.{run_none, run_more, run_stops, run_ends}
use Rattle.lexer.proofs.reader.Lexer.run_end.Goals as goal

pub loop-at-init : goal.loop-at-init
loop-at-init c = (omega arith, omega arith, run_none is_regular _ _)

pub loop-at-preserved : goal.loop-at-preserved
loop-at-preserved c = (omega arith, omega arith, run_more is_regular _ _ _ c.loop-at.invariant.0 c.loop-at-test.true (sym c.if-is_regular.ensures) c.loop-at.invariant.2)

pub returns-else-is_regular-clause-is : goal.returns-else-is_regular-clause-is
returns-else-is_regular-clause-is c = run_stops is_regular _ _ _ c.loop-at-test.true (sym c.if-is_regular.ensures) c.loop-at.invariant.2

pub returns-after-loop-at-clause-is : goal.returns-after-loop-at-clause-is
returns-after-loop-at-clause-is c = run_ends is_regular _ _ _ c.loop-at-test.false c.loop-at.invariant.2
