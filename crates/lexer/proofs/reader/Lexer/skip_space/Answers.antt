use Rattle.std.proofs.Common.{sym, arith}
use Rattle.lexer.proofs.Spaces.{comment_more, white_more, percent_more, space_stops, space_ends}
use Rattle.lexer.proofs.reader.Lexer.skip_space.Goals as goal
use Rattle.lexer.proofs.reader.Lexer.skip_space.Goals.{then-comment, else-comment+then-not-is_white+else-b-ne37, else-comment+else-not-is_white}

pub loop-at-preserved : goal.loop-at-preserved
loop-at-preserved c = (
  omega arith,
  omega arith,
  elim c.if-comment.branch [
    | then-comment w ↦ comment_more _ _ _ _ _ w.if-comment.true w.comment-is c.loop-at-test.true w.is_eol-comment.ensures c.loop-at.invariant.2
    | else-comment+then-not-is_white+else-b-ne37 w ↦ percent_more _ _ _ _ w.if-comment.false w.comment-is c.loop-at-test.true (sym w.if-not-is_white.ensures) w.if-b-ne37.false c.loop-at.invariant.2
    | else-comment+else-not-is_white w ↦ white_more _ _ _ _ w.if-comment.false w.comment-is c.loop-at-test.true (sym w.if-not-is_white.ensures) c.loop-at.invariant.2
  ],
)

pub returns-after-loop-at-clause-is : goal.returns-after-loop-at-clause-is
returns-after-loop-at-clause-is c = space_ends _ _ _ c.loop-at-test.false c.loop-at.invariant.2

pub returns-then-b-ne37-clause-is : goal.returns-then-b-ne37-clause-is
returns-then-b-ne37-clause-is c = space_stops _ _ _ c.if-comment.false c.loop-at-test.true (sym c.if-not-is_white.ensures) c.if-b-ne37.true c.loop-at.invariant.2
