use Rattle.std.proofs.Common.{sym}
use Rattle.lexer.proofs.Starts.{reads_as, starts_run, starts_mark}
use Rattle.lexer.proofs.head.Head.start.Goals as goal

pub returns-then-is_regular-clause-is : goal.returns-then-is_regular-clause-is
returns-then-is_regular-clause-is c =
    reads_as _ _ _ _ _ (starts_run _ _ c.args.self.stands (sym c.if-is_regular.ensures)) c.run.ensures.is

pub returns-else-is_regular-clause-is : goal.returns-else-is_regular-clause-is
returns-else-is_regular-clause-is c =
    reads_as _ _ _ _ _ (starts_mark _ _ c.args.self.stands (sym c.if-is_regular.ensures)) c.marked.ensures.is
