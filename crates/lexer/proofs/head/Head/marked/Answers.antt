use Rattle.lexer.proofs.Starts.{reads_as, one_byte_fact, on_slash, on_bracket, on_less, on_greater, on_open, on_close, on_stray}
use Rattle.std.proofs.Common.{arith}
use Rattle.lexer.proofs.head.Head.marked.Goals as goal

pub returns-in-47-clause-is : goal.returns-in-47-clause-is
returns-in-47-clause-is c = reads_as _ _ _ _ _ (on_slash _ _ _ (omega arith)) c.name.ensures.is

pub returns-in-40-clause-is : goal.returns-in-40-clause-is
returns-in-40-clause-is c = reads_as _ _ _ _ _ (on_bracket _ _ _ (λ h. omega arith) (omega arith)) c.text.ensures.is

pub returns-in-60-clause-is : goal.returns-in-60-clause-is
returns-in-60-clause-is c = reads_as _ _ _ _ _ (on_less _ _ _ (λ h. omega arith) (λ h. omega arith) (omega arith)) c.less.ensures.is

pub returns-in-62-clause-is : goal.returns-in-62-clause-is
returns-in-62-clause-is c =
    reads_as _ _ _ _ _ (on_greater _ _ _ (λ h. omega arith) (λ h. omega arith) (λ h. omega arith) (omega arith)) c.greater.ensures.is

pub returns-in-91-clause-is : goal.returns-in-91-clause-is
returns-in-91-clause-is c =
    one_byte_fact _ _ _ (on_open _ _ _ (λ h. omega arith) (λ h. omega arith) (λ h. omega arith) (λ h. omega arith) (omega arith))

pub returns-in-93-clause-is : goal.returns-in-93-clause-is
returns-in-93-clause-is c =
    one_byte_fact _ _ _ (on_close _ _ _ (λ h. omega arith) (λ h. omega arith) (λ h. omega arith) (λ h. omega arith) (λ h. omega arith) (omega arith))

pub returns-in_default-clause-is : goal.returns-in_default-clause-is
returns-in_default-clause-is c =
    on_stray _ _ _ (λ h. omega arith) (λ h. omega arith) (λ h. omega arith) (λ h. omega arith) (λ h. omega arith) (λ h. omega arith)
