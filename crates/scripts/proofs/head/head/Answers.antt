use Rattle.std.proofs.Common.{sym, ap, ◌∙◌, arith}
use Rattle.scripts.specs.Lines.{saying}
use Rattle.scripts.proofs.Words.{head_empty, head_comment, head_change, saying_read}
use Rattle.scripts.proofs.head.head.Goals as goal

pub returns-in-empty : goal.returns-in-empty
returns-in-empty c = sym (head_empty _ (omega arith))

pub returns-in-empty-2 : goal.returns-in-empty-2
returns-in-empty-2 c = sym (head_comment _ (omega arith) (omega arith))

pub returns-in_default : goal.returns-in_default
returns-in_default c =
    saying_read c.change_head.result c.map.result c.map.ensures.cases
    ∙ ap saying c.change_head.ensures
    ∙ sym (head_change _ (λ h. omega arith) (λ h. omega arith))
