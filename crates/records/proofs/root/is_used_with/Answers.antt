use Rattle.std.proofs.Common.{refl, rules}
use Rattle.format.specs.Revisions.{used_with}
use Rattle.records.proofs.root.is_used_with.Goals as goal

pub returns-in-Used : goal.returns-in-Used
unfolding used_with
returns-in-Used c = λ file. rw c.in-Used.is (search rules)

pub returns-in_default : goal.returns-in_default
unfolding used_with
returns-in_default c = λ file. rw c.in-Used.is (search rules)

pub returns-in_default-2 : goal.returns-in_default-2
unfolding used_with
returns-in_default-2 c = λ file. rw c.in_default.is refl
