use Rattle.std.proofs.Common.{◌≡◌, leb, ◌∙◌, rules}
use Rattle.std.specs.List.{count_by}
use Rattle.writer.proofs.Changes.{new_counted}
use Rattle.writer.proofs.change.count_new.Goals as goal

pub returns-clause-is : goal.returns-clause-is
returns-clause-is c = λ pool.
    let e : c.count.result ≡ count_by (λ x. leb c.args.size x.number) c.args.changes.now = search rules in
    e ∙ new_counted c.args.size pool c.args.changes.now
