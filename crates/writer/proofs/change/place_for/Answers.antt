use Rattle.std.proofs.Common.{length, ap, ◌∙◌}
use Rattle.std.specs.Option.{unwrap_or}
use Rattle.writer.proofs.Changes.{place_first}
use Rattle.writer.proofs.change.place_for.Goals as goal

pub returns-clause-is : goal.returns-clause-is
returns-clause-is c =
    let cs = c.args.changes.now in
    c.unwrap_or.ensures ∙ ap (λ o. unwrap_or o (length cs)) c.first_greater.ensures.is ∙ place_first c.args.n cs
