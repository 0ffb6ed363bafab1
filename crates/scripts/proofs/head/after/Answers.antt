use Rattle.std.proofs.lemmas.Slice.Eq.{strip_prefix_is}
use Rattle.scripts.proofs.Words.{after_is}
use Rattle.scripts.proofs.head.after.Goals as goal
use Rattle.std.proofs.lemmas.Bool.Decides.{Decides-eqb}

pub returns : goal.returns
returns c =
    after_is c.args.line.now c.args.word.now c.strip_prefix.result
    (strip_prefix_is Decides-eqb c.args.line.now c.args.word.now c.strip_prefix.result c.strip_prefix.ensures.cases)
