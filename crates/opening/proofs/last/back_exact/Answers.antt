use Rattle.std.proofs.lemmas.Bool.Decides.{Decides-eqb}
use Rattle.std.proofs.lemmas.Slice.Eq.{strip_suffix_is}
use Rattle.opening.proofs.Backwards.{ends_word}
use Rattle.opening.proofs.last.back_exact.Goals as goal

pub returns : goal.returns
returns c = ends_word c.args.bytes.now c.args.word.now c.strip_suffix.result (strip_suffix_is Decides-eqb c.args.bytes.now c.args.word.now c.strip_suffix.result c.strip_suffix.ensures.cases)
