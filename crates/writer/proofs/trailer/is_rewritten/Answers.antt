use Rattle.std.proofs.Common.{sym, ◌∙◌}
use Rattle.lexer.specs.Spelled.{spelled}
use Rattle.writer.proofs.Copied.{rewritten_size, rewritten_prev}
use Rattle.writer.proofs.trailer.is_rewritten.Goals as goal

pub returns-then-spells : goal.returns-then-spells
returns-then-spells c = c.if-spells.true ∙ rewritten_size (spelled c.args.name.now) (sym c.spells.ensures ∙ c.if-spells.true)

pub returns-else-spells : goal.returns-else-spells
returns-else-spells c =
    rewritten_prev (spelled c.args.name.now) c.spells-else-spells.result (sym c.spells.ensures ∙ c.if-spells.false) c.spells-else-spells.ensures
