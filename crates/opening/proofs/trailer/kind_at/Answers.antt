use Rattle.std.proofs.Common.{ap, ◌∙◌}
use Rattle.objects.specs.Shapes.{shape_in}
use Rattle.lexer.specs.Spelled.{spelled}
use Rattle.opening.specs.Trailers.{kind_in}
use Rattle.opening.proofs.Trailers.{entry_kind}
use Rattle.opening.proofs.trailer.kind_at.Goals as goal

pub returns : goal.returns
returns c = λ es q ys e. c.from.ensures ∙ ap (λ v. kind_in (shape_in v)) c.value_of.ensures ∙ entry_kind c.args.src.now c.args.inside (spelled c.args.name.now) es q ys e
