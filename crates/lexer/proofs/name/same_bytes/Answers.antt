use Rattle.std.proofs.Common.{◌≡◌, eqb, ◌∙◌, rules}
use Rattle.std.specs.Cmp.Lexicographic.{pointwise}
use Rattle.lexer.proofs.Sames.{same_is}
use Rattle.lexer.proofs.name.same_bytes.Goals as goal

pub returns : goal.returns
returns c =
    let h : c.eq.result ≡ pointwise eqb c.args.a.now c.args.b.now = search rules in
    h ∙ same_is _ _
