use Rattle.std.proofs.Common.{Some, None, sym, ap, ◌∙◌, w64, SFits, rules}
use Rattle.std.proofs.lemmas.Int.{to_z-of_z}
use Rattle.lexer.specs.Spelled.{spelled}
use Rattle.objects.specs.declared.shape.Shape.{Shape}
use Rattle.objects.specs.Bodies.{length_shape}
use Rattle.objects.proofs.Bodies.{length_found, no_length, natural_is}
use Rattle.objects.proofs.body.length_in.Goals as goal

pub returns-in_err-z : goal.returns-in_err-z
unfolding spelled
returns-in_err-z c = rw c.from_residual.ensures (length_found c.args.first.src.now c.args.first.place None c.in_err-z.ensures)

pub returns-in-Integer : goal.returns-in-Integer
unfolding spelled
returns-in-Integer c =
    let fits : SFits w64 c.in-Integer.z = search rules in
    c.ok.ensures.value
    ∙ natural_is c.in-Integer.z _ _ (to_z-of_z w64 c.in-Integer.z fits) fits c.try_from.ensures
    ∙ ap (λ (s : Shape). length_shape (Some s)) (sym c.in-Integer.is)
    ∙ length_found c.args.first.src.now c.args.first.place (Some c.in_ok-z.field-0) c.in_ok-z.ensures

pub returns-in_default : goal.returns-in_default
unfolding spelled
returns-in_default c = no_length _ c.in_default.not-Integer ∙ length_found c.args.first.src.now c.args.first.place (Some c.in_ok-z.field-0) c.in_ok-z.ensures
