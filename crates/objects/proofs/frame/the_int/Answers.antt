use Rattle.std.proofs.Common.{◌<◌, ap, ◌∙◌}
use Rattle.lexer.specs.Views.{kind_of}
use Rattle.objects.specs.Steps.{token_in}
use Rattle.objects.proofs.Cases.{handed}
use Rattle.objects.proofs.Founds.{flawed_int, found_kind, found_ends, the_int_fact}
use Rattle.objects.proofs.Frames.{unfit_flawed, int_there, int_missing, other_int}
use Rattle.objects.proofs.frame.the_int.Goals as goal

pub returns-in-Unsigned-clause-is : goal.returns-in-Unsigned-clause-is
returns-in-Unsigned-clause-is c =
    let told = c.in_ok-found.ensures in
    let moves : c.in_ok-found.found.from < c.in_ok-found.found.to = rw c.in-Unsigned.is at told.placed.moves in
    let ends = found_ends _ _ _ told.is told.placed moves in
    int_there _ _ _ _ (the_int_fact _ _ (found_kind _ _ _ told.is ∙ ap kind_of c.in-Unsigned.is)) ends.to ends.rest

pub returns-in_default-clause-is : goal.returns-in_default-clause-is
returns-in_default-clause-is c = other_int _ _ _ c.in_ok-found.ensures.is c.in_default.not-Unsigned _ c.misplaced.ensures

pub returns-in_err-found-clause-is : goal.returns-in_err-found-clause-is
returns-in_err-found-clause-is c =
    let z = handed c.from_residual.result c.in_err-found.field-0.0 c.from_residual.ensures.1 in
    let told = c.in_err-found.ensures in
    rw z (int_missing _ _ (flawed_int _ _ _ told.is) (unfit_flawed (token_in c.args.at.src.now c.args.at.place) _ told.is))
