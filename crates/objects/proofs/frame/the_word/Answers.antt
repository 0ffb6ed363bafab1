use Rattle.std.proofs.Common.{sym, ap, ◌∙◌}
use Rattle.objects.proofs.Cases.{handed}
use Rattle.format.specs.Objects.{is_word}
use Rattle.objects.specs.Steps.{token_in}
use Rattle.objects.proofs.Founds.{flawed_word, found_kind, found_ends, word_moves}
use Rattle.objects.proofs.Frames.{unfit_flawed, word_there, word_missing, other_word}
use Rattle.objects.proofs.frame.the_word.Goals as goal

pub returns-then-not-is_word-clause-is : goal.returns-then-not-is_word-clause-is
returns-then-not-is_word-clause-is c =
    other_word _ _ _ c.in_ok-found.ensures.is _ (sym c.if-not-is_word.ensures) _ c.misplaced.ensures

pub returns-clause-is : goal.returns-clause-is
returns-clause-is c =
    let told = c.in_ok-found.ensures in
    let fits = sym c.if-not-is_word.ensures in
    let ends = found_ends _ _ _ told.is told.placed (word_moves _ _ _ _ _ fits told.placed.moves) in
    word_there _ _ _ _ (ap (is_word c.args.word.now) (found_kind _ _ _ told.is) ∙ fits) ends.to ends.rest

pub returns-in_err-found-clause-is : goal.returns-in_err-found-clause-is
returns-in_err-found-clause-is c =
    let z = handed c.from_residual.result c.in_err-found.field-0.0 c.from_residual.ensures.1 in
    let told = c.in_err-found.ensures in
    rw z (word_missing _ _ _ (flawed_word _ _ _ told.is _) (unfit_flawed (token_in c.args.at.src.now c.args.at.place) _ told.is))
