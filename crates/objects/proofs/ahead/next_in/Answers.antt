use Rattle.std.proofs.Common.{◌<◌, sym, ap, ◌∙◌}
use Rattle.format.specs.Objects.{next, fails}
use Rattle.lexer.specs.Views.{kind_of}
use Rattle.objects.proofs.Cases.{handed}
use Rattle.objects.proofs.Founds.{flawed_next, found_from, found_ends, found_next, no_entry}
use Rattle.objects.proofs.ahead.next_in.Goals as goal

pub returns-in-CloseDict : goal.returns-in-CloseDict
unfolding next
returns-in-CloseDict c =
    let told = c.in_ok-found.ensures in
    let moves : c.in_ok-found.found.from < c.in_ok-found.found.to = rw c.in-CloseDict.is at told.placed.moves in
    (found_next _ _ _ told.is ∙ ap (λ t. next c.in_ok-found.found.from (kind_of t)) c.in-CloseDict.is, found_ends _ _ _ told.is told.placed moves)

pub returns-in-Name : goal.returns-in-Name
unfolding next
returns-in-Name c =
    let told = c.in_ok-found.ensures in
    let moves : c.in_ok-found.found.from < c.in_ok-found.found.to = rw c.in-Name.is at told.placed.moves in (
      found_next _ _ _ told.is ∙ ap (λ t. next c.in_ok-found.found.from (kind_of t)) c.in-Name.is,
      found_ends _ _ _ told.is told.placed moves,
      found_from _ _ _ told.is,
      moves,
    )

pub returns-in_default : goal.returns-in_default
returns-in_default c = found_next _ _ _ c.in_ok-found.ensures.is ∙ no_entry _ _ c.in_default.not-Name c.in_default.not-CloseDict ∙ ap fails (sym c.misplaced.ensures)

pub returns-in_err-found : goal.returns-in_err-found
returns-in_err-found c =
    let z = handed c.from_residual.result c.in_err-found.field-0.0 c.from_residual.ensures.1 in
    rw z (flawed_next _ _ _ c.in_err-found.ensures.is)
