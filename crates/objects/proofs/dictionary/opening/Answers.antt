use Rattle.std.proofs.Common.{◌<◌}
use Rattle.objects.proofs.Cases.{handed}
use Rattle.objects.proofs.Founds.{found_from, found_ends}
use Rattle.objects.proofs.Dictionaries.{opens, opens_other, opens_flawed}
use Rattle.objects.proofs.dictionary.opening.Goals as goal

pub returns-in-OpenDict : goal.returns-in-OpenDict
returns-in-OpenDict c =
    let told = c.in_ok-found.ensures in
    let moves : c.in_ok-found.found.from < c.in_ok-found.found.to = rw c.in-OpenDict.is at told.placed.moves in
    (opens _ _ _ told.is c.in-OpenDict.is, found_from _ _ _ told.is, found_ends _ _ _ told.is told.placed moves, told.placed.starts, moves)

pub returns-in_default : goal.returns-in_default
returns-in_default c = opens_other _ _ _ c.in_ok-found.ensures.is c.in_default.not-OpenDict _ c.misplaced.ensures

pub returns-in_err-found : goal.returns-in_err-found
returns-in_err-found c =
    let z = handed c.from_residual.result c.in_err-found.field-0.0 c.from_residual.ensures.1 in
    rw z (opens_flawed _ _ _ c.in_err-found.ensures.is)
