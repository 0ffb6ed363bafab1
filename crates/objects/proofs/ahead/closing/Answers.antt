use Rattle.std.proofs.Common.{◌<◌, ap, ◌∙◌}
use Rattle.format.specs.Objects.{closes_array}
use Rattle.lexer.specs.Views.{kind_of}
use Rattle.objects.proofs.Cases.{ok_some, ok_none}
use Rattle.objects.proofs.Founds.{flawed_array, found_kind, found_ends, no_array_end}
use Rattle.objects.proofs.ahead.closing.Goals as goal

pub returns-in-CloseArray : goal.returns-in-CloseArray
unfolding closes_array
returns-in-CloseArray c =
    let e = ok_some _ _ c.in_ok-found.ensures.value in
    let is = rw e at c.token.ensures.is in
    let placed = rw e at c.token.ensures.placed in
    let moves : c.in_ok-found.found.from < c.in_ok-found.found.to = rw c.in-CloseArray.is at placed.moves in
    (ap closes_array (found_kind _ _ _ is ∙ ap kind_of c.in-CloseArray.is), found_ends _ _ _ is placed moves)

pub returns-in_default : goal.returns-in_default
returns-in_default c =
    let e = ok_some _ _ c.in_ok-found.ensures.value in
    let is = rw e at c.token.ensures.is in
    ap closes_array (found_kind _ _ _ is) ∙ no_array_end _ c.in_default.not-CloseArray

pub returns-in_err-found : goal.returns-in_err-found
returns-in_err-found c =
    let e = ok_none _ c.in_err-found.ensures.value in
    let flawed = rw e.1 at c.token.ensures.is in
    rw c.from_residual.ensures (flawed_array _ _ _ flawed)
