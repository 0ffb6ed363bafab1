use Rattle.objects.proofs.Cases.{handed}
use Rattle.objects.proofs.Dictionaries.{not_opened, not_closed, opened}
use Rattle.objects.proofs.dictionary.marked.Goals as goal

pub returns : goal.returns
returns c =
    let b = c.in_ok-end.ensures in
    let is = rw (c.to.ensures.src, c.to.ensures.place, c.checked.ensures) at b.is in
    let within = rw (c.to.ensures.src, c.to.ensures.place) at b.within in
    opened _ _ _ _ c.in_ok-mark.ensures _ is within.0 within.1

pub returns-in_err-end : goal.returns-in_err-end
returns-in_err-end c =
    let z = handed c.from_residual-in_err-end.result c.in_err-end.field-0.0 c.from_residual-in_err-end.ensures.1 in
    let e = rw (c.to.ensures.src, c.to.ensures.place, c.checked.ensures) at c.in_err-end.ensures.is in
    rw z (not_closed _ _ _ _ c.in_ok-mark.ensures _ e)

pub returns-in_err-mark : goal.returns-in_err-mark
returns-in_err-mark c =
    let z = handed c.from_residual.result c.in_err-mark.field-0.0 c.from_residual.ensures.1 in
    rw z (not_opened _ _ _ c.in_err-mark.ensures)
