use Rattle.objects.proofs.Cases.{handed}
use Rattle.objects.proofs.Bodies.{body_whole, body_refused, body_array, body_dict_bad, body_dict, body_stream}
use Rattle.objects.proofs.body.read_body.Goals as goal

pub returns-in-Whole-clause-is : goal.returns-in-Whole-clause-is
returns-in-Whole-clause-is c = let told = rw c.in-Whole.is at c.in_ok-extent.ensures in body_whole _ _ _ _ _ told.0 told.3

pub returns-in_err-extent-clause-is : goal.returns-in_err-extent-clause-is
returns-in_err-extent-clause-is c =
    let z = handed c.from_residual.result c.in_err-extent.field-0.0 c.from_residual.ensures.1 in
    rw z (body_refused _ _ _ c.in_err-extent.ensures)

pub returns-in-Array-clause-is : goal.returns-in-Array-clause-is
returns-in-Array-clause-is c =
    let start = rw c.in-Array.is at c.in_ok-extent.ensures in
    let is = rw (c.to.ensures.src, c.to.ensures.place, c.checked.ensures) at c.read_array.ensures.is in
    body_array _ _ _ _ start.0 _ is

pub returns-in_err-end-in-Dictionary-clause-is : goal.returns-in_err-end-in-Dictionary-clause-is
returns-in_err-end-in-Dictionary-clause-is c =
    let z = handed c.from_residual-in_err-end-in-Dictionary.result c.in_err-end-in-Dictionary.field-0.0 c.from_residual-in_err-end-in-Dictionary.ensures.1 in
    let start = rw c.in-Dictionary.is at c.in_ok-extent.ensures in
    let is = rw (c.to-first.ensures.src, c.to-first.ensures.place, c.checked-in-Dictionary.ensures) at c.in_err-end-in-Dictionary.ensures.is in
    rw z (body_dict_bad _ _ _ _ start.0 _ is)

pub returns-in-None-clause-is : goal.returns-in-None-clause-is
returns-in-None-clause-is c =
    let start = rw c.in-Dictionary.is at c.in_ok-extent.ensures in
    let is = rw (c.to-first.ensures.src, c.to-first.ensures.place, c.checked-in-Dictionary.ensures) at c.in_ok-end-in-Dictionary.ensures.is in
    body_dict _ _ _ _ start.0 _ is (rw (c.to-in-Dictionary.ensures.src, c.to-in-Dictionary.ensures.place) at c.in-None.ensures)

pub returns-in-Some-clause-is : goal.returns-in-Some-clause-is
returns-in-Some-clause-is c =
    let start = rw c.in-Dictionary.is at c.in_ok-extent.ensures in
    let is = rw (c.to-first.ensures.src, c.to-first.ensures.place, c.checked-in-Dictionary.ensures) at c.in_ok-end-in-Dictionary.ensures.is in
    let word = rw (c.to-in-Dictionary.ensures.src, c.to-in-Dictionary.ensures.place) at c.in-Some.ensures in
    let rest = rw (c.to-in-Some.ensures.src, c.to-in-Some.ensures.place, c.length_in.ensures, c.to-first.ensures.src, c.to-first.ensures.place) at c.stream_rest.ensures.is in
    body_stream _ _ _ _ start.0 _ is _ _ _ word rest
