use Rattle.objects.proofs.Cases.{ok_some, ok_none}
use Rattle.objects.proofs.Founds.{flawed_word}
use Rattle.objects.proofs.Bodies.{word_stands}
use Rattle.objects.proofs.body.stream_word.Goals as goal

pub returns : goal.returns
returns c =
    let e = ok_some _ _ c.in_ok-found.ensures.value in
    let is = rw e at c.token.ensures.is in
    let placed = rw e at c.token.ensures.placed in
    word_stands _ _ _ _ _ is placed c.is_word.ensures c.then_some.ensures

pub returns-in_err-found : goal.returns-in_err-found
returns-in_err-found c =
    let e = ok_none _ c.in_err-found.ensures.value in
    let flawed = rw e.1 at c.token.ensures.is in
    rw c.from_residual.ensures (flawed_word _ _ _ flawed _)
