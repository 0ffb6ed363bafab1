use Rattle.std.proofs.Common.{arith}
use Rattle.objects.proofs.Cases.{ok_some, ok_none}
use Rattle.objects.proofs.Ends.{entry_past}
use Rattle.objects.proofs.Nexts.{entry_bad, entry_there}
use Rattle.objects.proofs.object.next_entry.Goals as goal

pub returns-in_err-at : goal.returns-in_err-at
returns-in_err-at c =
    let e = ok_none _ c.in_err-at.ensures.value in
    let past = rw e.1 at c.lexer_at.ensures in
    let l = past.0 in
    rw c.from_residual.ensures (entry_past _ _ (omega arith))

pub returns-in_err-value-in-Key : goal.returns-in_err-value-in-Key
returns-in_err-value-in-Key c =
    let here = rw (ok_some _ _ c.in_ok-at.ensures.value) at c.lexer_at.ensures in
    let e = ok_some _ _ c.in_ok-key.ensures.value in
    let key = rw (here.0, here.1, e, c.in-Key.is) at c.next_in.ensures in
    let f = ok_none _ c.in_err-value-in-Key.ensures.value in
    let bad = rw (c.to.ensures.src, here.0, c.to.ensures.place, f.1, c.unchecked.ensures) at c.read_value.ensures in
    rw c.from_residual-in_err-value-in-Key.ensures (entry_bad _ _ _ key.0 _ _ _ key.1 key.2 bad.1 _ bad.2)

pub returns-in_ok-value-in-Key : goal.returns-in_ok-value-in-Key
returns-in_ok-value-in-Key c =
    let here = rw (ok_some _ _ c.in_ok-at.ensures.value) at c.lexer_at.ensures in
    let e = ok_some _ _ c.in_ok-key.ensures.value in
    let key = rw (here.0, here.1, e, c.in-Key.is) at c.next_in.ensures in
    let f = ok_some _ _ c.in_ok-value-in-Key.ensures.value in
    let value = rw (c.to.ensures.src, here.0, c.to.ensures.place, f, c.unchecked.ensures) at c.read_value.ensures in
    entry_there _ _ _ key.0 _ _ _ key.1 key.2 value.0 _ _ value.1
