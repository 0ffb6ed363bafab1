use Rattle.std.proofs.Common.{sym, arith}
use Rattle.objects.proofs.Cases.{ok_some, ok_none}
use Rattle.objects.proofs.References.{took_int, took_no_int, took_none, took_word, took_no_word, took_nothing, generation_fits, generation_past, ref_no_int, ref_no_number, ref_no_generation, ref_no_mark, tries_found, tries_none}
use Rattle.objects.proofs.reference.try_reference.Goals as goal

pub returns-in_err-second-clause-is : goal.returns-in_err-second-clause-is
returns-in_err-second-clause-is c = tries_none _ _ _ _ _ c.from_residual.ensures (ref_no_int _ _ _ (took_none _ _ c.take.new.place c.in_err-second.ensures)) c.drop-trial.ensures

pub returns-in_default-clause-is : goal.returns-in_default-clause-is
returns-in_default-clause-is c = (ref_no_int _ _ _ (took_no_int _ _ _ _ c.in_ok-second.ensures c.in_default.not-Unsigned), c.drop-trial-in_default.ensures)

pub returns-then-number-lt1-clause-is : goal.returns-then-number-lt1-clause-is
returns-then-number-lt1-clause-is c =
    let int = took_int _ _ _ _ _ c.in_ok-second.ensures c.in-Unsigned.is in
    (ref_no_number _ _ _ _ int.0 c.if-number-lt1.true, c.drop-trial-then-number-lt1.ensures)

pub returns-in_err-generation-clause-is : goal.returns-in_err-generation-clause-is
returns-in_err-generation-clause-is c =
    let int = took_int _ _ _ _ _ c.in_ok-second.ensures c.in-Unsigned.is in
    let e = ok_none _ c.in_err-generation.ensures.value in
    let past = generation_past _ _ _ c.try_from.ensures e.1 in
    tries_none _ _ _ _ _ c.from_residual-in_err-generation.ensures (ref_no_generation _ _ _ _ int.0 past) c.drop-trial-in_err-generation.ensures

pub returns-in_err-mark-clause-is : goal.returns-in_err-mark-clause-is
returns-in_err-mark-clause-is c =
    let int = took_int _ _ _ _ _ c.in_ok-second.ensures c.in-Unsigned.is in
    tries_none _ _ _ _ _ c.from_residual-in_err-mark.ensures (ref_no_mark _ _ _ _ int.0 _ int.1 (took_nothing _ _ c.take-2.new.place _ (rw (c.to.ensures.src, c.to.ensures.place) at c.in_err-mark.ensures))) c.drop-trial-in_err-mark.ensures

pub returns-then-not-is_word-clause-is : goal.returns-then-not-is_word-clause-is
returns-then-not-is_word-clause-is c =
    let int = took_int _ _ _ _ _ c.in_ok-second.ensures c.in-Unsigned.is in
    (ref_no_mark _ _ _ _ int.0 _ int.1 (took_no_word _ _ _ _ _ (rw (c.to.ensures.src, c.to.ensures.place) at c.in_ok-mark.ensures) (sym c.if-not-is_word.ensures)), c.drop-trial-then-not-is_word.ensures)

pub returns-clause-is : goal.returns-clause-is
returns-clause-is c =
    let int = took_int _ _ _ _ _ c.in_ok-second.ensures c.in-Unsigned.is in
    let fits = generation_fits _ _ _ c.try_from.ensures (ok_some _ _ c.in_ok-generation.ensures.value) in
    let word = took_word _ _ _ _ _ (rw (c.to.ensures.src, c.to.ensures.place) at c.in_ok-mark.ensures) (sym c.if-not-is_word.ensures) in
    rw fits.1 (tries_found _ _ _ _ int.0 _ int.1 (omega arith) fits.0 _ word.0 word.1 _ c.drop-trial-2.ensures)
