use Rattle.std.proofs.Common.{◌≡◌, ℕ, false, length, drop, is_some, sym, ap, ◌∙◌, arith}
use Rattle.format.specs.Bytes.{Bytes}
use Rattle.format.specs.Space.{skip}
use Rattle.lexer.specs.Spelled.{spelled}
use Rattle.objects.specs.Steps.{token_in, EndsAt}
use Rattle.objects.proofs.Cases.{handed, ok_some, ok_none, not_both}
use Rattle.objects.proofs.Turns.{elements_close, elements_more, elements_fail, Fresh, entered_close, entered_refuse, entered_again, entered_fail, entered_more, walking_stops, walking_closes, walking_refuses, walking_fails, walking_finds, walking_more}
use Rattle.objects.proofs.Nexts.{has_closes}
use Rattle.objects.proofs.Nested.{whole_read, refused_read, array_deep, array_read, array_bad, dict_deep, dict_read, dict_bad}
use Rattle.objects.proofs.read.+nested.Goals as goal
use Rattle.objects.proofs.read.+nested.Goals.{read_dictionary-else-reading-via-then-reading+else-is_some, read_dictionary-else-reading-via-else-reading}

pub read_array-returns-in-Some-clause-is : goal.read_array-returns-in-Some-clause-is
read_array-returns-in-Some-clause-is t c =
    let told = c.in-Some.ensures in
    rw c.elements.invariant.1 at (elements_close _ _ _ _ c.elements.at.within _ told.0 told.1 c.elements.invariant.2)

pub read_array-elements-preserved : goal.read_array-elements-preserved
read_array-elements-preserved t c =
    let told = c.in_ok-element.ensures in
    let place = c.to-at.ensures.place in
    let on = told.within.0 in (
      omega arith,
      c.to-at.ensures.src ∙ c.elements.invariant.1,
      rw (c.to-at.ensures.src, c.to-at.ensures.place) (elements_more _ _ _ _ c.elements.at.within _ _ c.in_default.ensures told.is told.within.0 c.elements.invariant.2),
    )

pub read_array-returns-in_err-element-clause-is : goal.read_array-returns-in_err-element-clause-is
read_array-returns-in_err-element-clause-is t c =
    let z = handed c.from_residual.result c.in_err-element.field-0.0 c.from_residual.ensures.1 in
    rw z (elements_fail _ _ _ _ c.elements.at.within _ c.in_default.ensures c.in_err-element.ensures.is c.elements.invariant.2)

pub read_object-returns-in-Whole-clause-is : goal.read_object-returns-in-Whole-clause-is
read_object-returns-in-Whole-clause-is t c = let told = rw c.in-Whole.is at c.in_ok-extent.ensures in whole_read _ _ _ _ _ told.0

pub read_object-returns-in_err-extent-clause-is : goal.read_object-returns-in_err-extent-clause-is
read_object-returns-in_err-extent-clause-is t c =
    let z = handed c.from_residual.result c.in_err-extent.field-0.0 c.from_residual.ensures.1 in
    rw z (refused_read _ _ _ _ _ c.in_err-extent.ensures)

pub read_object-returns-in_err-inner-in-Array-clause-is : goal.read_object-returns-in_err-inner-in-Array-clause-is
read_object-returns-in_err-inner-in-Array-clause-is t c =
    let z = handed c.from_residual-in_err-inner-in-Array.result c.in_err-inner-in-Array.field-0.0 c.from_residual-in_err-inner-in-Array.ensures.1 in
    let start = rw c.in-Array.is at c.in_ok-extent.ensures in
    let deep = c.in_err-inner-in-Array.ensures in
    rw z (rw deep.1 (array_deep _ _ _ _ _ _ start.0 deep.0))

pub read_object-returns-in_ok-end-in-Array-clause-is : goal.read_object-returns-in_ok-end-in-Array-clause-is
read_object-returns-in_ok-end-in-Array-clause-is t c =
    let start = rw c.in-Array.is at c.in_ok-extent.ensures in
    let inner = c.in_ok-inner-in-Array.ensures in
    let end = rw (c.to.ensures.src, c.to.ensures.place) at c.in_ok-end-in-Array.ensures.is in
    rw (inner.0, inner.1) (array_read _ _ _ _ _ _ start.0 _ end)

pub read_object-returns-in_err-end-in-Array-clause-is : goal.read_object-returns-in_err-end-in-Array-clause-is
read_object-returns-in_err-end-in-Array-clause-is t c =
    let z = handed c.from_residual-in_err-end-in-Array.result c.in_err-end-in-Array.field-0.0 c.from_residual-in_err-end-in-Array.ensures.1 in
    let start = rw c.in-Array.is at c.in_ok-extent.ensures in
    let inner = c.in_ok-inner-in-Array.ensures in
    let end = rw (c.to.ensures.src, c.to.ensures.place) at c.in_err-end-in-Array.ensures.is in
    rw z (rw (inner.0, inner.1) (array_bad _ _ _ _ _ _ start.0 _ end))

pub read_object-returns-in_err-inner-in-Dictionary-clause-is : goal.read_object-returns-in_err-inner-in-Dictionary-clause-is
read_object-returns-in_err-inner-in-Dictionary-clause-is t c =
    let z = handed c.from_residual-in_err-inner-in-Dictionary.result c.in_err-inner-in-Dictionary.field-0.0 c.from_residual-in_err-inner-in-Dictionary.ensures.1 in
    let start = rw c.in-Dictionary.is at c.in_ok-extent.ensures in
    let deep = c.in_err-inner-in-Dictionary.ensures in
    rw z (rw deep.1 (dict_deep _ _ _ _ _ _ start.0 deep.0))

pub read_object-returns-in_ok-end-in-Dictionary-clause-is : goal.read_object-returns-in_ok-end-in-Dictionary-clause-is
read_object-returns-in_ok-end-in-Dictionary-clause-is t c =
    let start = rw c.in-Dictionary.is at c.in_ok-extent.ensures in
    let inner = c.in_ok-inner-in-Dictionary.ensures in
    let end = rw (c.to-in-Dictionary.ensures.src, c.to-in-Dictionary.ensures.place) at c.in_ok-end-in-Dictionary.ensures.is in
    rw (inner.0, inner.1) (dict_read _ _ _ _ _ _ start.0 _ end)

pub read_object-returns-in_err-end-in-Dictionary-clause-is : goal.read_object-returns-in_err-end-in-Dictionary-clause-is
read_object-returns-in_err-end-in-Dictionary-clause-is t c =
    let z = handed c.from_residual-in_err-end-in-Dictionary.result c.in_err-end-in-Dictionary.field-0.0 c.from_residual-in_err-end-in-Dictionary.ensures.1 in
    let start = rw c.in-Dictionary.is at c.in_ok-extent.ensures in
    let inner = c.in_ok-inner-in-Dictionary.ensures in
    let end = rw (c.to-in-Dictionary.ensures.src, c.to-in-Dictionary.ensures.place) at c.in_err-end-in-Dictionary.ensures.is in
    rw z (rw (inner.0, inner.1) (dict_bad _ _ _ _ _ _ start.0 _ end))

-- the white space behind a key
behind_key : (src : Bytes) (p q v : ℕ) → EndsAt src p q → skip false q (drop q src) ≡ (v, drop v src) → skip false (token_in src p).to (token_in src p).rest ≡ (v, drop v src)
behind_key src p q v t e = rw (t.to, t.rest) e

pub read_dictionary-returns-in_err-behind-clause-is : goal.read_dictionary-returns-in_err-behind-clause-is
read_dictionary-returns-in_err-behind-clause-is t c =
    let z = handed c.from_residual.result c.in_err-behind.field-0.0 c.from_residual.ensures.1 in
    rw z (entered_refuse _ _ _ _ _ _ c.entries.at.within _ c.in_err-behind.ensures c.entries.invariant.2)

pub read_dictionary-returns-in-Closes-clause-is : goal.read_dictionary-returns-in-Closes-clause-is
read_dictionary-returns-in-Closes-clause-is t c =
    let told = rw c.in-Closes.is at c.in_ok-behind.ensures in
    rw c.entries.invariant.1 at (entered_close _ _ _ _ _ _ c.entries.at.within _ told.0 told.1 c.entries.invariant.2)

pub read_dictionary-returns-then-is_some-clause-is : goal.read_dictionary-returns-then-is_some-clause-is
read_dictionary-returns-then-is_some-clause-is t c =
    let key = rw c.in-Key.is at c.in_ok-behind.ensures in
    let place = key.2 in
    let same = ap length c.entries.invariant.1 in
    let met = rw (← c.entries.invariant.1) at (ap is_some (sym c.find_value.ensures) ∙ sym c.is_some.ensures ∙ c.if-is_some.true) in
    rw (c.met.ensures, ← place) (entered_again _ _ _ _ _ _ c.entries.at.within _ key.0 (omega arith) c.if-reading.true met c.entries.invariant.2)

pub read_dictionary-returns-in_err-value-in-Key-clause-is : goal.read_dictionary-returns-in_err-value-in-Key-clause-is
read_dictionary-returns-in_err-value-in-Key-clause-is t c =
    let z = handed c.from_residual-in_err-value-in-Key.result c.in_err-value-in-Key.field-0.0 c.from_residual-in_err-value-in-Key.ensures.1 in
    let key = rw c.in-Key.is at c.in_ok-behind.ensures in
    let bad = rw (c.to.ensures.src, c.to.ensures.place) at c.in_err-value-in-Key.ensures in
    let same = ap length c.entries.invariant.1 in
    let fresh : Fresh c.args.reading.check c.args.reading.depth c.entries.at.src.now c.args.first.place c.entries.at.place (spelled c.in-Key.name.now) =
    elim c.else-reading.branch [
      | read_dictionary-else-reading-via-then-reading+else-is_some w ↦ λ _. rw (← c.entries.invariant.1) at (ap is_some (sym w.find_value.ensures) ∙ sym w.is_some.ensures ∙ w.if-is_some.false)
      | read_dictionary-else-reading-via-else-reading w ↦ λ e. not_both c.args.reading.check e w.if-reading.false
    ] in
    rw z (entered_fail _ _ _ _ _ _ c.entries.at.within _ key.0 (omega arith) fresh _ (behind_key _ _ _ _ key.1 bad.1) _ bad.2 c.entries.invariant.2)

pub read_dictionary-entries-preserved : goal.read_dictionary-entries-preserved
read_dictionary-entries-preserved t c =
    let key = rw c.in-Key.is at c.in_ok-behind.ensures in
    let value = rw (c.to.ensures.src, c.to.ensures.place) at c.in_ok-value-in-Key.ensures in
    let low = key.1.low in
    let mid = value.2 in
    let far = value.3 in
    let place = c.to-at.ensures.place in
    let same = ap length c.entries.invariant.1 in
    let fresh : Fresh c.args.reading.check c.args.reading.depth c.entries.at.src.now c.args.first.place c.entries.at.place (spelled c.in-Key.name.now) =
    elim c.else-reading.branch [
      | read_dictionary-else-reading-via-then-reading+else-is_some w ↦ λ _. rw (← c.entries.invariant.1) at (ap is_some (sym w.find_value.ensures) ∙ sym w.is_some.ensures ∙ w.if-is_some.false)
      | read_dictionary-else-reading-via-else-reading w ↦ λ e. not_both c.args.reading.check e w.if-reading.false
    ] in (
      omega arith,
      c.to-at.ensures.src ∙ c.entries.invariant.1,
      rw (c.to-at.ensures.src, c.to-at.ensures.place) (entered_more _ _ _ _ _ _ c.entries.at.within _ key.0 (omega arith) fresh _ (behind_key _ _ _ _ key.1 value.0) _ _ value.1 (omega arith) c.entries.invariant.2),
    )

pub find_value-returns-then-is_reached : goal.find_value-returns-then-is_reached
find_value-returns-then-is_reached t c = walking_stops _ _ _ _ _ _ c.walk.at.within (sym c.if-is_reached.ensures) c.walk.invariant

pub find_value-returns-in_err-key : goal.find_value-returns-in_err-key
find_value-returns-in_err-key t c =
    let e = ok_none _ c.in_err-key.ensures.value in
    let told = rw e.1 at c.next_in.ensures in
    rw c.from_residual.ensures (walking_refuses _ _ _ _ _ _ c.walk.at.within (sym c.if-is_reached.ensures) _ told c.walk.invariant)

pub find_value-returns-in_default : goal.find_value-returns-in_default
find_value-returns-in_default t c =
    let e = ok_some _ _ c.in_ok-key.ensures.value in
    let told = rw e at c.next_in.ensures in
    walking_closes _ _ _ _ _ _ c.walk.at.within (sym c.if-is_reached.ensures) (has_closes _ _ _ c.in_default.not-Key told) c.walk.invariant

pub find_value-returns-in_err-value : goal.find_value-returns-in_err-value
find_value-returns-in_err-value t c =
    let e = ok_some _ _ c.in_ok-key.ensures.value in
    let told = rw e at c.next_in.ensures in
    let key = rw c.in-Key.is at told in
    let f = ok_none _ c.in_err-value.ensures.value in
    let bad = rw (c.to.ensures.src, c.to.ensures.place, f.1, c.unchecked-unchecked.ensures) at c.read_value.ensures in
    rw c.from_residual-in_err-value.ensures
    (walking_fails _ _ _ _ _ _ c.walk.at.within (sym c.if-is_reached.ensures) _ key.0 _ (behind_key _ _ _ _ key.1 bad.1) _ bad.2 c.walk.invariant)

pub find_value-returns-then-same_name : goal.find_value-returns-then-same_name
find_value-returns-then-same_name t c =
    let e = ok_some _ _ c.in_ok-key.ensures.value in
    let told = rw e at c.next_in.ensures in
    let key = rw c.in-Key.is at told in
    let f = ok_some _ _ c.in_ok-value.ensures.value in
    let value = rw (c.to.ensures.src, c.to.ensures.place, f, c.unchecked-unchecked.ensures) at c.read_value.ensures in
    walking_finds _ _ _ _ _ _ c.walk.at.within (sym c.if-is_reached.ensures) _ key.0 _ (behind_key _ _ _ _ key.1 value.0) _ _ (sym c.if-same_name.ensures) value.1 c.walk.invariant

pub find_value-walk-preserved : goal.find_value-walk-preserved
find_value-walk-preserved t c =
    let e = ok_some _ _ c.in_ok-key.ensures.value in
    let told = rw e at c.next_in.ensures in
    let key = rw c.in-Key.is at told in
    let f = ok_some _ _ c.in_ok-value.ensures.value in
    let value = rw (c.to.ensures.src, c.to.ensures.place, f, c.unchecked-unchecked.ensures) at c.read_value.ensures in
    let low = key.1.low in
    let mid = value.2 in
    let far = value.3 in
    rw (c.to-at.ensures.src, c.to-at.ensures.place)
    (walking_more _ _ _ _ _ _ c.walk.at.within (sym c.if-is_reached.ensures) _ key.0 _ (behind_key _ _ _ _ key.1 value.0) _ _ (sym c.if-same_name.ensures) value.1 (omega arith) c.walk.invariant)
