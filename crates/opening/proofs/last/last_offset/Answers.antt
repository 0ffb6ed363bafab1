use Rattle.std.proofs.Common.{sym, refl, ◌∙◌}
use Rattle.format.specs.Sections.{last_offset}
use Rattle.opening.proofs.Backwards.{on_some, on_none}
use Rattle.opening.proofs.LastBytes.{in_file}
use Rattle.opening.proofs.last.last_offset.Goals as goal

pub returns-in_err-mark_end : goal.returns-in_err-mark_end
unfolding last_offset
returns-in_err-mark_end c = let e = c.from_residual.ensures ∙ sym (on_none _ _ c.in_err-mark_end.ensures) in record { is = e; ends = in_file _ _ e }

pub returns-in_err-mark : goal.returns-in_err-mark
unfolding last_offset
returns-in_err-mark c = let e = c.from_residual-in_err-mark.ensures ∙ sym (on_some _ _ c.in_ok-mark_end.ensures (on_none _ _ c.in_err-mark.ensures)) in record { is = e; ends = in_file _ _ e }

pub returns-in_err-digits_end : goal.returns-in_err-digits_end
unfolding last_offset
returns-in_err-digits_end c = let e = c.from_residual-in_err-digits_end.ensures ∙ sym (on_some _ _ c.in_ok-mark_end.ensures (on_some _ _ c.in_ok-mark.ensures (on_none _ _ c.in_err-digits_end.ensures))) in record { is = e; ends = in_file _ _ e }

pub returns-in_err-offset : goal.returns-in_err-offset
unfolding last_offset
returns-in_err-offset c = let e = c.from_residual-in_err-offset.ensures ∙ sym (on_some _ _ c.in_ok-mark_end.ensures (on_some _ _ c.in_ok-mark.ensures (on_some _ _ c.in_ok-digits_end.ensures (on_none _ _ c.in_err-offset.ensures)))) in record { is = e; ends = in_file _ _ e }

pub returns-in_err-word_end : goal.returns-in_err-word_end
unfolding last_offset
returns-in_err-word_end c = let e = c.from_residual-in_err-word_end.ensures ∙ sym (on_some _ _ c.in_ok-mark_end.ensures (on_some _ _ c.in_ok-mark.ensures (on_some _ _ c.in_ok-digits_end.ensures (on_some _ _ c.in_ok-offset.ensures (on_none _ _ c.in_err-word_end.ensures))))) in record { is = e; ends = in_file _ _ e }

pub returns-in_err-_start : goal.returns-in_err-_start
unfolding last_offset
returns-in_err-_start c = let e = c.from_residual-in_err-_start.ensures ∙ sym (on_some _ _ c.in_ok-mark_end.ensures (on_some _ _ c.in_ok-mark.ensures (on_some _ _ c.in_ok-digits_end.ensures (on_some _ _ c.in_ok-offset.ensures (on_some _ _ c.in_ok-word_end.ensures (on_none _ _ c.in_err-_start.ensures)))))) in record { is = e; ends = in_file _ _ e }

pub returns : goal.returns
unfolding last_offset
returns c = let e = sym (on_some _ _ c.in_ok-mark_end.ensures (on_some _ _ c.in_ok-mark.ensures (on_some _ _ c.in_ok-digits_end.ensures (on_some _ _ c.in_ok-offset.ensures (on_some _ _ c.in_ok-word_end.ensures (on_some _ _ c.in_ok-_start.ensures refl)))))) in record { is = e; ends = in_file _ _ e }
