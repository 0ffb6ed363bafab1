use Rattle.std.proofs.Common.{sym, arith}
use Rattle.opening.proofs.Entries.{end_short, end_one_short, end_one_misfit, end_two, end_two_misfit}
use Rattle.opening.proofs.entry.entry_end.Goals as goal

pub returns-in-empty : goal.returns-in-empty
returns-in-empty c = record { is = λ base. end_short _ _ base (omega arith); within = tt }

pub returns-in-len1 : goal.returns-in-len1
returns-in-len1 c = record { is = λ base. end_one_short _ _ base (omega arith) (sym c.if-starts_end.ensures); within = tt }

pub returns-in_default : goal.returns-in_default
returns-in_default c = record { is = λ base. end_one_misfit _ _ base (omega arith) (sym c.if-starts_end.ensures); within = tt }

pub returns-in-len2-up : goal.returns-in-len2-up
returns-in-len2-up c = record { is = λ base. end_two _ _ base (omega arith) (sym c.if-ends_entry.ensures); within = (omega arith, omega arith) }

pub returns-in_default-2 : goal.returns-in_default-2
returns-in_default-2 c = record { is = λ base. end_two_misfit _ _ base (omega arith) (sym c.if-ends_entry.ensures); within = tt }
