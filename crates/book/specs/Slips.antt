-- Slips.
use Rattle.std.specs.Prelude.{Bool}
use Rattle.book.specs.declared.slip.Slip.{Slip}

abbrev pub is_spent : Slip → Bool
is_spent s = s.spent
