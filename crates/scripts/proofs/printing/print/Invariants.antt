use Rattle.std.proofs.Common.{◌≡◌, ◌++◌, vec_items}
use Rattle.scripts.specs.Rows.{rows_of}
use Rattle.scripts.specs.Scripts.{print_script}
use Rattle.scripts.specs.Theorems.{Spellable}
use Rattle.scripts.proofs.printing.print.Given as goal

abbrev pub invariant-loop-number : goal.invariant-loop-number
invariant-loop-number l =
    record {
      whole : vec_items l.out ++ print_script (rows_of l.number-iterator) ≡ print_script (rows_of l.script.changes.entries);
      small : Spellable (rows_of l.number-iterator);
    }
