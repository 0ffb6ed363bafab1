use Rattle.std.proofs.Common.{◌≡◌, map, vec_items}
use Rattle.reports.proofs.Grouped.{shown}
use Rattle.reports.proofs.runs.runs.Given as goal

abbrev pub invariant-loop-run : goal.invariant-loop-run
invariant-loop-run l = vec_items l.all ≡ map shown l.yielded
