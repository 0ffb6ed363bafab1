use Rattle.std.proofs.Common.{◌≡◌, ◌++◌, take, vec_items}
use Rattle.std.specs.List.{flat_map}
use Rattle.reports.specs.Excerpts.{spelled}
use Rattle.reports.proofs.excerpt.spell.Given as goal

abbrev pub invariant-loop-b : goal.invariant-loop-b
invariant-loop-b l = vec_items l.text ≡ vec_items l.initial.text ++ flat_map spelled (take l.b-index l.bytes)
