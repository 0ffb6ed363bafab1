use Rattle.std.proofs.Common.{[], take}
use Rattle.format.specs.Writing.{slots_on}
use Rattle.writer.specs.Drafts.{Adds}
use Rattle.writer.specs.Pieces.{slots_of}
use Rattle.writer.proofs.draft.Draft.entries.Given as goal

abbrev pub invariant-loop-one : goal.invariant-loop-one
invariant-loop-one l = Adds l.initial.self (slots_on (slots_of (take l.one-index l.all)) []) l.self
