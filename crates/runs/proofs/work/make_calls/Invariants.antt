use Rattle.std.proofs.Common.{◌≡◌, map, length, vec_items, vec_capacity}
use Rattle.format.specs.Law.{Run}
use Rattle.keeping.specs.Driving.{events_of}
use Rattle.book.specs.Books.{moment_of}
use Rattle.book.specs.Calls.{call_of}
use Rattle.runs.specs.Made.{Tied}
use Rattle.runs.proofs.work.make_calls.Given as goal

abbrev pub invariant-loop-call : goal.invariant-loop-call
invariant-loop-call g l =
    (length (vec_items l.answers) ≡ l.call-index) × (vec_capacity l.answers ≡ vec_capacity l.initial.answers)
    × Run (moment_of g.S.Store.meaning l.initial.book) (events_of (map call_of l.calls) (vec_items l.answers)) (moment_of g.S.Store.meaning l.book)
    × Tied g.S.Store.meaning l.book l.slip
