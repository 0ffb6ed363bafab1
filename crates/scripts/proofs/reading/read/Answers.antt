use Rattle.std.proofs.Common.{◌≡◌, ◌∷◌, ap, ◌∙◌}
use Rattle.std.proofs.lemmas.Result.{err_from_is_err_and}
use Rattle.scripts.specs.Readers.{item_of, spelled_change}
use Rattle.scripts.specs.Reads.{said_from}
use Rattle.scripts.specs.Rows.{rows_of}
use Rattle.scripts.specs.Scripts.{said_by, gathered, read_script}
use Rattle.scripts.proofs.Gathers.{order_with, gathered_all, gathered_stop, gathered_next, not_added, gave_change, gave_none, gave_small}
use Rattle.scripts.proofs.Placed.{none_in_order}
use Rattle.scripts.proofs.reading.read.Goals as goal
use Rattle.scripts.proofs.reading.read.Goals.{In-Some}

pub loop-changes-init : goal.loop-changes-init
unfolding read_script
loop-changes-init c = (
  ap (λ is. gathered is (rows_of c.new-changes.result.entries)) c.new-reader.ensures
      ∙ ap (λ rs. gathered (said_by c.args.src.now) (rows_of rs)) c.new-changes.ensures.empty,
  none_in_order _ c.new-changes.ensures.empty,
)

-- the change that was found is what the script says first
found_first : (c : In-Some) → said_from c.loop-changes.reader ≡ item_of c.in-Some.found ∷ said_from c.next.new.self
found_first c =
    gave_change (said_from c.loop-changes.reader) (said_from c.next.new.self) c.in_ok-found.field-0 c.in-Some.found c.in_ok-found.ensures.gave c.in-Some.is

pub loop-changes-preserved : goal.loop-changes-preserved
loop-changes-preserved c =
    let u = rows_of (c.loop-changes.changes.entries) in
    let v = rows_of (c.add.new.changes.entries) in
    let f = c.in-Some.found in
    let small = gave_small c.in_ok-found.field-0 f c.in_ok-found.ensures.small c.in-Some.is in
    let added = c.in_ok-add.ensures in (
      gathered_next (said_from c.loop-changes.reader) u c.loop-changes.invariant.0 f (said_from c.next.new.self) (found_first (goal.at.loop-changes-preserved c).In-Some) v added.0 added.1,
      order_with f.number (spelled_change f.change) u v c.loop-changes.invariant.1 small added.1,
    )

pub returns : goal.returns
returns c =
    gathered_all (said_from c.loop-changes.reader) (rows_of c.loop-changes.changes.entries) c.loop-changes.invariant.0
    (gave_none (said_from c.loop-changes.reader) (said_from c.next.new.self) c.in_ok-found.field-0 c.in_ok-found.ensures.gave c.in_default.is)

pub returns-in_err-found : goal.returns-in_err-found
returns-in_err-found c =
    let p = err_from_is_err_and c.from_residual.result c.from_residual.ensures.1 in
    rw (p.1, p.2) (gathered_stop (said_from c.loop-changes.reader) (rows_of c.loop-changes.changes.entries) c.loop-changes.invariant.0 _ c.in_err-found.ensures.gave.0)

pub returns-in_err-add : goal.returns-in_err-add
returns-in_err-add c =
    let p = err_from_is_err_and c.from_residual-in_err-add.result c.from_residual-in_err-add.ensures.1 in
    rw (p.1, p.2)
    (not_added c.args.src.now (said_from c.loop-changes.reader) (said_from c.next.new.self) (rows_of c.loop-changes.changes.entries) c.in-Some.found c.in_err-add.field-0.0 c.loop-changes.invariant.0 (found_first (goal.at.returns-in_err-add c).In-Some) c.in_err-add.ensures)
