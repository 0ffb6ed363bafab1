use Rattle.std.proofs.Common.{◌≡◌, ◌++◌, vec_items, ap, ◌∙◌}
use Rattle.std.proofs.lemmas.Map.Iter.{rest_all, rest_more}
use Rattle.std.specs.Map.Iter.{deref_pair}
use Rattle.scripts.specs.Reads.{update_of}
use Rattle.scripts.specs.Rows.{row_of, rows_of}
use Rattle.scripts.specs.Scripts.{print_script, read_script}
use Rattle.scripts.proofs.Joins.{printed_all, printed_more}
use Rattle.scripts.proofs.Placed.{order_ascends, order_spellable}
use Rattle.scripts.proofs.ReadsBack.{printed_reads_back}
use Rattle.scripts.proofs.printing.print.Goals as goal
use Rattle.scripts.proofs.printing.print.Goals.{In-None}

pub loop-number-init : goal.loop-number-init
loop-number-init c =
    let all = c.into_iter-number-iterator.ensures.into_iter_gives.0 in
    record {
      whole = ap (λ xs. xs ++ print_script (rows_of c.into_iter-number-iterator.result)) c.new-out.ensures.items ∙ ap (λ es. print_script (rows_of es)) all;
      small = rw all (order_spellable 0 (update_of c.args.script.now) c.args.script.now.ordered);
    }

pub loop-number-preserved : goal.loop-number-preserved
loop-number-preserved c =
    let first = rest_more deref_pair c.loop-number.number-iterator c.next.new.self c.next.result (c.in-Some.number, c.in-Some.change) c.in-Some.is c.next.ensures.steps in
    let whole = rw first at c.loop-number.invariant.whole in
    let small = rw first at c.loop-number.invariant.small in
    record {
      whole = printed_more (row_of (c.in-Some.number.now, c.in-Some.change.now)) (rows_of c.next.new.self) (vec_items c.loop-number.out) (vec_items c.add_change.new.out) _ whole c.in_ok-add_change.ensures;
      small = small.1;
    }

-- all changes are printed
printed : (c : In-None) → vec_items c.loop-number.out ≡ print_script (update_of c.args.script.now)
printed c =
    let none = rest_all deref_pair c.loop-number.number-iterator c.next.new.self c.next.result c.in-None.is c.next.ensures.steps in
    printed_all (vec_items c.loop-number.out) _ (rw none at c.loop-number.invariant.whole)

pub returns-clause-bytes : goal.returns-clause-bytes
returns-clause-bytes c = printed (goal.at.returns-clause-bytes c).In-None

pub returns-clause-back : goal.returns-clause-back
returns-clause-back c =
    let u = update_of c.args.script.now in
    ap read_script (printed (goal.at.returns-clause-back c).In-None)
    ∙ printed_reads_back u (order_ascends 0 u c.args.script.now.ordered) (order_spellable 0 u c.args.script.now.ordered)
