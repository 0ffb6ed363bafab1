use Rattle.std.proofs.Common.{◌++◌, vec_items, sym, ap, ◌∙◌}
use Rattle.scripts.specs.Dots.{dotted}
use Rattle.scripts.specs.Rows.{change_of}
use Rattle.scripts.proofs.Joins.{add_removal, add_put}
use Rattle.scripts.proofs.printing.add_change.Goals as goal

pub returns-in_ok-add_head-in-Removed : goal.returns-in_ok-add_head-in-Removed
returns-in_ok-add_head-in-Removed c =
    add_removal (vec_items c.args.out.now) _ c.args.number.value _ (ap change_of (sym c.in-Removed.is)) c.in_ok-add_head-in-Removed.ensures

pub returns-in_ok-extend_from_slice-in-Body : goal.returns-in_ok-extend_from_slice-in-Body
returns-in_ok-extend_from_slice-in-Body c =
    add_put (vec_items c.args.out.now) _ _ _ c.args.number.value (vec_items c.in-Body.bytes) _ (ap change_of (sym c.in-Body.is))
    c.in_ok-add_head-in-Body.ensures
    (c.in_ok-add_text-in-Body.ensures ∙ ap (λ ys. vec_items c.add_head-in-Body.new.out ++ dotted ys) c.as_slice.ensures.value)
    c.in_ok-extend_from_slice-in-Body.ensures.items
