use Rattle.std.proofs.Common.{◌++◌, vec_items, ap, ◌∙◌}
use Rattle.scripts.proofs.Dotting.{dot_start, same_inside, same_other}
use Rattle.scripts.proofs.dots.push_byte.Goals as goal
use Rattle.scripts.proofs.dots.push_byte.Goals.{else-starts-via-then-starts+else-b-eq46, else-starts-via-else-starts}

pub returns-then-b-eq46 : goal.returns-then-b-eq46
returns-then-b-eq46 c =
    c.in_ok-extend_from_slice.ensures.items
    ∙ ap (λ ys. vec_items c.args.out.now ++ ys) (dot_start c.args.dot.now c.args.starts c.args.b c.if-starts.true c.if-b-eq46.true)

pub returns : goal.returns
returns c =
    c.in_ok-push.ensures.items
    ∙ ap (λ ys. vec_items c.args.out.now ++ ys)
    (elim c.else-starts.branch [
      | else-starts-via-then-starts+else-b-eq46 w ↦ same_other c.args.dot.now c.args.starts c.args.b w.if-b-eq46.false
      | else-starts-via-else-starts w ↦ same_inside c.args.dot.now c.args.starts c.args.b w.if-starts.false
    ])
