use Rattle.std.proofs.Common.{◌++◌, vec_items, sym, ap, ◌∙◌, arith}
use Rattle.writer.proofs.Decimals.{decimal_one, decimal_more}
use Rattle.scripts.proofs.Joins.{two_parts}
use Rattle.scripts.proofs.printing.+add_decimal.Goals as goal

pub returns-then-n-lt10 : goal.returns-then-n-lt10
returns-then-n-lt10 t c =
    c.in_ok-push.ensures.items ∙ ap (λ ys. vec_items c.args.out.now ++ ys) (sym (decimal_one c.args.n.value (omega arith)))

pub returns : goal.returns
returns t c =
    two_parts (vec_items c.args.out.now) _ _ _ _ _
    (rw c.tens.ensures at c.in_ok-add_decimal.ensures)
    c.in_ok-push-2.ensures.items
    (decimal_more c.args.n.value (omega arith) c.args.n.small)
