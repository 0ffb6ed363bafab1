use Rattle.std.proofs.Common.{sym, ◌∙◌}
use Rattle.runs.proofs.Making.{made_spent, made_held}
use Rattle.runs.proofs.step.make_call.Goals as goal

pub returns-then-is_spent : goal.returns-then-is_spent
returns-then-is_spent g c =
    made_spent g.S.Store.meaning _ _ c.args.call.now c.make_with.result c.args.slip.now c.requires _ _ c.spent-used.ensures (sym c.is_spent.ensures ∙ c.if-is_spent.true) c.make_with.ensures

pub returns : goal.returns
returns g c =
    made_held g.S.Store.meaning _ _ c.args.call.now c.make_with-2.result c.args.slip.now c.requires _ (sym c.is_spent.ensures ∙ c.if-is_spent.false) c.make_with-2.ensures
