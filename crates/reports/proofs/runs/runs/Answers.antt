use Rattle.std.proofs.Common.{◌≡◌, vec_items, ap, ◌∙◌, rules, tests}
use Rattle.std.proofs.lemmas.Iterator.Consumers.{YieldsList-end}
use Rattle.std.specs.List.{flat_map}
use Rattle.reports.specs.Runs.{numbers_in, runs_of}
use Rattle.reports.proofs.Grouped.{groups}
use Rattle.reports.proofs.Listed.{runs_whole}
use Rattle.reports.proofs.runs.runs.Goals as goal
use Rattle.reports.proofs.runs.runs.Goals.{In-None}

-- all groups were told
told : (c : In-None) → vec_items c.loop-run.all ≡ runs_of c.args.numbers.now
told c =
    c.loop-run.invariant
    ∙ (YieldsList-end (groups _ c.args.numbers.now (ap (λ s. s.rest.now) c.into_iter-run-iterator.ensures.into_iter_gives ∙ c.chunk_by-run-items.ensures.rest) (ap (λ s. s.same) c.into_iter-run-iterator.ensures.into_iter_gives ∙ c.chunk_by-run-items.ensures.closure) (λ a b q k. search (rules, tests)))
    c.loop-run.yielded _ c.loop-run.yielded_by _ _ c.in-None.is c.next.ensures.steps).0

pub returns-clause-runs : goal.returns-clause-runs
returns-clause-runs c = told c

pub returns-clause-whole : goal.returns-clause-whole
returns-clause-whole c = ap (flat_map numbers_in) (told c) ∙ runs_whole c.args.numbers.now
