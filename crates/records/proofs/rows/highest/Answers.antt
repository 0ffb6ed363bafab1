use Rattle.std.proofs.Common.{◌≡◌, ◌+◌, ℕ, max, ◌∙◌, refl, ap, arith, rules, tests}
use Rattle.std.proofs.lemmas.Iterator.{YieldsList-from_slice}
use Rattle.std.proofs.lemmas.Iterator.Consumers.{fold_from_yields_List, YieldsList-turn}
use Rattle.format.specs.Revisions.{highest}
use Rattle.entries.specs.declared.entry.Row.{Row}
use Rattle.entries.specs.Rows.{rows_of}
use Rattle.records.proofs.Listings.{bound_number, highest_fold, highest_bound}
use Rattle.records.proofs.rows.highest.Goals as goal

pub fold-requires-clause-callable : goal.fold-requires-clause-callable
fold-requires-clause-callable c = record {
  at =
      λ xs t q x u y folds s.
      let k = YieldsList-turn (YieldsList-from_slice c.args.rows.now cc) xs t y _ u x refl s in
      let b = bound_number c.args.rows.now _ x.now k.0 c.requires.0 in
      let e = ap (λ (r : Row). r.number) k.1 in
      λ _ _ _ _ _ _. omega arith;
}

pub returns-clause-is : goal.returns-clause-is
returns-clause-is c =
    fold_from_yields_List _ (λ (n : ℕ) (r : Row). max n (r.number + 1)) c.args.old c.fold.result c.fold.ensures.ran (YieldsList-from_slice c.args.rows.now cc) (λ a x b q k. search (rules, tests))
    ∙ highest_fold c.args.old c.args.rows.now

pub returns-clause-small : goal.returns-clause-small
returns-clause-small c =
    let e : c.fold.result ≡ highest c.args.old (rows_of c.args.rows.now) =
    fold_from_yields_List _ (λ (n : ℕ) (r : Row). max n (r.number + 1)) c.args.old c.fold.result c.fold.ensures.ran (YieldsList-from_slice c.args.rows.now cc) (λ a x b q k. search (rules, tests))
    ∙ highest_fold c.args.old c.args.rows.now in
    let h = highest_bound c.args.old (rows_of c.args.rows.now) c.requires.0 c.requires.1 in
    omega arith
