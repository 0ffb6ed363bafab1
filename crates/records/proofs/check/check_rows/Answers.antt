use Rattle.std.proofs.Common.{◌≡◌, sym, ap, ◌∙◌, w64, SFits, to_z, of_z, rules}
use Rattle.std.proofs.lemmas.Int.{to_z-of_z}
use Rattle.format.specs.Revisions.{slots_fit}
use Rattle.entries.specs.Rows.{rows_of}
use Rattle.records.proofs.Answering.{handed}
use Rattle.records.proofs.Checking.{subs_refused, slots_refused, size_refused, cover_refused, root_refused, rows_passed}
use Rattle.records.proofs.check.check_rows.Goals as goal

pub returns-then-not-fits-clause-is : goal.returns-then-not-fits-clause-is
returns-then-not-fits-clause-is c =
    let f : SFits w64 c.args.link.told.size = search rules in
    let e = to_z-of_z w64 c.args.link.told.size f in
    λ file. subs_refused c.args.fits c.args.link c.args.rows.now c.args.old.now _ e file _ c.if-not-fits.true c.broken_rule.ensures

pub returns-in_err-slots_fit-clause-is : goal.returns-in_err-slots_fit-clause-is
returns-in_err-slots_fit-clause-is c =
    let f : SFits w64 c.args.link.told.size = search rules in
    let e = to_z-of_z w64 c.args.link.told.size f in
    let z = handed c.from_residual.result c.in_err-slots_fit.field-0.0 c.from_residual.ensures.1 in
    rw z (λ file. slots_refused c.args.fits c.args.link c.args.rows.now c.args.old.now _ e file c.if-not-fits.false _ c.in_err-slots_fit.ensures)

pub returns-then-not-size_is-clause-is : goal.returns-then-not-size_is-clause-is
returns-then-not-size_is-clause-is c =
    let f : SFits w64 c.args.link.told.size = search rules in
    let e = to_z-of_z w64 c.args.link.told.size f in
    λ file. size_refused c.args.fits c.args.link c.args.rows.now c.args.old.now _ e file c.if-not-fits.false c.in_ok-slots_fit.ensures _ c.highest-size.ensures.is _ c.if-not-size_is.ensures c.broken_rule-then-not-size_is.ensures

pub returns-then-not-covered-clause-is : goal.returns-then-not-covered-clause-is
returns-then-not-covered-clause-is c =
    let f : SFits w64 c.args.link.told.size = search rules in
    let e = to_z-of_z w64 c.args.link.told.size f in
    λ file. cover_refused c.args.fits c.args.link c.args.rows.now c.args.old.now _ e file c.if-not-fits.false c.in_ok-slots_fit.ensures _ c.highest-size.ensures.is c.if-not-size_is.ensures _ c.if-not-covered.ensures c.broken_rule-then-not-covered.ensures

pub returns-then-not-root_fits-clause-is : goal.returns-then-not-root_fits-clause-is
returns-then-not-root_fits-clause-is c =
    let f : SFits w64 c.args.link.told.size = search rules in
    let e = to_z-of_z w64 c.args.link.told.size f in
    λ file. root_refused c.args.fits c.args.link c.args.rows.now c.args.old.now _ e file c.if-not-fits.false c.in_ok-slots_fit.ensures _ c.highest-size.ensures.is c.if-not-size_is.ensures c.if-not-covered.ensures _ _ (c.if-not-root_fits.ensures file) c.broken_rule-then-not-root_fits.ensures c.from.ensures

pub returns-clause-is : goal.returns-clause-is
returns-clause-is c =
    let f : SFits w64 c.args.link.told.size = search rules in
    let e = to_z-of_z w64 c.args.link.told.size f in
    λ file. rows_passed c.args.fits c.args.link c.args.rows.now c.args.old.now _ e file c.if-not-fits.false c.in_ok-slots_fit.ensures _ c.highest-size.ensures.is c.if-not-size_is.ensures c.if-not-covered.ensures (c.if-not-root_fits.ensures file)

pub returns-clause-fits : goal.returns-clause-fits
returns-clause-fits c =
    let f : SFits w64 c.args.link.told.size = search rules in
    let e : to_z w64 (of_z w64 c.args.link.told.size) ≡ c.args.link.told.size = to_z-of_z w64 c.args.link.told.size f in
    sym (c.in_ok-slots_fit.ensures ∙ ap (λ z. slots_fit c.args.link.offset z (rows_of c.args.rows.now)) e)
