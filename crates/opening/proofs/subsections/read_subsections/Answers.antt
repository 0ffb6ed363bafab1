use Rattle.std.proofs.Common.{◌+◌, drop, arith}
use Rattle.opening.proofs.AllSubs.{all_first_bad, all_bad, all_read}
use Rattle.opening.proofs.Readings.{reads_bad}
use Rattle.opening.proofs.subsections.read_subsections.Goals as goal

pub returns-in_err-one : goal.returns-in_err-one
returns-in_err-one c =
    let view = c.args.view in
    reads_bad c.in_err-one.field-0.0 c.from_residual.ensures.1 (all_first_bad (view.base + view.at.place) (drop view.at.place view.at.src.now) _ _ c.in_err-one.ensures.is.is)

pub read_more-requires : goal.read_more-requires
read_more-requires c =
    let to = c.to-behind.ensures in
    record { few = rw to.src c.requires.few; held = rw to.place c.in_ok-one.ensures.held }

pub returns-in_err-end : goal.returns-in_err-end
returns-in_err-end c =
    let view = c.args.view in
    let to = c.to-behind.ensures in
    let e = rw (to.base, to.src, to.place) at c.in_err-end.ensures.is in
    reads_bad c.in_err-end.field-0.0 c.from_residual-in_err-end.ensures.1 (all_bad (view.base + view.at.place) (drop view.at.place view.at.src.now) _ _ _ _ _ _ c.in_ok-one.ensures.is.is _ e)

pub returns : goal.returns
returns c =
    let view = c.args.view in
    let to = c.to-behind.ensures in
    let a = c.in_ok-one.ensures.is in
    let b = rw (to.base, to.src, to.place) at c.in_ok-end.ensures in
    let o = rw (to.src, to.place) at c.is_one_from_zero-one_from_zero.ensures in
    record {
      is = all_read (view.base + view.at.place) (drop view.at.place view.at.src.now) _ _ _ _ _ _ a.is _ _ _ _ b.is o;
      within = (omega (arith, a.within.0, b.within.0), b.within.1);
    }
