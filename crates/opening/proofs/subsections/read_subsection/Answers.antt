use Rattle.std.proofs.Common.{◌+◌, ◌^◌, ◌≤◌, drop, sym, refl, ap, ◌∙◌, arith}
use Rattle.format.specs.Bytes.{bad}
use Rattle.format.specs.Lines.{sub_line}
use Rattle.opening.proofs.Answered.{row_read, both_below}
use Rattle.opening.proofs.Readings.{reads_bad}
use Rattle.opening.proofs.Subs.{sub_line_bad, sub_unfit, sub_fits, sub_bad}
use Rattle.opening.proofs.subsections.read_subsection.Goals as goal

pub returns-in_err-first-clause-is : goal.returns-in_err-first-clause-is
returns-in_err-first-clause-is c =
    let view = c.args.view in
    let b = row_read (λ x. x) sub_line view.base view.at.src.now view.at.place _ c.subsection_line.ensures.is _ c.in_err-first.ensures in
    reads_bad c.in_err-first.field-0.0 c.from_residual.ensures.1 (sub_line_bad c.args.low (view.base + view.at.place) (drop view.at.place view.at.src.now) _ _ b.is)

pub returns-then-first-low-clause-is : goal.returns-then-first-low-clause-is
returns-then-first-low-clause-is c =
    let view = c.args.view in
    let b = row_read (λ x. x) sub_line view.base view.at.src.now view.at.place _ c.subsection_line.ensures.is _ c.in_ok-first.ensures in
    reads_bad _ refl (sub_unfit c.args.low (view.base + view.at.place) (drop view.at.place view.at.src.now) _ _ _ _ _ b.is c.then-first-low.either ∙ ap bad (sym c.line_fault.ensures))

pub to-requires : goal.to-requires
to-requires c =
    let view = c.args.view in
    let b = row_read (λ x. x) sub_line view.base view.at.src.now view.at.place _ c.subsection_line.ensures.is _ c.in_ok-first.ensures in
    b.within.1

pub read_entries-requires : goal.read_entries-requires
read_entries-requires c =
    let view = c.args.view in
    let b = row_read (λ x. x) sub_line view.base view.at.src.now view.at.place _ c.subsection_line.ensures.is _ c.in_ok-first.ensures in
    let s = both_below (10 ^ 10) _ _ _ _ c.in_ok-first.ensures c.subsection_line.ensures.small in
    record {
      window = record { few = rw c.to.ensures.src c.requires.few; held = omega (arith, c.requires.held, b.within.0, c.to.ensures.place) };
      numbers = omega (arith, s.0, s.1);
    }

pub returns-in_err-end-clause-is : goal.returns-in_err-end-clause-is
returns-in_err-end-clause-is c =
    let view = c.args.view in
    let b = row_read (λ x. x) sub_line view.base view.at.src.now view.at.place _ c.subsection_line.ensures.is _ c.in_ok-first.ensures in
    let e = rw (c.to.ensures.base, c.to.ensures.src, c.to.ensures.place) at c.in_err-end.ensures.is.is in
    let l : 1 ≤ c.in_ok-first.count = omega (arith, c.if-count-eq0.false) in
    reads_bad c.in_err-end.field-0.0 c.from_residual-in_err-end.ensures.1 (sub_bad c.args.low (view.base + view.at.place) (drop view.at.place view.at.src.now) _ _ _ _ _ b.is c.if-first-low.false l e)

pub returns-clause-is : goal.returns-clause-is
returns-clause-is c =
    let view = c.args.view in
    let b = row_read (λ x. x) sub_line view.base view.at.src.now view.at.place _ c.subsection_line.ensures.is _ c.in_ok-first.ensures in
    let e = rw (c.to.ensures.base, c.to.ensures.src, c.to.ensures.place) at c.in_ok-end.ensures in
    let l : 1 ≤ c.in_ok-first.count = omega (arith, c.if-count-eq0.false) in
    record {
      is = sub_fits c.args.low (view.base + view.at.place) (drop view.at.place view.at.src.now) _ _ _ _ _ b.is c.if-first-low.false l e.is.is;
      within = (omega (arith, b.within.0, e.is.within.0), e.is.within.1);
    }

pub returns-clause-long : goal.returns-clause-long
returns-clause-long c =
    let view = c.args.view in
    let b = row_read (λ x. x) sub_line view.base view.at.src.now view.at.place _ c.subsection_line.ensures.is _ c.in_ok-first.ensures in
    let l : 1 ≤ c.in_ok-first.count = omega (arith, c.if-count-eq0.false) in
    omega (arith, b.within.0, c.in_ok-end.ensures.long, c.to.ensures.place)

pub returns-clause-small : goal.returns-clause-small
returns-clause-small c = both_below (10 ^ 10) _ _ _ _ c.in_ok-first.ensures c.subsection_line.ensures.small
