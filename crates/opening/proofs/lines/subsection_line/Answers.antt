use Rattle.std.proofs.Common.{refl, arith}
use Rattle.format.specs.Lines.{sub_line}
use Rattle.opening.proofs.Pieces.{cut, on, row_lacks, line_there, row_there}
use Rattle.opening.proofs.lines.subsection_line.Goals as goal

pub returns-in_err-first-clause-is : goal.returns-in_err-first-clause-is
unfolding sub_line
returns-in_err-first-clause-is c =
    let first = c.in_err-first.ensures.is in
    row_lacks c.in_err-first.field-0.0 c.from_residual.ensures.1 (λ base. cut _ _ _ (first.is base))

pub returns-in_err-gap_end-clause-is : goal.returns-in_err-gap_end-clause-is
unfolding sub_line
returns-in_err-gap_end-clause-is c =
    let first = c.in_ok-first.ensures.is in
    let gap_end = line_there c.to.ensures.src c.to.ensures.place c.in_err-gap_end.ensures in
    row_lacks c.in_err-gap_end.field-0.0 c.from_residual-in_err-gap_end.ensures.1 (λ base. on _ _ (first.is base) (cut _ _ _ (gap_end.is base)))

pub returns-in_err-count-clause-is : goal.returns-in_err-count-clause-is
unfolding sub_line
returns-in_err-count-clause-is c =
    let first = c.in_ok-first.ensures.is in
    let gap_end = line_there c.to.ensures.src c.to.ensures.place c.in_ok-gap_end.ensures in
    let count = row_there c.to-2.ensures.src c.to-2.ensures.place c.in_err-count.ensures.is in
    row_lacks c.in_err-count.field-0.0 c.from_residual-in_err-count.ensures.1 (λ base. on _ _ (first.is base) (on _ _ (gap_end.is base) (cut _ _ _ (count.is base))))

pub returns-in_err-end-clause-is : goal.returns-in_err-end-clause-is
unfolding sub_line
returns-in_err-end-clause-is c =
    let first = c.in_ok-first.ensures.is in
    let gap_end = line_there c.to.ensures.src c.to.ensures.place c.in_ok-gap_end.ensures in
    let count = row_there c.to-2.ensures.src c.to-2.ensures.place c.in_ok-count.ensures.is in
    let end_ = line_there c.to-3.ensures.src c.to-3.ensures.place c.in_err-end.ensures in
    row_lacks c.in_err-end.field-0.0 c.from_residual-in_err-end.ensures.1 (λ base. on _ _ (first.is base) (on _ _ (gap_end.is base) (on _ _ (count.is base) (cut _ _ _ (end_.is base)))))

pub returns-clause-is : goal.returns-clause-is
unfolding sub_line
returns-clause-is c =
    let first = c.in_ok-first.ensures.is in
    let gap_end = line_there c.to.ensures.src c.to.ensures.place c.in_ok-gap_end.ensures in
    let count = row_there c.to-2.ensures.src c.to-2.ensures.place c.in_ok-count.ensures.is in
    let end_ = line_there c.to-3.ensures.src c.to-3.ensures.place c.in_ok-end.ensures in
    record {
      is = λ base. on _ _ (first.is base) (on _ _ (gap_end.is base) (on _ _ (count.is base) (on _ _ (end_.is base) refl)));
      within = (omega (arith, first.within.0, gap_end.within.0, count.within.0, end_.within.0), end_.within.1);
    }
