use Rattle.std.proofs.Common.{codes, arith}
use Rattle.format.specs.Lines.{exact_line, number_line}
use Rattle.format.specs.Sections.{tail}
use Rattle.opening.proofs.Answered.{then_on, then_cut, passed_bad, line_read, line_there, ends_from}
use Rattle.opening.proofs.view.View.tail.Goals as goal

pub to-second-requires : goal.to-second-requires
to-second-requires c =
    let here = c.args.self in
    (line_read (exact_line (codes "startxref")) here.base here.at.src.now here.at.place _ c.exact_line.ensures _ c.in_ok-number.ensures).within.1

pub to-last-requires : goal.to-last-requires
to-last-requires c =
    let second = c.to-second in
    rw second.ensures.src at (line_read (number_line c.args.offset) second.result.base second.result.at.src.now second.result.at.place _ c.number_line.ensures _ c.in_ok-mark.ensures).within.1

pub returns-in_err-number-clause-is : goal.returns-in_err-number-clause-is
unfolding tail
returns-in_err-number-clause-is c =
    let here = c.args.self in
    let first = line_read (exact_line (codes "startxref")) here.base here.at.src.now here.at.place _ c.exact_line.ensures _ c.in_err-number.ensures in
    passed_bad here.base here.at.src.now _ c.in_err-number.field-0.0 c.from_residual.ensures.1 (then_cut _ _ first.is)

pub returns-in_err-mark-clause-is : goal.returns-in_err-mark-clause-is
unfolding tail
returns-in_err-mark-clause-is c =
    let here = c.args.self in
    let to = c.to-second in
    let first = line_read (exact_line (codes "startxref")) here.base here.at.src.now here.at.place _ c.exact_line.ensures _ c.in_ok-number.ensures in
    let second = line_there to.ensures.base to.ensures.src to.ensures.place (line_read (number_line c.args.offset) to.result.base to.result.at.src.now to.result.at.place _ c.number_line.ensures _ c.in_err-mark.ensures) in
    passed_bad here.base here.at.src.now _ c.in_err-mark.field-0.0 c.from_residual-in_err-mark.ensures.1 (then_on _ _ first.is (then_cut _ _ second.is))

pub returns : goal.returns
unfolding tail
returns c =
    let here = c.args.self in
    let to = c.to-second in
    let on = c.to-last in
    let first = line_read (exact_line (codes "startxref")) here.base here.at.src.now here.at.place _ c.exact_line.ensures _ c.in_ok-number.ensures in
    let second = line_there to.ensures.base to.ensures.src to.ensures.place (line_read (number_line c.args.offset) to.result.base to.result.at.src.now to.result.at.place _ c.number_line.ensures _ c.in_ok-mark.ensures) in
    let third = line_there on.ensures.base on.ensures.src on.ensures.place (line_read (exact_line (codes "%%EOF")) on.result.base on.result.at.src.now on.result.at.place _ c.exact_line-2.ensures _ c.placed-3.ensures) in
    record {
      is = then_on _ _ first.is (then_on _ _ second.is third.is);
      within = ends_from _ _ c.in_ok-mark.mark _ (omega (arith, first.within.0, second.within.0)) third.within;
    }
