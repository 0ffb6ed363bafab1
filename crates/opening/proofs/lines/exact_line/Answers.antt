use Rattle.format.specs.Lines.{exact_line}
use Rattle.opening.proofs.Pieces.{cut, on, passes_from, line_lacks, line_there}
use Rattle.opening.proofs.lines.exact_line.Goals as goal

pub returns-in_err-end : goal.returns-in_err-end
unfolding exact_line
returns-in_err-end c = line_lacks c.in_err-end.field-0.0 c.from_residual.ensures.1 (λ base. cut _ _ _ (c.in_err-end.ensures.is base))

pub returns : goal.returns
unfolding exact_line
returns c =
    let eol = line_there c.to.ensures.src c.to.ensures.place c.eol.ensures in
    record {
      is = λ base. on _ _ (c.in_ok-end.ensures.is base) (eol.is base);
      within = passes_from _ _ c.in_ok-end.end _ c.in_ok-end.ensures.within.0 eol.within;
    }
