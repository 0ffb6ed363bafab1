use Rattle.std.proofs.Common.{arith}
use Rattle.std.proofs.lemmas.Bool.{eq-eqb, ne_eqb}
use Rattle.format.specs.Lines.{number_line}
use Rattle.opening.proofs.Pieces.{cut, on, line_lacks, line_there}
use Rattle.opening.proofs.lines.number_line.Goals as goal

pub returns-in_err-number : goal.returns-in_err-number
unfolding number_line
returns-in_err-number c = line_lacks c.in_err-number.field-0.0 c.from_residual.ensures.1 (λ base. cut _ _ _ (c.in_err-number.ensures.is.is base))

pub returns-in_err-end : goal.returns-in_err-end
unfolding number_line
returns-in_err-end c =
    let eol = line_there c.to.ensures.src c.to.ensures.place c.in_err-end.ensures in
    line_lacks c.in_err-end.field-0.0 c.from_residual-in_err-end.ensures.1 (λ base. on _ _ (c.in_ok-number.ensures.is.is base) (cut _ _ _ (eol.is base)))

pub returns-then-number-n : goal.returns-then-number-n
unfolding number_line
returns-then-number-n c =
    let f = ne_eqb c.in_ok-number.number c.args.n c.if-number-n.true in
    let eol = line_there c.to.ensures.src c.to.ensures.place c.in_ok-end.ensures in
    record { is = λ base. on _ _ (c.in_ok-number.ensures.is.is base) (on _ _ (eol.is base) (rw f)); within = tt }

pub returns : goal.returns
unfolding number_line
returns c =
    let e = eq-eqb c.in_ok-number.number c.args.n c.if-number-n.false in
    let eol = line_there c.to.ensures.src c.to.ensures.place c.in_ok-end.ensures in
    record {
      is = λ base. on _ _ (c.in_ok-number.ensures.is.is base) (on _ _ (eol.is base) (rw e));
      within = (omega (arith, c.in_ok-number.ensures.is.within.0, eol.within.0), eol.within.1);
    }
