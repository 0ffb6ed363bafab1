use Rattle.std.proofs.Common.{◌+◌, drop, sym, ap, arith}
use Rattle.format.specs.Lines.{took, slot}
use Rattle.opening.proofs.Pieces.{cut, on, row_lacks, line_there, row_there}
use Rattle.opening.proofs.entry.entry_at.Goals as goal

pub returns-in_err-field : goal.returns-in_err-field
unfolding slot
returns-in_err-field c =
    let field = c.in_err-field.ensures.is in
    row_lacks c.in_err-field.field-0.0 c.from_residual.ensures.1 (λ base. cut _ _ _ (field.is base))

pub returns-in_err-gap_end : goal.returns-in_err-gap_end
unfolding slot
returns-in_err-gap_end c =
    let field = c.in_ok-field.ensures.is in
    let gap_end = line_there c.to.ensures.src c.to.ensures.place c.in_err-gap_end.ensures in
    row_lacks c.in_err-gap_end.field-0.0 c.from_residual-in_err-gap_end.ensures.1 (λ base. on _ _ (field.is base) (cut _ _ _ (gap_end.is base)))

pub returns-in_err-generation : goal.returns-in_err-generation
unfolding slot
returns-in_err-generation c =
    let field = c.in_ok-field.ensures.is in
    let gap_end = line_there c.to.ensures.src c.to.ensures.place c.in_ok-gap_end.ensures in
    let generation = row_there c.to-2.ensures.src c.to-2.ensures.place c.in_err-generation.ensures.is in
    row_lacks c.in_err-generation.field-0.0 c.from_residual-in_err-generation.ensures.1 (λ base. on _ _ (field.is base) (on _ _ (gap_end.is base) (cut _ _ _ (generation.is base))))

pub returns-in_err-mark_start : goal.returns-in_err-mark_start
unfolding slot
returns-in_err-mark_start c =
    let field = c.in_ok-field.ensures.is in
    let gap_end = line_there c.to.ensures.src c.to.ensures.place c.in_ok-gap_end.ensures in
    let generation = row_there c.to-2.ensures.src c.to-2.ensures.place c.in_ok-generation.ensures.is in
    let mark_start = line_there c.to-3.ensures.src c.to-3.ensures.place c.in_err-mark_start.ensures in
    row_lacks c.in_err-mark_start.field-0.0 c.from_residual-in_err-mark_start.ensures.1 (λ base. on _ _ (field.is base) (on _ _ (gap_end.is base) (on _ _ (generation.is base) (cut _ _ _ (mark_start.is base)))))

pub returns-in_err-in_use : goal.returns-in_err-in_use
unfolding slot
returns-in_err-in_use c =
    let field = c.in_ok-field.ensures.is in
    let gap_end = line_there c.to.ensures.src c.to.ensures.place c.in_ok-gap_end.ensures in
    let generation = row_there c.to-2.ensures.src c.to-2.ensures.place c.in_ok-generation.ensures.is in
    let mark_start = line_there c.to-3.ensures.src c.to-3.ensures.place c.in_ok-mark_start.ensures in
    let in_use = row_there c.to-4.ensures.src c.to-4.ensures.place c.in_err-in_use.ensures in
    row_lacks c.in_err-in_use.field-0.0 c.from_residual-in_err-in_use.ensures.1 (λ base. on _ _ (field.is base) (on _ _ (gap_end.is base) (on _ _ (generation.is base) (on _ _ (mark_start.is base) (cut _ _ _ (in_use.is base))))))

pub returns-in_err-end : goal.returns-in_err-end
unfolding slot
returns-in_err-end c =
    let field = c.in_ok-field.ensures.is in
    let gap_end = line_there c.to.ensures.src c.to.ensures.place c.in_ok-gap_end.ensures in
    let generation = row_there c.to-2.ensures.src c.to-2.ensures.place c.in_ok-generation.ensures.is in
    let mark_start = line_there c.to-3.ensures.src c.to-3.ensures.place c.in_ok-mark_start.ensures in
    let in_use = row_there c.to-4.ensures.src c.to-4.ensures.place c.in_ok-in_use.ensures in
    let end_ = line_there c.to-5.ensures.src c.to-5.ensures.place c.in_err-end.ensures in
    row_lacks c.in_err-end.field-0.0 c.from_residual-in_err-end.ensures.1 (λ base. on _ _ (field.is base) (on _ _ (gap_end.is base) (on _ _ (generation.is base) (on _ _ (mark_start.is base) (on _ _ (in_use.is base) (cut _ _ _ (end_.is base)))))))

pub returns : goal.returns
unfolding slot
returns c =
    let field = c.in_ok-field.ensures.is in
    let gap_end = line_there c.to.ensures.src c.to.ensures.place c.in_ok-gap_end.ensures in
    let generation = row_there c.to-2.ensures.src c.to-2.ensures.place c.in_ok-generation.ensures.is in
    let mark_start = line_there c.to-3.ensures.src c.to-3.ensures.place c.in_ok-mark_start.ensures in
    let in_use = row_there c.to-4.ensures.src c.to-4.ensures.place c.in_ok-in_use.ensures in
    let end_ = line_there c.to-5.ensures.src c.to-5.ensures.place c.in_ok-end.ensures in
    record {
      is = λ base. on _ _ (field.is base) (on _ _ (gap_end.is base) (on _ _ (generation.is base) (on _ _ (mark_start.is base) (on _ _ (in_use.is base) (on _ _ (end_.is base) (ap (λ s. took s (base + c.in_ok-end.end) (drop c.in_ok-end.end c.args.at.src.now)) (sym c.entry_of.ensures)))))));
      within = (omega (arith, field.within.0, gap_end.within.0, generation.within.0, mark_start.within.0, in_use.within.0, end_.within.0), end_.within.1);
    }
