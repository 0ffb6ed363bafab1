use Rattle.std.proofs.Common.{codes, refl, ◌∙◌, arith}
use Rattle.format.specs.Lines.{exact, exact_line}
use Rattle.opening.specs.Held.{rows_held}
use Rattle.opening.proofs.Answered.{line_read, line_there}
use Rattle.opening.proofs.Listing.{behind_none}
use Rattle.opening.proofs.Readings.{err_case, seen_ok, seen_bad}
use Rattle.opening.proofs.SectionParts.{line_bad, subs_bad, word_bad, trailer_bad, tail_bad, whole}
use Rattle.opening.proofs.section.read_section.Goals as goal

pub returns-in_err-start : goal.returns-in_err-start
returns-in_err-start c =
    let start = line_there refl c.new.ensures.src c.new.ensures.place (line_read (exact_line (codes "xref")) c.args.base c.new.result.src.now c.new.result.place _ c.exact_line.ensures _ c.in_err-start.ensures) in
    err_case _ _ _ c.in_err-start.field-0.0 c.from_residual.ensures.1 (line_bad c.args.base c.args.src.now _ start.is)

pub to-requires : goal.to-requires
to-requires c =
    (line_read (exact_line (codes "xref")) c.args.base c.new.result.src.now c.new.result.place _ c.exact_line.ensures _ c.in_ok-start.ensures).within.1

pub read_subsections-requires : goal.read_subsections-requires
read_subsections-requires c = record { few = rw (c.to.ensures.src ∙ c.new.ensures.src) c.requires.few; held = rw c.clear.ensures (omega arith) }

pub returns-in_err-subsections : goal.returns-in_err-subsections
returns-in_err-subsections c =
    let start = line_there refl c.new.ensures.src c.new.ensures.place (line_read (exact_line (codes "xref")) c.args.base c.new.result.src.now c.new.result.place _ c.exact_line.ensures _ c.in_ok-start.ensures) in
    let e = rw (c.to.ensures.base, c.to.ensures.src ∙ c.new.ensures.src, c.to.ensures.place) at c.in_err-subsections.ensures.is in
    err_case _ _ _ c.in_err-subsections.field-0.0 c.from_residual-in_err-subsections.ensures.1 (subs_bad c.args.base c.args.src.now c.in_ok-start.start start.is _ (seen_bad _ _ e))

pub returns-in_err-word_end : goal.returns-in_err-word_end
returns-in_err-word_end c =
    let start = line_there refl c.new.ensures.src c.new.ensures.place (line_read (exact_line (codes "xref")) c.args.base c.new.result.src.now c.new.result.place _ c.exact_line.ensures _ c.in_ok-start.ensures) in
    let subs = seen_ok _ _ (rw (c.to.ensures.base, c.to.ensures.src ∙ c.new.ensures.src, c.to.ensures.place) at c.in_ok-subsections.ensures.is) in
    let q = c.in_ok-subsections.subsections.«end» in
    let word = line_there c.to-word.ensures.base (c.to-word.ensures.src ∙ c.new.ensures.src) c.to-word.ensures.place (line_read (exact (codes "trailer")) c.to-word.result.base c.to-word.result.at.src.now c.to-word.result.at.place _ c.exact.ensures _ c.in_err-word_end.ensures) in
    err_case _ _ _ c.in_err-word_end.field-0.0 c.from_residual-in_err-word_end.ensures.1 (word_bad c.args.base c.args.src.now c.in_ok-start.start start.is subs.0 q subs.1 _ word.is)

pub to-requires-2 : goal.to-requires-2
to-requires-2 c =
    let word = line_there c.to-word.ensures.base (c.to-word.ensures.src ∙ c.new.ensures.src) c.to-word.ensures.place (line_read (exact (codes "trailer")) c.to-word.result.base c.to-word.result.at.src.now c.to-word.result.at.place _ c.exact.ensures _ c.in_ok-word_end.ensures) in
    rw c.new.ensures.src word.within.1

pub dictionary_at-requires : goal.dictionary_at-requires
dictionary_at-requires c = rw (c.to-2.ensures.src ∙ c.new.ensures.src) c.requires.counts

pub returns-in_err-dictionary : goal.returns-in_err-dictionary
returns-in_err-dictionary c =
    let start = line_there refl c.new.ensures.src c.new.ensures.place (line_read (exact_line (codes "xref")) c.args.base c.new.result.src.now c.new.result.place _ c.exact_line.ensures _ c.in_ok-start.ensures) in
    let subs = seen_ok _ _ (rw (c.to.ensures.base, c.to.ensures.src ∙ c.new.ensures.src, c.to.ensures.place) at c.in_ok-subsections.ensures.is) in
    let q = c.in_ok-subsections.subsections.«end» in
    let word = line_there c.to-word.ensures.base (c.to-word.ensures.src ∙ c.new.ensures.src) c.to-word.ensures.place (line_read (exact (codes "trailer")) c.to-word.result.base c.to-word.result.at.src.now c.to-word.result.at.place _ c.exact.ensures _ c.in_ok-word_end.ensures) in
    err_case _ _ _ c.in_err-dictionary.field-0.0 c.from_residual-in_err-dictionary.ensures.1 (trailer_bad c.args.base c.args.src.now c.in_ok-start.start start.is subs.0 q subs.1 c.in_ok-word_end.word_end word.is _ (rw (c.to-2.ensures.src ∙ c.new.ensures.src, c.to-2.ensures.place) at c.in_err-dictionary.ensures))

pub returns-in_err-end : goal.returns-in_err-end
returns-in_err-end c =
    let start = line_there refl c.new.ensures.src c.new.ensures.place (line_read (exact_line (codes "xref")) c.args.base c.new.result.src.now c.new.result.place _ c.exact_line.ensures _ c.in_ok-start.ensures) in
    let subs = seen_ok _ _ (rw (c.to.ensures.base, c.to.ensures.src ∙ c.new.ensures.src, c.to.ensures.place) at c.in_ok-subsections.ensures.is) in
    let q = c.in_ok-subsections.subsections.«end» in
    let word = line_there c.to-word.ensures.base (c.to-word.ensures.src ∙ c.new.ensures.src) c.to-word.ensures.place (line_read (exact (codes "trailer")) c.to-word.result.base c.to-word.result.at.src.now c.to-word.result.at.place _ c.exact.ensures _ c.in_ok-word_end.ensures) in
    let d = rw (c.to-2.ensures.src ∙ c.new.ensures.src, c.to-2.ensures.place) at c.in_ok-dictionary.ensures in
    let space = rw (c.to-3.ensures.src ∙ c.new.ensures.src, c.to-3.ensures.place) at c.skip_space-tail_start.ensures.is in
    let e = rw (c.to-4.ensures.base, c.to-4.ensures.src ∙ c.new.ensures.src, c.to-4.ensures.place) at c.in_err-end.ensures.is in
    err_case _ _ _ c.in_err-end.field-0.0 c.from_residual-in_err-end.ensures.1 (tail_bad c.args.base c.args.src.now c.in_ok-start.start start.is subs.0 q subs.1 c.in_ok-word_end.word_end word.is _ _ _ d.tree d.trailer space _ e)

pub returns : goal.returns
returns c =
    let start = line_there refl c.new.ensures.src c.new.ensures.place (line_read (exact_line (codes "xref")) c.args.base c.new.result.src.now c.new.result.place _ c.exact_line.ensures _ c.in_ok-start.ensures) in
    let subs = seen_ok _ _ (rw (c.to.ensures.base, c.to.ensures.src ∙ c.new.ensures.src, c.to.ensures.place) at c.in_ok-subsections.ensures.is) in
    let q = c.in_ok-subsections.subsections.«end» in
    let word = line_there c.to-word.ensures.base (c.to-word.ensures.src ∙ c.new.ensures.src) c.to-word.ensures.place (line_read (exact (codes "trailer")) c.to-word.result.base c.to-word.result.at.src.now c.to-word.result.at.place _ c.exact.ensures _ c.in_ok-word_end.ensures) in
    let d = rw (c.to-2.ensures.src ∙ c.new.ensures.src, c.to-2.ensures.place) at c.in_ok-dictionary.ensures in
    let space = rw (c.to-3.ensures.src ∙ c.new.ensures.src, c.to-3.ensures.place) at c.skip_space-tail_start.ensures.is in
    let e = rw (c.to-4.ensures.base, c.to-4.ensures.src ∙ c.new.ensures.src, c.to-4.ensures.place) at c.in_ok-end.ensures in
    let l = behind_none (rows_held c.clear.new.self) _ _ _ _ c.clear.ensures subs.2 in
    record {
      tree = _;
      is = whole c.args.base c.args.src.now c.in_ok-start.start start.is subs.0 q subs.1 c.in_ok-word_end.word_end word.is _ _ _ d.tree d.trailer space _ e.is;
      offset = refl;
      ends = refl;
      listed = l.0;
      one = l.1;
      marked = refl;
      closes = c.in_ok-dictionary.dictionary.«end»;
      trailer = d.inside;
      opens = d.laid.opens;
      inside = omega (arith, d.laid.closes, c.skip_space-tail_start.ensures.low, c.to-3.ensures.place, e.within.0);
      within = e.within.1;
    }
