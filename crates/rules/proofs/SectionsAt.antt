-- A section is read at its offset exactly where it stands there.
use Rattle.std.proofs.Common.{◌≡◌, ◌+◌, ◌-◌, ◌<◌, ◌≤◌, min, leb, length, take, drop, sym, ap, ◌∙◌, arith, length-append, length-drop, length-take}
use Rattle.std.proofs.lemmas.Bool.{le-leb}
use Rattle.format.specs.Bytes.{Bytes, ok}
use Rattle.format.specs.Chain.{window_bytes, section_in}
use Rattle.format.specs.Sections.{Section, section}
use Rattle.format.specs.Strings.{turns}
use Rattle.chains.proofs.Steps.{never_reading}
use Rattle.locality.proofs.Cases.{cases}
use Rattle.rules.specs.Forms.{SectionBytes}
use Rattle.rules.specs.Sections.{SectionAt}
use Rattle.rules.specs.Whole.{ending}
use Rattle.rules.proofs.SectionForms.{section_shape, section_taken}
use Rattle.rules.proofs.SubForms.{subs_few}

-- what is read stands there
pub reads_at : (file : Bytes) (s : Section) (rest : Bytes) → section_in file s.offset ≡ ok s s.end rest → SectionAt file s
unfolding section_in
reads_at file s rest h =
    cases (leb s.offset (length file))
    (λ b. stands (rw (b, section_in) at h))
    (λ b. never_reading (rw (b, section_in) at h))
  where
    stands : section s.offset (take window_bytes (drop s.offset file)) ≡ ok s s.end rest → SectionAt file s
    stands e =
        let n = length-take window_bytes (drop s.offset file) in
        let d = section_shape s.offset (take window_bytes (drop s.offset file)) s s.end rest (omega arith) e in
        record { own = d.own; behind = rest; window = d.parts; form = d.form; end = d.to; whole = d.whole }

-- a section's subsections are part of its bytes, and there is more
table_within : (s : Section) (own : Bytes) (b : SectionBytes s own) → length b.table + length b.dictionary + 4 ≤ length own
table_within s own b =
    let l : length own ≡ 4 + (length (ending b.line) + (length b.table + (7 + (length b.lead + (length b.dictionary + (length b.gap + length b.last)))))) =
    ap length b.is ∙ simp length-append (omega arith) in
    omega arith

-- what stands there is read
pub at_reads : (file : Bytes) (s : Section) → (a : SectionAt file s) → section_in file s.offset ≡ ok s s.end a.behind
unfolding section_in
at_reads file s a =
    let t = table_within s a.own a.form in
    let n = subs_few s.subsections 0 a.form.table a.form.subsections in
    let sized : length a.own + length a.behind ≡ min window_bytes (length file - s.offset) =
    sym (length-append a.own a.behind) ∙ ap length (sym a.window) ∙ length-take window_bytes (drop s.offset file) ∙ ap (min window_bytes) (length-drop s.offset file) in
    let inside : s.offset ≤ length file = omega arith in
    let few : length s.subsections < turns = omega arith in
    rw (le-leb s.offset (length file) inside, section_in) (ap (section s.offset) a.window ∙ section_taken s a.own a.behind a.form a.end few (omega arith) a.whole)
