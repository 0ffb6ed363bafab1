-- A file is refused exactly with the fault of the first breach.
use Rattle.std.proofs.Common.{◌≡◌, ◌+◌, ◌≤◌, true, false, eqb, leb, List, [], length, None, Err, sym, refl, ap, ◌∙◌, subst, arith}
use Rattle.std.proofs.lemmas.Bool.{leb-true, le-leb}
use Rattle.faults.specs.declared.fault.Fault.{Fault}
use Rattle.format.specs.Bytes.{Bytes}
use Rattle.format.specs.Chain.{Link, walk}
use Rattle.format.specs.Revisions.{revisions, header_fits, file_bytes, most_revisions, opens_from, opens}
use Rattle.format.specs.Sections.{last_offset}
use Rattle.chains.proofs.Steps.{by_answer}
use Rattle.locality.proofs.Cases.{cases, cases_o}
use Rattle.tables.proofs.Finds.{some_none, true_false}
use Rattle.rules.specs.Breaches.{FirstBreach, bytes, header, tail, section, revision}
use Rattle.rules.specs.Sections.{Sections}
use Rattle.rules.specs.Stated.{RefusesFirstBreach}
use Rattle.rules.specs.Whole.{Headed}
use Rattle.rules.proofs.Accepts.{neat_linked}
use Rattle.rules.proofs.Faulted.{never_fault, faulted}
use Rattle.rules.proofs.Histories.{from_start}
use Rattle.rules.proofs.Linked.{sections_linked}
use Rattle.rules.proofs.Newest.{Neat}
use Rattle.rules.proofs.RevisionFaults as ofRevisions
use Rattle.rules.proofs.SectionFaults as ofSections
use Rattle.rules.proofs.Tables.{no_table}
use Rattle.rules.proofs.Walks.{walk_sections, tests_newest, sections_found}
use Rattle.rules.proofs.Wholes.{headed, header_fits_fact, tail_there, tail_found_is}

neat_sections : (file : Bytes) (links : List Link) → Sections file links → Neat links
neat_sections file links s = neat_linked file links (sections_linked file links s)

-- what is refused breaks a rule
pub refused_breach : (file : Bytes) (f : Fault) → opens file ≡ Err f → FirstBreach file f
unfolding opens opens_from
refused_breach file f h =
    cases (leb (length file) file_bytes)
    (λ s.
    cases (header_fits file)
    (λ d.
    cases_o (last_offset file)
    (λ t. tail (leb-true (length file) file_bytes s) (headed file d) (λ n e. some_none (sym (tail_there file n e) ∙ t)) (sym (faulted (rw (s, d, t) at h))))
    (λ off t.
    by_answer (walk most_revisions file off (λ e. eqb e (length file)) [])
    (λ ls w.
    by_answer (revisions file true [] ls)
    (λ rs m. never_fault (rw (s, d, t, w, m) at h))
    (λ x m. made (leb-true (length file) file_bytes s) (headed file d) ls (walk_sections most_revisions file off (λ e. eqb e (length file)) [] ls (tail_found_is file off t) (tests_newest file) w) x m (faulted (rw (s, d, t, w, m) at h))))
    (λ x w. walked (leb-true (length file) file_bytes s) (headed file d) (ofSections.walk_breach most_revisions file off (λ e. eqb e (length file)) [] x (tail_found_is file off t) (tests_newest file) (omega arith) w) (faulted (rw (s, d, t, w) at h)))))
    (λ d. header (leb-true (length file) file_bytes s) (λ a. true_false (sym (header_fits_fact file a) ∙ d)) (sym (faulted (rw (s, d) at h)))))
    (λ s. bytes (λ a. true_false (sym (le-leb (length file) file_bytes a) ∙ s)) (sym (faulted (rw s at h))))
  where
    walked : {x : Fault} → length file ≤ file_bytes → Headed file → ofSections.Broken file x → x ≡ f → FirstBreach file f
    walked s d b q = subst (λ (y : Fault). FirstBreach file y) q (section s d b.newer b.offset b.leads b.breach)

    made : length file ≤ file_bytes → Headed file → (ls : List Link) → Sections file ls × (length ls ≤ most_revisions + length {A = Link} []) → (x : Fault) → revisions file true [] ls ≡ Err x → x ≡ f → FirstBreach file f
    made s d ls w x m q =
        let n = neat_sections file ls w.0 in
        let b = ofRevisions.revisions_breach file ls n 0 true [] ls x refl (no_table file ls) (from_start file ls n) (λ j y g. absurd (omega arith)) m in
        subst (λ (y : Fault). FirstBreach file y) q
        (revision s d ls w.0 (let k = w.1 in omega arith) b.place b.link b.stands b.earlier b.breach)

-- what breaks a rule first is refused
pub breach_refused : (file : Bytes) (f : Fault) → FirstBreach file f → opens file ≡ Err f
unfolding opens opens_from
breach_refused file f (bytes a e) =
    let s : leb (length file) file_bytes ≡ false = cases (leb (length file) file_bytes) (λ h. absurd (a (leb-true (length file) file_bytes h))) (λ h. h) in
    rw s (ap Err (sym e))
breach_refused file f (header s a e) =
    let d : header_fits file ≡ false = cases (header_fits file) (λ h. absurd (a (headed file h))) (λ h. h) in
    rw (le-leb (length file) file_bytes s) (rw d (ap Err (sym e)))
breach_refused file f (tail s d a e) =
    let t : last_offset file ≡ None = cases_o (last_offset file) (λ h. h) (λ n h. absurd (a n (tail_found_is file n h))) in
    rw (le-leb (length file) file_bytes s) (rw (header_fits_fact file d) (rw t (ap Err (sym e))))
breach_refused file f (section s d newer off t b) =
    let w = ofSections.breach_walk file newer off f t b in
    rw (le-leb (length file) file_bytes s) (rw (header_fits_fact file d) (rw w.tail (rw w.walked refl)))
breach_refused file f (revision s d links c few k l g e b) =
    let n = neat_sections file links c in
    let w = sections_found file links c few in
    let m = ofRevisions.breach_revisions file links n 0 true [] links f refl (no_table file links) (from_start file links n) (record { place = k; link = l; stands = g; earlier = e; breach = b }) (omega arith) in
    rw (le-leb (length file) file_bytes s) (rw (header_fits_fact file d) (rw w.tail (rw w.walked (rw m refl))))

pub refuses_first_breach : RefusesFirstBreach
refuses_first_breach = record { refused = refused_breach; refuses = breach_refused }
