-- The walk from the newest section back: where it is refused, a section breaks a rule, and all those behind it hold theirs.
use Rattle.std.proofs.Common.{◌≡◌, ℕ, zero, suc, ◌+◌, ◌<◌, Bool, true, false, eqb, ltb, leb, List, [], ◌∷◌, length, ℤ, pos, negsuc, Some, None, Ok, Err, Option, sym, refl, ap, ◌∙◌, subst, arith}
use Rattle.std.proofs.lemmas.Bool.{ltb-false}
use Rattle.faults.specs.declared.fault.Fault.{Fault}
use Rattle.faults.specs.declared.reason.Reason.TheVariants.{ChainRule, FileBound}
use Rattle.format.specs.Bytes.{Bytes, ok, bad}
use Rattle.format.specs.Chain.{Told, told, in_bound, Link, below, before, section_in, checked_section, link, walk}
use Rattle.format.specs.Failures.{chain_fault}
use Rattle.format.specs.Revisions.{most_revisions}
use Rattle.format.specs.Sections.{Section, last_offset}
use Rattle.chains.proofs.Needs.{needed}
use Rattle.chains.proofs.Steps.{by_answer, by_reading}
use Rattle.chains.proofs.Windows.{standing}
use Rattle.locality.proofs.Cases.{cases, cases_o}
use Rattle.sections.proofs.Local.{not_bad}
use Rattle.tables.proofs.Finds.{some_none, true_false}
use Rattle.rules.specs.Breaches.{SectionBreach, many, form, numbers, trailer, prev, end}
use Rattle.rules.specs.Sections.{SectionAt, rows, Bounded, Says, PrevBelow, MayEnd, LeadsTo}
use Rattle.rules.proofs.Faulted.{never_fault, faulted}
use Rattle.rules.proofs.SectionsAt.{reads_at, at_reads}
use Rattle.rules.proofs.Trailers.{told_says, says_told}
use Rattle.rules.proofs.Walks.{bound_each, each_bound, before_is, Tests, tests_older, link_stepped, prev_of, leads_reached}
use Rattle.rules.proofs.Numbers.{left_over, pos_once}

never_pos : {P : Type 0} {m n : ℕ} → negsuc m ≡ pos n → P
never_pos e = let z : ◌≡◌ {A = ℕ} 0 1 = cc in absurd (omega arith)

-- a Prev that does not lead below
before_bad : (off : ℕ) (p : Option ℤ) (x : Fault) → before off p ≡ Err x → (x ≡ chain_fault ChainRule off 0) × (((z : ℤ) → p ≡ Some z → (c : ℕ) × (z ≡ pos c) × (c < off)) → ⊥)
unfolding before below
before_bad off None x h = never_fault h
before_bad off (Some (pos n)) x h =
    cases (ltb n off)
    (λ l. never_fault (rw (l, below, before) at h))
    (λ l. (
      sym (faulted (rw (l, below, before) at h)),
      λ g. let w = g (pos n) refl in let q : n ≡ w.0 = pos_once w.1 in let k = w.2 in let m = ltb-false n off l in omega arith,
    ))
before_bad off (Some (negsuc n)) x h = (sym (faulted h), λ g. never_pos (g (negsuc n) refl).1)

bad_before : (off : ℕ) (p : Option ℤ) → (((z : ℤ) → p ≡ Some z → (c : ℕ) × (z ≡ pos c) × (c < off)) → ⊥) → before off p ≡ Err (chain_fault ChainRule off 0)
bad_before off p g =
    by_answer (before off p)
    (λ b e. absurd (g (before_is off p b e).1))
    (λ x e. e ∙ ap Err (before_bad off p x e).0)

good_before : (off : ℕ) (p : Option ℤ) → ((z : ℤ) → p ≡ Some z → (c : ℕ) × (z ≡ pos c) × (c < off)) → (b : Option ℕ) × (before off p ≡ Ok b)
good_before off p g = by_answer (before off p) (λ b e. (b, e)) (λ x e. absurd ((before_bad off p x e).1 g))

unbound : (s : Section) → in_bound (rows s) ≡ false → Bounded s → ⊥
unbound s i b = true_false (sym (each_bound (rows s) b) ∙ i)

unsaid : (s : Section) → told s.trailer ≡ None → (t : Told) → Says s.trailer t → ⊥
unsaid s n t a = some_none (sym (says_told s.trailer t a) ∙ n)

-- where the checks of a section behind its form refuse it, one of its rules is broken
checked_breach : (file : Bytes) (off : ℕ) (fits : ℕ → Bool) (newer : List Link) (s : Section) (f : Fault) → Tests fits file newer → length newer < most_revisions → SectionAt file s → s.offset ≡ off →
    checked_section fits s ≡ Err f → SectionBreach file newer off f
unfolding checked_section
checked_breach file off fits newer s f t few at so h =
    cases (in_bound (rows s))
    (λ i.
    cases_o (told s.trailer)
    (λ n. trailer few s at so (λ m e w. bound_each (rows s) i m e w) (unsaid s n) (sym (faulted (rw (i, n, checked_section) at h))))
    (λ y n.
    by_answer (before s.offset y.prev)
    (λ b m.
    cases (fits s.end)
    (λ g. never_fault (rw (i, n, m, g, checked_section) at h))
    (λ g.
    end few s at so (λ j e w. bound_each (rows s) i j e w) y (told_says s.trailer y n)
    (subst (λ (x : ℕ). PrevBelow x y) so (before_is s.offset y.prev b m).1)
    (λ c. true_false (sym ((t s.end).1 c) ∙ g))
    (sym (faulted (rw (i, n, m, g, checked_section) at h)) ∙ ap (λ (x : ℕ). chain_fault ChainRule x 0) so)))
    (λ x m.
    let w = before_bad s.offset y.prev x m in
    prev few s at so (λ j e v. bound_each (rows s) i j e v) y (told_says s.trailer y n)
    (λ c. w.1 (subst (λ (z : ℕ). PrevBelow z y) (sym so) c))
    (sym (faulted (rw (i, n, m, checked_section) at h)) ∙ w.0 ∙ ap (λ (z : ℕ). chain_fault ChainRule z 0) so))))
    (λ i. numbers few s at so (unbound s i) (sym (faulted (rw (i, checked_section) at h))))

read_there : (file : Bytes) (off : ℕ) (s : Section) → (at : SectionAt file s) → s.offset ≡ off → section_in file off ≡ ok s s.end at.behind
read_there file off s at so = ap (section_in file) (sym so) ∙ at_reads file s at

link_breach : (file : Bytes) (off : ℕ) (fits : ℕ → Bool) (newer : List Link) (f : Fault) → Tests fits file newer → length newer < most_revisions → link file off fits ≡ Err f → SectionBreach file newer off f
unfolding link
link_breach file off fits newer f t few h =
    by_reading (section_in file off)
    (λ s e rest g.
    let d = standing needed file off s e rest g in
    let so = d.offset in
    let se = d.end in
    checked_breach file off fits newer s f t few (reads_at file s rest (ap (section_in file) so ∙ g ∙ ap (λ z. ok s z rest) (sym se))) so (rw (g, link) at h))
    (λ x g. form few (λ s at so. not_bad (sym g ∙ read_there file off s at so)) (g ∙ ap bad (faulted (rw (g, link) at h))))

-- a section that breaks a rule, behind which the walk found none
pub record Broken (file : Bytes) (f : Fault) : Type 0 where
  pub newer : List Link
  pub offset : ℕ
  pub leads : LeadsTo file newer offset
  pub breach : SectionBreach file newer offset f

pub walk_breach : (n : ℕ) (file : Bytes) (off : ℕ) (fits : ℕ → Bool) (newer : List Link) (f : Fault) → LeadsTo file newer off → Tests fits file newer → length newer + n ≡ most_revisions →
    walk n file off fits newer ≡ Err f → Broken file f
unfolding walk
walk_breach zero file off fits newer f t c q h = record { newer = newer; offset = off; leads = t; breach = many (omega arith) (sym (faulted h)) }
walk_breach (suc n) file off fits newer f t c q h =
    by_answer (link file off fits)
    (λ p e.
    let s = link_stepped file off fits newer p c e in
    cases_o p.1
    (λ z. never_fault (rw (e, z, walk) at h))
    (λ b z.
    walk_breach n file b (λ x. leb x off) (p.0 ∷ newer) f
    (subst (λ (x : ℕ). LeadsTo file newer x) (sym s.at) t, s.holds, s.prev ∙ ap prev_of z)
    (tests_older file p.0 newer off (sym s.at)) (omega arith) (rw (e, z, walk) at h)))
    (λ g e.
    let w : g ≡ f = faulted (rw (e, walk) at h) in
    record { newer = newer; offset = off; leads = t; breach = link_breach file off fits newer f c (omega arith) (e ∙ ap Err w) })

in_bound_fact : (s : Section) → Bounded s → in_bound (rows s) ≡ true
in_bound_fact s b = each_bound (rows s) b

not_in_bound : (s : Section) → (Bounded s → ⊥) → in_bound (rows s) ≡ false
not_in_bound s g = cases (in_bound (rows s)) (λ i. absurd (g (λ n e w. bound_each (rows s) i n e w))) (λ i. i)

not_told : (s : Section) → ((t : Told) → Says s.trailer t → ⊥) → told s.trailer ≡ None
not_told s g = cases_o (told s.trailer) (λ n. n) (λ t n. absurd (g t (told_says s.trailer t n)))

not_fit : (fits : ℕ → Bool) (file : Bytes) (newer : List Link) (e : ℕ) → Tests fits file newer → (MayEnd file newer e → ⊥) → fits e ≡ false
not_fit fits file newer e t g = cases (fits e) (λ h. absurd (g ((t e).0 h))) (λ h. h)

-- a section that breaks a rule is refused
breach_link : (file : Bytes) (off : ℕ) (fits : ℕ → Bool) (newer : List Link) (f : Fault) → Tests fits file newer → length newer < most_revisions → SectionBreach file newer off f → link file off fits ≡ Err f
unfolding link checked_section
breach_link file off fits newer f t few (many q e) = absurd (omega arith)
breach_link file off fits newer f t few (form q n e) = rw (e, link) refl
breach_link file off fits newer f t few (numbers q s at so g e) =
    rw (read_there file off s at so, link) (rw (not_in_bound s g, checked_section) (ap Err (sym e)))
breach_link file off fits newer f t few (trailer q s at so b g e) =
    rw (read_there file off s at so, link) (rw (in_bound_fact s b, checked_section) (rw (not_told s g) (ap Err (sym e))))
breach_link file off fits newer f t few (prev q s at so b y a g e) =
    rw (read_there file off s at so, link)
    (rw (in_bound_fact s b, checked_section)
    (rw (says_told s.trailer y a)
    (rw (bad_before s.offset y.prev (λ c. g (subst (λ (z : ℕ). PrevBelow z y) so c))) (ap Err (ap (λ (z : ℕ). chain_fault ChainRule z 0) so ∙ sym e)))))
breach_link file off fits newer f t few (end q s at so b y a c g e) =
    let w = good_before s.offset y.prev (subst (λ (z : ℕ). PrevBelow z y) (sym so) c) in
    rw (read_there file off s at so, link)
    (rw (in_bound_fact s b, checked_section)
    (rw (says_told s.trailer y a)
    (rw w.1 (rw (not_fit fits file newer s.end t g) (ap Err (ap (λ (z : ℕ). chain_fault ChainRule z 0) so ∙ sym e))))))

walk_refused : (n : ℕ) (file : Bytes) (off : ℕ) (fits : ℕ → Bool) (newer : List Link) (f : Fault) → Tests fits file newer → length newer + n ≡ most_revisions → length newer < most_revisions → SectionBreach file newer off f →
    walk n file off fits newer ≡ Err f
unfolding walk
walk_refused zero file off fits newer f t q few b = absurd (omega arith)
walk_refused (suc n) file off fits newer f t q few b = rw (breach_link file off fits newer f t few b) refl

-- the walk of a file whose sections break a rule is refused
pub record Refused (file : Bytes) (f : Fault) : Type 0 where
  pub start : ℕ
  pub tail : last_offset file ≡ Some start
  pub walked : walk most_revisions file start (λ e. eqb e (length file)) [] ≡ Err f

few_refused : (file : Bytes) (newer : List Link) (off : ℕ) (f : Fault) → LeadsTo file newer off → length newer < most_revisions → SectionBreach file newer off f → Refused file f
few_refused file newer off f t few b =
    let w = left_over (length newer) most_revisions (omega arith) in
    let r = leads_reached file newer off w.0 t w.1 in
    record { start = r.start; tail = r.tail; walked = r.walked ∙ walk_refused w.0 file off r.fits newer f r.tests w.1 few b }

walk_none : (file : Bytes) (off : ℕ) (fits : ℕ → Bool) (newer : List Link) → walk 0 file off fits newer ≡ Err (chain_fault FileBound 0 0)
unfolding walk
walk_none file off fits newer = refl

pub breach_walk : (file : Bytes) (newer : List Link) (off : ℕ) (f : Fault) → LeadsTo file newer off → SectionBreach file newer off f → Refused file f
breach_walk file newer off f t (many q e) =
    let r = leads_reached file newer off 0 t (omega arith) in
    record { start = r.start; tail = r.tail; walked = r.walked ∙ walk_none file off r.fits newer ∙ ap Err (sym e) }
breach_walk file newer off f t (form q n e) = few_refused file newer off f t q (form q n e)
breach_walk file newer off f t (numbers q s at so g e) = few_refused file newer off f t q (numbers q s at so g e)
breach_walk file newer off f t (trailer q s at so b g e) = few_refused file newer off f t q (trailer q s at so b g e)
breach_walk file newer off f t (prev q s at so b y a g e) = few_refused file newer off f t q (prev q s at so b y a g e)
breach_walk file newer off f t (end q s at so b y a c g e) = few_refused file newer off f t q (end q s at so b y a c g e)
