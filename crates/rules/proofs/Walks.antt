-- The walk from the newest section back to the oldest, in the words of the rules.
use Rattle.std.proofs.Common.{◌≡◌, ℕ, zero, suc, ◌+◌, ◌<◌, ◌≤◌, Bool, true, eqb, ltb, leb, List, [], ◌∷◌, length, ℤ, pos, negsuc, Some, None, Ok, Option, sym, refl, ap, ◌∙◌, subst, arith}
use Rattle.std.proofs.lemmas.Bool.{and_parts, and_from, eqb-true, eq-eqb, leb-true, le-leb, ltb-true, lt-ltb}
use Rattle.format.specs.Bytes.{Bytes}
use Rattle.format.specs.Chain.{Answer, in_bound, Link, below, before, link, walk}
use Rattle.format.specs.Lines.{Slot}
use Rattle.format.specs.Revisions.{nth, most_revisions}
use Rattle.format.specs.Sections.{Listed, last_offset}
use Rattle.chains.proofs.Steps.{by_answer, never_answer, answered}
use Rattle.chains.proofs.Needs.{needed}
use Rattle.chains.proofs.Walks.{Read, accepted_link, link_accepted}
use Rattle.locality.proofs.Cases.{cases, cases_o}
use Rattle.tables.proofs.Finds.{some_none}
use Rattle.rules.specs.Sections.{rows, PrevBelow, MayEnd, SectionHolds, LeadsTo, Sections}
use Rattle.rules.proofs.Lists.{no_place, same_place}
use Rattle.rules.proofs.SectionsAt.{reads_at, at_reads}
use Rattle.rules.proofs.Trailers.{told_says, says_told}
use Rattle.rules.proofs.Wholes.{tail_there}
use Rattle.rules.proofs.Numbers.{left_over, pos_once}

-- the numbers that are listed are in bound
pub bound_each : (rs : Listed) → in_bound rs ≡ true → (n : ℕ) (e : Slot) → (i : ℕ) × (nth i rs ≡ Some (n, e)) → n ≤ 999
unfolding in_bound nth
bound_each [] h n e (i, q) = no_place i q
bound_each (r ∷ rs) h n e (zero, q) =
    let w : r ≡ (n, e) = cc in
    let v : r.0 ≡ n = ap (λ (z : ℕ × Slot). z.0) w in
    let k = leb-true r.0 999 (and_parts (leb r.0 999) (in_bound rs) h).0 in
    omega arith
bound_each (r ∷ rs) h n e (suc i, q) = bound_each rs (and_parts (leb r.0 999) (in_bound rs) h).1 n e (i, q)

pub each_bound : (rs : Listed) → ((n : ℕ) (e : Slot) → (i : ℕ) × (nth i rs ≡ Some (n, e)) → n ≤ 999) → in_bound rs ≡ true
unfolding in_bound nth
each_bound [] f = refl
each_bound (r ∷ rs) f =
    and_from (leb r.0 999) (in_bound rs) (le-leb r.0 999 (f r.0 r.1 (0, refl))) (each_bound rs (λ n e w. f n e (suc w.0, w.1)))

-- where Prev leads
abbrev pub prev_of : Option ℕ → Option ℤ
prev_of None = None
prev_of (Some b) = Some (pos b)

-- the section before, where Prev is as it should be
pub before_is : (off : ℕ) (p : Option ℤ) (b : Option ℕ) → before off p ≡ Ok b → (p ≡ prev_of b) × ((z : ℤ) → p ≡ Some z → (c : ℕ) × (z ≡ pos c) × (c < off))
unfolding before below
before_is off None b h = let w : None ≡ b = answered h in (subst (λ (x : Option ℕ). None ≡ prev_of x) w refl, λ z e. some_none (sym e))
before_is off (Some (pos n)) b h =
    cases (ltb n off)
    (λ l.
    let w : Some n ≡ b = answered (rw (l, below, before) at h) in (
      subst (λ (x : Option ℕ). Some (pos n) ≡ prev_of x) w refl,
      λ z e. (n, sym (same_place e), ltb-true n off l),
    ))
    (λ l. never_answer (rw (l, below, before) at h))
before_is off (Some (negsuc n)) b h = never_answer h

pub before_none : (off : ℕ) (p : Option ℤ) → p ≡ None → before off p ≡ Ok None
unfolding before
before_none off p e = rw e refl

pub before_some : (off : ℕ) (p : Option ℤ) (b : ℕ) → p ≡ Some (pos b) → b < off → before off p ≡ Ok (Some b)
unfolding before below
before_some off p b e l = rw e (rw (lt-ltb b off l, below, before) refl)

-- a test of where a revision may end, against the rule
abbrev pub Tests : (ℕ → Bool) → Bytes → List Link → Type 0
Tests fits file newer = (e : ℕ) → (fits e ≡ true → MayEnd file newer e) × (MayEnd file newer e → fits e ≡ true)

pub tests_newest : (file : Bytes) → Tests (λ e. eqb e (length file)) file []
tests_newest file e = (λ h. eqb-true e (length file) h, λ h. eq-eqb e (length file) h)

pub tests_older : (file : Bytes) (l : Link) (newer : List Link) (off : ℕ) → off ≡ l.sec.offset → Tests (λ e. leb e off) file (l ∷ newer)
tests_older file l newer off q e = (λ h. let k = leb-true e off h in omega arith, λ h. le-leb e off (omega arith))

-- one section that is accepted: its rules hold
pub record Stepped (file : Bytes) (newer : List Link) (off : ℕ) (p : Link × Option ℕ) : Type 0 where
  pub at : p.0.sec.offset ≡ off
  pub holds : SectionHolds file newer p.0
  pub prev : p.0.says.prev ≡ prev_of p.1

pub link_stepped : (file : Bytes) (off : ℕ) (fits : ℕ → Bool) (newer : List Link) (p : Link × Option ℕ) → Tests fits file newer → link file off fits ≡ Ok p → Stepped file newer off p
link_stepped file off fits newer p t h =
    let a = link_accepted needed file off fits p h in
    let b = before_is p.0.sec.offset p.0.says.prev p.1 a.older in
    record {
      at = sym a.at;
      holds = record {
        form = reads_at file p.0.sec a.reads.rest a.reads.read;
        numbers = λ n e w. bound_each (rows p.0.sec) a.reads.bounded n e w;
        trailer = told_says p.0.sec.trailer p.0.says a.reads.telling;
        prev = b.1;
        end = (t p.0.sec.end).0 a.fit;
      };
      prev = b.0;
    }

pub holds_read : (file : Bytes) (newer : List Link) (l : Link) → SectionHolds file newer l → Read file l
holds_read file newer l s = record {
  rest = s.form.behind;
  read = at_reads file l.sec s.form;
  bounded = each_bound (rows l.sec) s.numbers;
  telling = says_told l.sec.trailer l.says s.trailer;
}

-- and a section whose rules hold is accepted
pub holds_link : (file : Bytes) (fits : ℕ → Bool) (newer : List Link) (l : Link) (b : Option ℕ) → Tests fits file newer → SectionHolds file newer l →
    before l.sec.offset l.says.prev ≡ Ok b → link file l.sec.offset fits ≡ Ok (l, b)
holds_link file fits newer l b t s e = accepted_link file fits l b (holds_read file newer l s) e ((t l.sec.end).1 s.end)

-- a Prev that is as it should be leads below
pub prev_below : (l : Link) (b : ℕ) → PrevBelow l.sec.offset l.says → l.says.prev ≡ Some (pos b) → b < l.sec.offset
prev_below l b p e =
    let w = p (pos b) e in
    let v : b ≡ w.0 = pos_once w.1 in
    let k = w.2 in
    omega arith

-- a walk that ends well found all sections
pub walk_sections : (n : ℕ) (file : Bytes) (off : ℕ) (fits : ℕ → Bool) (newer ms : List Link) → LeadsTo file newer off → Tests fits file newer → walk n file off fits newer ≡ Ok ms →
    Sections file ms × (length ms ≤ n + length newer)
unfolding walk
walk_sections zero file off fits newer ms t f h = never_answer h
walk_sections (suc n) file off fits newer ms t f h =
    by_answer (link file off fits)
    (λ p e.
    let s = link_stepped file off fits newer p f e in
    cases_o p.1
    (λ z. oldest p s z (rw (e, z, walk) at h))
    (λ b z. older p s b z (λ u. walk_sections n file b (λ q. leb q off) (p.0 ∷ newer) ms u (tests_older file p.0 newer off (sym s.at)) (rw (e, z, walk) at h))))
    (λ g e. never_answer (rw (e, walk) at h))
  where
    led : (p : Link × Option ℕ) → Stepped file newer off p → LeadsTo file newer p.0.sec.offset
    led p s = subst (λ (x : ℕ). LeadsTo file newer x) (sym s.at) t

    oldest : (p : Link × Option ℕ) → Stepped file newer off p → p.1 ≡ None → ◌≡◌ {A = Answer (List Link)} (Ok (p.0 ∷ newer)) (Ok ms) → Sections file ms × (length ms ≤ suc n + length newer)
    oldest p s z q =
        subst (λ (x : List Link). Sections file x × (length x ≤ suc n + length newer)) (answered q)
        ((led p s, s.holds, s.prev ∙ ap prev_of z), omega arith)

    older : (p : Link × Option ℕ) → Stepped file newer off p → (b : ℕ) → p.1 ≡ Some b → (LeadsTo file (p.0 ∷ newer) b → Sections file ms × (length ms ≤ n + length (p.0 ∷ newer))) →
        Sections file ms × (length ms ≤ suc n + length newer)
    older p s b z go = let w = go (led p s, s.holds, s.prev ∙ ap prev_of z) in let k = w.1 in (w.0, omega arith)

-- the walk, after it found the sections `newer`
pub record Reached (file : Bytes) (newer : List Link) (off n : ℕ) : Type 0 where
  pub start : ℕ
  pub tail : last_offset file ≡ Some start
  pub fits : ℕ → Bool
  pub tests : Tests fits file newer
  pub walked : walk most_revisions file start (λ e. eqb e (length file)) [] ≡ walk n file off fits newer

pub leads_reached : (file : Bytes) (newer : List Link) (off n : ℕ) → LeadsTo file newer off → length newer + n ≡ most_revisions → Reached file newer off n
unfolding walk
leads_reached file [] off n t q =
    let e : most_revisions ≡ n = omega arith in
    record {
      start = off;
      tail = tail_there file off t;
      fits = λ x. eqb x (length file);
      tests = tests_newest file;
      walked = ap (λ m. walk m file off (λ x. eqb x (length file)) []) e;
    }
leads_reached file (l ∷ newer) off n t q =
    let r = leads_reached file newer l.sec.offset (suc n) t.0 (omega arith) in
    record {
      start = r.start;
      tail = r.tail;
      fits = λ x. leb x l.sec.offset;
      tests = tests_older file l newer l.sec.offset refl;
      walked =
          r.walked
          ∙ rw (holds_link file r.fits newer l (Some off) r.tests t.1 (before_some l.sec.offset l.says.prev off t.2 (prev_below l off t.1.prev t.2))) refl;
    }

-- all sections of a file are found by a walk
pub record Found (file : Bytes) (links : List Link) : Type 0 where
  pub start : ℕ
  pub tail : last_offset file ≡ Some start
  pub walked : walk most_revisions file start (λ e. eqb e (length file)) [] ≡ Ok links

found_from : (file : Bytes) (l : Link) (newer : List Link) → LeadsTo file newer l.sec.offset → SectionHolds file newer l → l.says.prev ≡ None →
    (n : ℕ) → length newer + suc n ≡ most_revisions → Found file (l ∷ newer)
unfolding walk
found_from file l newer t s o n e =
    let r = leads_reached file newer l.sec.offset (suc n) t e in
    record {
      start = r.start;
      tail = r.tail;
      walked = r.walked ∙ rw (holds_link file r.fits newer l None r.tests s (before_none l.sec.offset l.says.prev o)) refl;
    }

pub sections_found : (file : Bytes) (links : List Link) → Sections file links → length links ≤ most_revisions → Found file links
sections_found file [] t q = absurd t
sections_found file (l ∷ newer) t q =
    let w = left_over (suc (length newer)) most_revisions q in
    found_from file l newer t.0 t.1 t.2 w.0 (let e = w.1 in omega arith)
