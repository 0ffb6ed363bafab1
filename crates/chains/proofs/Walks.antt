-- The walk from the newest section back to the oldest, and the chain of sections that it goes through.
use Rattle.std.proofs.Common.{◌≡◌, ℕ, zero, suc, ◌+◌, ◌<◌, ◌≤◌, Bool, true, leb, List, [], ◌∷◌, reverse, length, take, Some, None, Ok, Option, sym, refl, ap, ◌∙◌, subst, ⊎_elim, arith, take_all}
use mathlib.Core.List.{reverse_aux, reverse-cons}
use lib.ListN.{length-reverse}
use lib.Seq.{take-append-le}
use Rattle.std.proofs.lemmas.Bool.{cases_lt, leb-true, le-leb}
use Rattle.format.specs.Bytes.{Bytes, ok}
use Rattle.format.specs.Chain.{Answer, told, in_bound, Link, before, section_in, checked_section, link, walk}
use Rattle.format.specs.Sections.{Section, listed}
use Rattle.chains.specs.Needed.{Needed}
use Rattle.chains.proofs.Agree.{AllUnder}
use Rattle.chains.proofs.Steps.{by_answer, by_reading, never_answer, answered}
use Rattle.chains.proofs.Windows.{Alike, alike_before, Standing, standing}
use Rattle.locality.proofs.Cases.{cases, cases_o}

-- the section of a link stands in the file, its numbers are in bound and its trailer says what the link says
pub record Read (file : Bytes) (l : Link) : Type 0 where
  pub rest : Bytes
  pub read : section_in file l.sec.offset ≡ ok l.sec l.sec.end rest
  pub bounded : in_bound (listed l.sec.subsections) ≡ true
  pub telling : told l.sec.trailer ≡ Some l.says

-- a link that was accepted at `off`
pub record Accepted (file : Bytes) (off : ℕ) (fits : ℕ → Bool) (p : Link × Option ℕ) : Type 0 where
  pub reads : Read file p.0
  pub at : off ≡ p.0.sec.offset
  pub older : before p.0.sec.offset p.0.says.prev ≡ Ok p.1
  pub fit : fits p.0.sec.end ≡ true

pub accepted_link : (file : Bytes) (fits : ℕ → Bool) (l : Link) (b : Option ℕ) → Read file l → before l.sec.offset l.says.prev ≡ Ok b → fits l.sec.end ≡ true → link file l.sec.offset fits ≡ Ok (l, b)
unfolding link checked_section
accepted_link file fits l b r e f = rw (r.read, link) (rw (r.bounded, checked_section) (rw r.telling (rw (e) (rw (f) refl))))

pub reads_standing : Needed → (file : Bytes) (l : Link) → Read file l → Standing file l.sec.offset l.sec l.sec.end
reads_standing need file l r = standing need file l.sec.offset l.sec l.sec.end r.rest r.read

-- in a file alike up to the section's end, the section stands too
pub reads_again : Needed → (file file' : Bytes) (l : Link) → Alike file file' l.sec.end → Read file l → Read file' l
reads_again need file file' l a r =
    let u = (reads_standing need file l r).again file' a in
    record { rest = u.0; read = u.1; bounded = r.bounded; telling = r.telling }

checked_accepted : (file : Bytes) (off : ℕ) (fits : ℕ → Bool) (s : Section) (e : ℕ) (rest : Bytes) (p : Link × Option ℕ) → section_in file off ≡ ok s e rest → Standing file off s e → checked_section fits s ≡ Ok p → Accepted file off fits p
unfolding checked_section
checked_accepted file off fits s e rest p g t h =
    cases (in_bound (listed s.subsections))
    (λ i.
    cases_o (told s.trailer)
    (λ n. never_answer (rw (i, n, checked_section) at h))
    (λ y n.
    by_answer (before s.offset y.prev)
    (λ b m.
    cases (fits s.end)
    (λ f. made i y n b m f (rw (i, n, m, f, checked_section) at h))
    (λ f. never_answer (rw (i, n, m, f, checked_section) at h)))
    (λ x m. never_answer (rw (i, n, m, checked_section) at h))))
    (λ i. never_answer (rw (i, checked_section) at h))
  where
    made : in_bound (listed s.subsections) ≡ true → (y : _) → told s.trailer ≡ Some y → (b : Option ℕ) → before s.offset y.prev ≡ Ok b → fits s.end ≡ true →
        ◌≡◌ {A = Answer (Link × Option ℕ)} (Ok (record { sec = s; says = y }, b)) (Ok p) → Accepted file off fits p
    made i y n b m f q =
        let w : ◌≡◌ {A = Link × Option ℕ} (record { sec = s; says = y }, b) p = answered q in
        let so = t.offset in
        let se = t.end in
        subst (λ z. Accepted file off fits z) w
        (record {
          reads = record { rest = rest; read = ap (section_in file) so ∙ g ∙ ap (λ z. ok s z rest) (sym se); bounded = i; telling = n };
          at = sym so;
          older = m;
          fit = f;
        })

pub link_accepted : Needed → (file : Bytes) (off : ℕ) (fits : ℕ → Bool) (p : Link × Option ℕ) → link file off fits ≡ Ok p → Accepted file off fits p
unfolding link
link_accepted need file off fits p h =
    by_reading (section_in file off)
    (λ s e rest g. checked_accepted file off fits s e rest p g (standing need file off s e rest g) (rw (g, link) at h))
    (λ f g. never_answer (rw (g, link) at h))

-- A chain that ends with the link l; the links before it stand newest first. Each Prev leads to the link before, which ends at or before the next section.
abbrev pub Chained : Bytes → List Link → Link → Type 0
Chained file [] l = Read file l × (before l.sec.offset l.says.prev ≡ Ok None)
Chained file (k ∷ ks) l = Chained file ks k × Read file l × (before l.sec.offset l.says.prev ≡ Ok (Some k.sec.offset)) × (k.sec.end ≤ l.sec.offset)

pub chained_reads : (file : Bytes) (ks : List Link) (l : Link) → Chained file ks l → Read file l
chained_reads file [] l c = c.0
chained_reads file (k ∷ ks) l c = c.1

-- what a walk that ends well went through
pub record Walked (file : Bytes) (off : ℕ) (fits : ℕ → Bool) (n : ℕ) (newer ms : List Link) : Type 0 where
  pub older : List Link
  pub last : Link
  pub chained : Chained file older last
  pub at : off ≡ last.sec.offset
  pub fit : fits last.sec.end ≡ true
  pub few : suc (length older) ≤ n
  pub is : ms ≡ reverse_aux (last ∷ older) newer

pub walk_chained : Needed → (n : ℕ) (file : Bytes) (off : ℕ) (fits : ℕ → Bool) (newer ms : List Link) → walk n file off fits newer ≡ Ok ms → Walked file off fits n newer ms
unfolding walk
walk_chained need zero file off fits newer ms h = never_answer h
walk_chained need (suc n) file off fits newer ms h =
    by_answer (link file off fits)
    (λ p e.
    let a = link_accepted need file off fits p e in
    cases_o p.1
    (λ z. oldest p a z (rw (e, z, walk) at h))
    (λ b z. goes_on p a b z (walk_chained need n file b (λ q. leb q off) (p.0 ∷ newer) ms (rw (e, z, walk) at h))))
    (λ f e. never_answer (rw (e, walk) at h))
  where
    oldest : (p : Link × Option ℕ) → Accepted file off fits p → p.1 ≡ None → ◌≡◌ {A = Answer (List Link)} (Ok (p.0 ∷ newer)) (Ok ms) → Walked file off fits (suc n) newer ms
    oldest p a z q = record {
      older = [];
      last = p.0;
      chained = (a.reads, a.older ∙ ap Ok z);
      at = a.at;
      fit = a.fit;
      few = omega arith;
      is = sym (answered q);
    }

    goes_on : (p : Link × Option ℕ) → Accepted file off fits p → (b : ℕ) → p.1 ≡ Some b → Walked file b (λ q. leb q off) n (p.0 ∷ newer) ms → Walked file off fits (suc n) newer ms
    goes_on p a b z w = record {
      older = w.last ∷ w.older;
      last = p.0;
      chained = (w.chained, a.reads, a.older ∙ ap Ok (z ∙ ap Some w.at), let u = leb-true w.last.sec.end off w.fit in let v = a.at in omega arith);
      at = a.at;
      fit = a.fit;
      few = let u = w.few in omega arith;
      is = w.is;
    }

-- a chain is walked through
pub chained_walk : (file : Bytes) (ks : List Link) (l : Link) → Chained file ks l → (n : ℕ) → suc (length ks) ≤ n → (fits : ℕ → Bool) → fits l.sec.end ≡ true → (newer : List Link) →
    walk n file l.sec.offset fits newer ≡ Ok (reverse_aux (l ∷ ks) newer)
unfolding walk
chained_walk file ks l c zero h fits f newer = absurd (omega arith)
chained_walk file [] l c (suc n) h fits f newer = rw (accepted_link file fits l None c.0 c.1 f) refl
chained_walk file (k ∷ ks) l c (suc n) h fits f newer =
    rw (accepted_link file fits l (Some k.sec.offset) c.1 c.2 f)
    (chained_walk file ks k c.0 n (omega arith) (λ q. leb q l.sec.offset) (le-leb k.sec.end l.sec.offset c.3) (l ∷ newer))

module _ (need : Needed) where
  -- a section has some bytes
  pub reads_long : (file : Bytes) (l : Link) → Read file l → l.sec.offset + 20 ≤ l.sec.end
  reads_long file l r = (reads_standing need file l r).long

  -- in a file alike up to its end, the chain is the same
  pub chained_again : (file file' : Bytes) (ks : List Link) (l : Link) → Alike file file' l.sec.end → Chained file ks l → Chained file' ks l
  chained_again file file' [] l a c = (reads_again need file file' l a c.0, c.1)
  chained_again file file' (k ∷ ks) l a c =
      let h : k.sec.end ≤ l.sec.end = let u = reads_long file l c.1 in let v = c.3 in omega arith in
      (chained_again file file' ks k (alike_before file file' l.sec.end k.sec.end h a) c.0, reads_again need file file' l a c.1, c.2, c.3)

  -- all sections of a chain start where its last one does, or before
  pub chained_under : (file : Bytes) (ks : List Link) (l : Link) (m : ℕ) (acc : List Link) → Chained file ks l → l.sec.offset ≤ m → AllUnder m acc → AllUnder m (reverse_aux (l ∷ ks) acc)
  chained_under file [] l m acc c h us = (h, us)
  chained_under file (k ∷ ks) l m acc c h us =
      let g : k.sec.offset ≤ m = let u = reads_long file k (chained_reads file ks k c.0) in let v = c.3 in omega arith in
      chained_under file ks k m (l ∷ acc) c.0 g (h, us)

-- the first k links of a chain are a chain
pub record Front (file : Bytes) (k : ℕ) (ms : List Link) : Type 0 where
  pub older : List Link
  pub last : Link
  pub chained : Chained file older last
  pub count : suc (length older) ≡ k
  pub is : take k ms ≡ reverse (last ∷ older)

front_whole : (file : Bytes) (ks : List Link) (l : Link) (k : ℕ) → Chained file ks l → k ≤ suc (length ks) → suc (length ks) ≤ k → Front file k (reverse (l ∷ ks))
front_whole file ks l k c g q = record {
  older = ks;
  last = l;
  chained = c;
  count = omega arith;
  is = take_all k (reverse (l ∷ ks)) (rw length-reverse (omega arith));
}

front_more : (file : Bytes) (ks : List Link) (l : Link) (k : ℕ) → k ≤ length ks → Front file k (reverse ks) → Front file k (reverse (l ∷ ks))
front_more file ks l k h fr = record {
  older = fr.older;
  last = fr.last;
  chained = fr.chained;
  count = fr.count;
  is = ap (take k) (reverse-cons l ks) ∙ take-append-le k (reverse ks) (l ∷ []) (rw length-reverse h) ∙ fr.is;
}

pub chained_front : (file : Bytes) (ks : List Link) (l : Link) (k : ℕ) → Chained file ks l → 1 ≤ k → k ≤ suc (length ks) → Front file k (reverse (l ∷ ks))
chained_front file [] l k c h g = front_whole file [] l k c g (omega arith)
chained_front file (j ∷ js) l k c h g =
    ⊎_elim
    (λ (q : k < suc (length (j ∷ js))). front_more file (j ∷ js) l k (omega arith) (chained_front file js j k c.0 h (omega arith)))
    (λ (q : suc (length (j ∷ js)) ≤ k). front_whole file (j ∷ js) l k c g q)
    (cases_lt k (suc (length (j ∷ js))))
