-- The rules of sections place by place, against the rules along the chain.
use Rattle.std.proofs.Common.{◌≡◌, ℕ, suc, ◌<◌, ◌≤◌, List, [], ◌∷◌, length, pos, Some, None, sym, refl, ap, ◌∙◌, subst, arith}
use Rattle.format.specs.Bytes.{Bytes}
use Rattle.format.specs.Chain.{Link}
use Rattle.format.specs.Revisions.{nth}
use Rattle.tables.proofs.Finds.{some_none}
use Rattle.rules.specs.Sections.{SectionAt, Bounded, Says, PrevBelow, SectionHolds, LeadsTo, Sections}
use Rattle.rules.specs.Tables.{Stands}
use Rattle.rules.specs.Whole.{EndsWithTail}
use Rattle.rules.proofs.Lists.{same_place, each_place, each_pair, no_pair, no_place, last_one, last_more}
use Rattle.rules.proofs.Walks.{prev_below}

-- Prev of the later one leads to the earlier one, below it
abbrev pub Follows : Link → Link → Type 0
Follows l m = (m.says.prev ≡ Some (pos l.sec.offset)) × (l.sec.offset < m.sec.offset)

-- the rules of sections, place by place
pub record Linked (file : Bytes) (links : List Link) : Type 0 where
  pub tail : (k : ℕ) (l : Link) → Stands links k l → suc k ≡ length links → EndsWithTail file l.sec.offset
  pub sections : (k : ℕ) (l : Link) → Stands links k l → SectionAt file l.sec
  pub numbers : (k : ℕ) (l : Link) → Stands links k l → Bounded l.sec
  pub trailers : (k : ℕ) (l : Link) → Stands links k l → Says l.sec.trailer l.says
  pub chain : (k : ℕ) (l m : Link) → Stands links k l → Stands links (suc k) m → Follows l m
  pub ends : (k : ℕ) (l m : Link) → Stands links k l → Stands links (suc k) m → l.sec.end ≤ m.sec.offset
  pub last : (k : ℕ) (l : Link) → Stands links k l → suc k ≡ length links → l.sec.end ≡ length file

pub leads_linked : (file : Bytes) (l : Link) (newer : List Link) → LeadsTo file newer l.sec.offset → SectionHolds file newer l → Linked file (l ∷ newer)
leads_linked file l [] t s = record {
  tail = last_one (λ x. EndsWithTail file x.sec.offset) l t;
  sections = each_place (λ x. SectionAt file x.sec) l [] s.form (λ k y e. no_place k e);
  numbers = each_place (λ x. Bounded x.sec) l [] s.numbers (λ k y e. no_place k e);
  trailers = each_place (λ x. Says x.sec.trailer x.says) l [] s.trailer (λ k y e. no_place k e);
  chain = λ k x y a b. no_pair l k b;
  ends = λ k x y a b. no_pair l k b;
  last = last_one (λ x. x.sec.end ≡ length file) l s.end;
}
leads_linked file l (m ∷ newer) t s =
    let r = leads_linked file m newer t.0 t.1 in
    record {
      tail = last_more (λ x. EndsWithTail file x.sec.offset) l m newer r.tail;
      sections = each_place (λ x. SectionAt file x.sec) l (m ∷ newer) s.form r.sections;
      numbers = each_place (λ x. Bounded x.sec) l (m ∷ newer) s.numbers r.numbers;
      trailers = each_place (λ x. Says x.sec.trailer x.says) l (m ∷ newer) s.trailer r.trailers;
      chain = each_pair Follows l m newer (t.2, prev_below m l.sec.offset t.1.prev t.2) r.chain;
      ends = each_pair (λ x y. x.sec.end ≤ y.sec.offset) l m newer s.end r.ends;
      last = last_more (λ x. x.sec.end ≡ length file) l m newer r.last;
    }

linked_rest : (file : Bytes) (l m : Link) (newer : List Link) → Linked file (l ∷ m ∷ newer) → Linked file (m ∷ newer)
unfolding nth
linked_rest file l m newer r = record {
  tail = λ k x e q. r.tail (suc k) x e (ap suc q);
  sections = λ k x e. r.sections (suc k) x e;
  numbers = λ k x e. r.numbers (suc k) x e;
  trailers = λ k x e. r.trailers (suc k) x e;
  chain = λ k x y a b. r.chain (suc k) x y a b;
  ends = λ k x y a b. r.ends (suc k) x y a b;
  last = λ k x e q. r.last (suc k) x e (ap suc q);
}

followed_below : (l m : Link) → Follows l m → PrevBelow m.sec.offset m.says
followed_below l m f z e =
    let q : Some (pos l.sec.offset) ≡ Some z = sym f.0 ∙ e in
    (l.sec.offset, sym (same_place q), f.1)

pub linked_leads : (file : Bytes) (l : Link) (newer : List Link) → PrevBelow l.sec.offset l.says → Linked file (l ∷ newer) → LeadsTo file newer l.sec.offset × SectionHolds file newer l
unfolding nth
linked_leads file l [] p r = (
  r.tail 0 l refl refl,
  record { form = r.sections 0 l refl; numbers = r.numbers 0 l refl; trailer = r.trailers 0 l refl; prev = p; end = r.last 0 l refl refl },
)
linked_leads file l (m ∷ newer) p r =
    let f : Follows l m = r.chain 0 l m refl refl in
    let w = linked_leads file m newer (followed_below l m f) (linked_rest file l m newer r) in (
      (w.0, w.1, f.0),
      record { form = r.sections 0 l refl; numbers = r.numbers 0 l refl; trailer = r.trailers 0 l refl; prev = p; end = r.ends 0 l m refl refl },
    )

-- the rules along the chain, and place by place
pub sections_linked : (file : Bytes) (links : List Link) → Sections file links → Linked file links
sections_linked file [] t = absurd t
sections_linked file (l ∷ newer) t = leads_linked file l newer t.0 t.1

pub sections_oldest : (file : Bytes) (links : List Link) → Sections file links → (l : Link) → Stands links 0 l → l.says.prev ≡ None
unfolding nth
sections_oldest file [] t l e = absurd t
sections_oldest file (m ∷ newer) t l e = let q : m ≡ l = same_place e in subst (λ (x : Link). x.says.prev ≡ None) q t.2

pub sections_some : (file : Bytes) (links : List Link) → Sections file links → 1 ≤ length links
sections_some file [] t = absurd t
sections_some file (l ∷ newer) t = omega arith

pub linked_sections : (file : Bytes) (links : List Link) → 1 ≤ length links → ((l : Link) → Stands links 0 l → l.says.prev ≡ None) → Linked file links → Sections file links
unfolding nth
linked_sections file [] s o r = absurd (omega arith)
linked_sections file (l ∷ newer) s o r =
    let n : l.says.prev ≡ None = o l refl in
    let w = linked_leads file l newer (λ z e. some_none (sym e ∙ n)) r in
    (w.0, w.1, n)
