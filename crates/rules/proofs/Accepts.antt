-- A file opens exactly where the rules hold.
use Rattle.std.proofs.Common.{◌≡◌, ℕ, ◌+◌, ◌≤◌, true, eqb, leb, List, [], length, take, Ok, sym, refl, ap, ◌∙◌, subst, arith}
use Rattle.std.proofs.lemmas.Bool.{leb-true, le-leb}
use Rattle.format.specs.Bytes.{Bytes}
use Rattle.format.specs.Chain.{Answer, Link, walk}
use Rattle.format.specs.Revisions.{Revision, revisions, header_fits, file_bytes, most_revisions, Opened, opens_from, opens}
use Rattle.format.specs.Sections.{last_offset}
use Rattle.chains.proofs.Steps.{by_answer, never_answer, answered}
use Rattle.locality.proofs.Cases.{cases, cases_o}
use Rattle.rules.specs.Rules.{Rules}
use Rattle.rules.specs.Sections.{Sections}
use Rattle.rules.specs.Stated.{AcceptsByRules}
use Rattle.rules.specs.Tables.{Stands}
use Rattle.rules.specs.Whole.{Headed}
use Rattle.rules.proofs.Histories.{all_made, all_hold, all_show, all_revisions}
use Rattle.rules.proofs.Linked.{Linked, sections_linked, sections_oldest, sections_some, linked_sections}
use Rattle.rules.proofs.Newest.{Neat}
use Rattle.rules.proofs.Rows.{section_rising}
use Rattle.rules.proofs.Walks.{walk_sections, tests_newest, sections_found}
use Rattle.rules.proofs.Wholes.{headed, header_fits_fact, tail_found_is}

-- what opening a file goes through
pub record Opening (file : Bytes) (o : Opened) : Type 0 where
  pub short : length file ≤ file_bytes
  pub header : Headed file
  pub links : List Link
  pub sections : Sections file links
  pub few : length links ≤ most_revisions
  pub made : revisions file true [] links ≡ Ok o.history
  pub first : o.header ≡ take 8 file

pub opens_opening : (file : Bytes) (o : Opened) → opens file ≡ Ok o → Opening file o
unfolding opens opens_from
opens_opening file o h =
    cases (leb (length file) file_bytes)
    (λ s.
    cases (header_fits file)
    (λ d.
    cases_o (last_offset file)
    (λ t. never_answer (rw (s, d, t) at h))
    (λ off t.
    by_answer (walk most_revisions file off (λ e. eqb e (length file)) [])
    (λ ls w.
    by_answer (revisions file true [] ls)
    (λ rs m. done (leb-true (length file) file_bytes s) (headed file d) ls (walk_sections most_revisions file off (λ e. eqb e (length file)) [] ls (tail_found_is file off t) (tests_newest file) w) rs m (rw (s, d, t, w, m) at h))
    (λ f m. never_answer (rw (s, d, t, w, m) at h)))
    (λ f w. never_answer (rw (s, d, t, w) at h))))
    (λ d. never_answer (rw (s, d) at h)))
    (λ s. never_answer (rw s at h))
  where
    done : length file ≤ file_bytes → Headed file → (ls : List Link) → Sections file ls × (length ls ≤ most_revisions + length {A = Link} []) →
        (rs : List Revision) → revisions file true [] ls ≡ Ok rs → ◌≡◌ {A = Answer Opened} (Ok (record { header = take 8 file; history = rs })) (Ok o) → Opening file o
    done s d ls w rs m q =
        let e : ◌≡◌ {A = Opened} (record { header = take 8 file; history = rs }) o = answered q in
        record {
          short = s;
          header = d;
          links = ls;
          sections = w.0;
          few = let k = w.1 in omega arith;
          made = m ∙ ap (λ x. Ok x.history) e;
          first = ap (λ x. x.header) (sym e);
        }

pub opening_opens : (file : Bytes) (o : Opened) → Opening file o → opens file ≡ Ok o
unfolding opens opens_from
opening_opens file o p =
    let f = sections_found file p.links p.sections p.few in
    rw (le-leb (length file) file_bytes p.short)
    (rw (header_fits_fact file p.header) (rw f.tail (rw f.walked (rw p.made (λ i. Ok (record { header = sym p.first i; history = o.history }))))))

pub neat_linked : (file : Bytes) (links : List Link) → Linked file links → Neat links
neat_linked file links r k l e = section_rising file l.sec (r.sections k l e)

-- the rules hold of a file that opens
pub rules_hold : (file : Bytes) (o : Opened) → opens file ≡ Ok o → Rules file o.history × (o.header ≡ take 8 file)
rules_hold file o h =
    let p = opens_opening file o h in
    let r = sections_linked file p.links p.sections in
    let m = all_hold file p.links (neat_linked file p.links r) o.history p.made in (
      record {
        links = p.links;
        short = p.short;
        header = p.header;
        some = sections_some file p.links p.sections;
        few = p.few;
        tail = r.tail;
        sections = r.sections;
        numbers = r.numbers;
        trailers = r.trailers;
        no_prev = sections_oldest file p.links p.sections;
        chain = r.chain;
        ends = r.ends;
        newest_end = r.last;
        one_subsection = λ l e. (m 0 l e).oldest refl;
        entries = λ k l e. (m k l e).entries;
        size = λ k l e. (m k l e).size;
        root = λ k l e. (m k l e).root;
        objects = λ k l e. (m k l e).objects;
        count = (all_made file p.links (neat_linked file p.links r) o.history p.made).count;
        shows = all_show file p.links (neat_linked file p.links r) o.history p.made;
      },
      p.first,
    )

-- a file opens where the rules hold
pub rules_open : (file : Bytes) (o : Opened) → Rules file o.history → o.header ≡ take 8 file → opens file ≡ Ok o
rules_open file o r f =
    let k : Linked file r.links = record { tail = r.tail; sections = r.sections; numbers = r.numbers; trailers = r.trailers; chain = r.chain; ends = r.ends; last = r.newest_end } in
    opening_opens file o
    (record {
      short = r.short;
      header = r.header;
      links = r.links;
      sections = linked_sections file r.links r.some r.no_prev k;
      few = r.few;
      made =
          all_revisions file r.links (neat_linked file r.links k) o.history
          (λ j l e. record {
            oldest = λ q. r.one_subsection l (subst (λ (x : ℕ). Stands r.links x l) q e);
            entries = r.entries j l e;
            size = r.size j l e;
            root = r.root j l e;
            objects = r.objects j l e;
          })
          r.count r.shows;
      first = f;
    })

pub accepts_by_rules : AcceptsByRules
accepts_by_rules = record { accepted = rules_hold; accepts = rules_open }
