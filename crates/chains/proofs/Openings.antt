-- A file opens exactly if a chain of sections ends where it ends, and the chain's links make revisions.
use Rattle.std.proofs.Common.{◌≡◌, ℕ, suc, ◌≤◌, true, eqb, leb, List, [], ◌∷◌, reverse, length, take, Some, Ok, sym, refl, ap, ◌∙◌, arith, take_all}
use Rattle.std.proofs.lemmas.Bool.{leb-true, le-leb, eqb-true, eq-eqb}
use Rattle.format.specs.Book.{history_in, history, newest_or, newest, blank}
use Rattle.format.specs.Bytes.{Bytes}
use Rattle.format.specs.Chain.{Answer, Link, walk}
use Rattle.format.specs.Revisions.{Revision, revisions, header_fits, file_bytes, most_revisions, Opened, opens_from, opens}
use Rattle.format.specs.Sections.{last_offset}
use Rattle.chains.specs.Needed.{Needed}
use Rattle.chains.proofs.Steps.{by_answer, never_answer, answered}
use Rattle.chains.proofs.Walks.{Chained, chained_reads, reads_standing, Walked, walk_chained, chained_walk}
use Rattle.locality.proofs.Cases.{cases, cases_o}

-- a file that opens: its chain, which ends where the file ends, and the revisions of its links
pub record Opening (file : Bytes) (o : Opened) : Type 0 where
  pub short : length file ≤ file_bytes
  pub headed : header_fits file ≡ true
  pub older : List Link
  pub last : Link
  pub chained : Chained file older last
  pub ends : last.sec.end ≡ length file
  pub few : suc (length older) ≤ most_revisions
  pub made : revisions file true [] (reverse (last ∷ older)) ≡ Ok o.history
  pub header : o.header ≡ take 8 file

pub opens_chained : Needed → (file : Bytes) (o : Opened) → opens file ≡ Ok o → Opening file o
unfolding opens opens_from
opens_chained need file o h =
    cases (leb (length file) file_bytes)
    (λ s.
    cases (header_fits file)
    (λ d.
    cases_o (last_offset file)
    (λ t. never_answer (rw (s, d, t) at h))
    (λ off t.
    by_answer (walk most_revisions file off (λ e. eqb e (length file)) [])
    (λ ls w.
    by_answer (revisions file true [] ls)
    (λ rs m. done (leb-true (length file) file_bytes s) d ls (walk_chained need most_revisions file off (λ e. eqb e (length file)) [] ls w) rs m (rw (s, d, t, w, m) at h))
    (λ f m. never_answer (rw (s, d, t, w, m) at h)))
    (λ f w. never_answer (rw (s, d, t, w) at h))))
    (λ d. never_answer (rw (s, d) at h)))
    (λ s. never_answer (rw s at h))
  where
    done : {off : ℕ} → length file ≤ file_bytes → header_fits file ≡ true → (ls : List Link) → Walked file off (λ e. eqb e (length file)) most_revisions [] ls →
        (rs : List Revision) → revisions file true [] ls ≡ Ok rs → ◌≡◌ {A = Answer Opened} (Ok (record { header = take 8 file; history = rs })) (Ok o) → Opening file o
    done s d ls w rs m q =
        let e : ◌≡◌ {A = Opened} (record { header = take 8 file; history = rs }) o = answered q in
        record {
          short = s;
          headed = d;
          older = w.older;
          last = w.last;
          chained = w.chained;
          ends = eqb-true w.last.sec.end (length file) w.fit;
          few = w.few;
          made = ap (revisions file true []) (sym w.is) ∙ m ∙ ap (λ x. Ok x.history) e;
          header = ap (λ x. x.header) (sym e);
        }

pub chained_opens : Needed → (file : Bytes) (ks : List Link) (l : Link) (rs : List Revision) → length file ≤ file_bytes → header_fits file ≡ true → Chained file ks l → l.sec.end ≡ length file → suc (length ks) ≤ most_revisions → revisions file true [] (reverse (l ∷ ks)) ≡ Ok rs →
    opens file ≡ Ok (record { header = take 8 file; history = rs })
unfolding opens opens_from
chained_opens need file ks l rs s d c e f m =
    let st = reads_standing need file l (chained_reads file ks l c) in
    let t : last_offset file ≡ Some l.sec.offset = ap last_offset (sym (take_all l.sec.end file (omega arith))) ∙ st.tail in
    let w = chained_walk file ks l c most_revisions f (λ q. eqb q (length file)) (eq-eqb l.sec.end (length file) e) [] in
    rw (le-leb (length file) file_bytes s) (rw d (rw t (rw w (rw m refl))))

-- the revisions and the newest one of a file that opens
pub history_opened : (file : Bytes) (o : Opened) → opens file ≡ Ok o → history file ≡ o.history
unfolding history history_in
history_opened file o h = ap history_in h

pub newest_opened : (file : Bytes) (o : Opened) → opens file ≡ Ok o → newest file ≡ newest_or blank o.history
unfolding newest
newest_opened file o h = ap (newest_or blank) (history_opened file o h)
