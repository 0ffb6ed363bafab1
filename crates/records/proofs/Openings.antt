-- Opening, check by check; and the revisions, one after the other.
use Rattle.std.proofs.Common.{◌≡◌, ℕ, ◌-◌, ◌<◌, ◌≤◌, true, false, List, [], ◌∷◌, ◌++◌, length, take, drop, Some, None, Ok, Err, Option, sym, refl, ap, ◌∙◌, append_assoc, arith, length-append, length-drop, le-leb}
use borrow.Author.Tests.{lt-leb}
use Rattle.std.proofs.lemmas.List.{append-nil, take_all, same_from_push}
use Rattle.faults.specs.declared.fault.Fault.{Fault}
use Rattle.faults.specs.declared.reason.Reason.TheVariants.{NoHeader, NoTail, FileBound}
use Rattle.format.specs.Book.{blank, newest_or}
use Rattle.format.specs.Bytes.{Bytes}
use Rattle.format.specs.Chain.{Answer, also, Link, walk}
use Rattle.format.specs.Failures.{chain_fault}
use Rattle.format.specs.Revisions.{Revision, revision, revisions, header_fits, file_bytes, most_revisions, opens_from, opens}
use Rattle.format.specs.Sections.{last_offset}
use Rattle.entries.specs.declared.cell.Cell.{Cell}
use Rattle.entries.specs.declared.revision.Revision as code
use Rattle.entries.specs.Tables.{TablesOf}
use Rattle.records.specs.declared.chain.Ending.TheVariants.{At}
use Rattle.records.specs.Chained.{may_end, LinkedFrom, RevisionsRead, Opens}
use Rattle.records.specs.Links.{link_at, is_first, next_revision}
use Rattle.records.proofs.Answering.{also_same, also_made}
use Rattle.records.proofs.Revising.{same_length}

-- the end of a file, as a window shows it
pub tail_window : (file src : Bytes) (len start : ℕ) → len ≡ length file → start ≡ len - 31 → src ≡ take 31 (drop start file) → src ≡ drop (length file - 31) file
tail_window file src len start l s w =
    let e : start ≡ length file - 31 = omega arith in
    w ∙ ap (λ (n : ℕ). take 31 (drop n file)) e ∙ take_all 31 (drop (length file - 31) file) (simp length-drop (omega arith))

-- the last of a list that grows
newest_push : (b : Revision) (h : List Revision) (r : Revision) → newest_or b (h ++ r ∷ []) ≡ r
unfolding newest_or
newest_push b [] r = refl
newest_push b (x ∷ h) r = newest_push x h r

not_first : (h : List Revision) (r : Revision) → is_first (h ++ r ∷ []) ≡ false
unfolding is_first
not_first [] r = refl
not_first (x ∷ h) r = refl

-- The revisions of all sections are those read and those of the sections left, whose offsets are held.
pub record Reading (file : Bytes) (ls : List Link) (offs : List ℕ) (held : List code.Revision) (cells : List Cell) : Type 0 where
  pub h : List Revision
  pub rest : List Link
  pub low : ℕ
  pub is : revisions file true [] ls ≡ also (revisions file (is_first h) (newest_or blank h).states rest) (λ rs. Ok (h ++ rs))
  pub left : LinkedFrom file low rest offs
  pub newest : (newest_or blank h).offset ≤ low
  pub tables : TablesOf file h held cells

pub reading_start : (file : Bytes) (ls : List Link) (offs : List ℕ) (held : List code.Revision) (cells : List Cell) → held ≡ [] → cells ≡ [] → LinkedFrom file 0 ls offs → Reading file ls offs held cells
unfolding is_first newest_or
reading_start file ls offs held cells e f l = record {
  h = [];
  rest = ls;
  low = 0;
  is = also_same (revisions file true [] ls);
  left = l;
  newest = omega arith;
  tables = rw (e, f) (record { is = refl; stacked = refl; within = tt });
}

-- one offset less
record Popped (file : Bytes) (off low : ℕ) (rest : List Link) (offs : List ℕ) : Type 0 where
  pub l : Link
  pub more : List Link
  pub is : rest ≡ l ∷ more
  pub link : link_at file off ≡ Ok l
  pub up : low ≤ off
  pub left : LinkedFrom file off more offs

nil_push : {A : Type 0} (xs : List A) (x : A) → xs ++ x ∷ [] ≡ [] → ⊥
nil_push xs x e = let q = sym (length-append xs (x ∷ [])) ∙ ap length e in omega arith

popped : (file : Bytes) (off low : ℕ) (rest : List Link) (offs was : List ℕ) → was ≡ offs ++ off ∷ [] → LinkedFrom file low rest was → Popped file off low rest offs
popped file off low [] offs was e k = absurd (nil_push offs off (sym e ∙ k))
popped file off low (l ∷ ls) offs was e k =
    let s = same_from_push offs k.1 off k.0 (sym e ∙ k.2) in
    record { l = l; more = ls; is = refl; link = rw s.1 k.4; up = rw s.1 k.3; left = rw (s.1, s.0) k.5 }

none_left : (file : Bytes) (low : ℕ) (rest : List Link) (offs : List ℕ) → offs ≡ [] → LinkedFrom file low rest offs → rest ≡ []
none_left file low [] offs e k = refl
none_left file low (l ∷ ls) offs e k = absurd (nil_push k.1 k.0 (sym k.2 ∙ e))

module _ (file : Bytes) (ls : List Link) (offs was : List ℕ) (held : List code.Revision) (cells : List Cell) (off : ℕ) (p : was ≡ offs ++ off ∷ []) (r : Reading file ls was held cells) where
  -- the next section is the oldest of those left
  next_is : (w : Popped file off r.low r.rest offs) → next_revision file r.h off ≡ revision file (is_first r.h) (newest_or blank r.h).states w.l
  unfolding next_revision
  next_is w = rw w.link refl

  pub reading_stop : (f : Fault) → next_revision file r.h off ≡ Err f → revisions file true [] ls ≡ Err f
  unfolding revisions
  reading_stop f e =
      let w = popped file off r.low r.rest offs was p r.left in
      let q : revision file (is_first r.h) (newest_or blank r.h).states w.l ≡ Err f = sym (next_is w) ∙ e in
      let z : revisions file (is_first r.h) (newest_or blank r.h).states r.rest ≡ Err f = rw w.is (rw (q, revisions) refl) in
      r.is ∙ ap (λ (a : Answer (List Revision)). also a (λ rs. Ok (r.h ++ rs))) z

  pub later : (newest_or blank r.h).offset ≤ off
  later = let w = popped file off r.low r.rest offs was p r.left in omega (arith, r.newest, w.up)

  pub reading_on : (new : Revision) (after : List code.Revision) (whole : List Cell) → next_revision file r.h off ≡ Ok new → new.offset ≡ off → TablesOf file (r.h ++ new ∷ []) after whole → Reading file ls offs after whole
  unfolding revisions
  reading_on new after whole e o t =
      let w = popped file off r.low r.rest offs was p r.left in
      let q : revision file (is_first r.h) (newest_or blank r.h).states w.l ≡ Ok new = sym (next_is w) ∙ e in
      let first : revisions file (is_first r.h) (newest_or blank r.h).states (w.l ∷ w.more) ≡ also (revisions file false new.states w.more) (λ rs. Ok (new ∷ rs)) = rw (q, revisions) refl in
      let z : revisions file (is_first r.h) (newest_or blank r.h).states r.rest ≡ also (revisions file false new.states w.more) (λ rs. Ok (new ∷ rs)) = ap (revisions file (is_first r.h) (newest_or blank r.h).states) w.is ∙ first in
      let n = newest_push blank r.h new in
      record {
        h = r.h ++ new ∷ [];
        rest = w.more;
        low = off;
        is =
            r.is
            ∙ ap (λ (a : Answer (List Revision)). also a (λ rs. Ok (r.h ++ rs))) z
            ∙ also_made (revisions file false new.states w.more) (λ rs. new ∷ rs) (λ rs. r.h ++ rs) (λ rs. (r.h ++ new ∷ []) ++ rs) (λ rs. sym (append_assoc r.h (new ∷ []) rs))
            ∙ (λ i. also (revisions file (sym (not_first r.h new) i) (sym n i).states w.more) (λ rs. Ok ((r.h ++ new ∷ []) ++ rs)));
        left = w.left;
        newest = (let m : (newest_or blank (r.h ++ new ∷ [])).offset ≡ off = ap (λ (v : Revision). v.offset) n ∙ o in omega arith);
        tables = t;
      }

pub reading_end : (file : Bytes) (ls : List Link) (offs : List ℕ) (held : List code.Revision) (cells : List Cell) → offs ≡ [] → Reading file ls offs held cells → RevisionsRead file ls held cells (Ok tt)
unfolding revisions
reading_end file ls offs held cells e r =
    let z : r.rest ≡ [] = none_left file r.low r.rest offs e r.left in
    (r.h, r.is ∙ ap (λ (rest : List Link). also (revisions file (is_first r.h) (newest_or blank r.h).states rest) (λ rs. Ok (r.h ++ rs))) z ∙ ap Ok (append-nil r.h), r.tables)

-- the checks of opening
pub open_long : (file : Bytes) → file_bytes < length file → opens file ≡ Err (chain_fault FileBound 0 0)
unfolding opens
open_long file h = rw (lt-leb (length file) file_bytes h) refl

module _ (file : Bytes) (s : length file ≤ file_bytes) where
  pub open_headless : header_fits file ≡ false → opens file ≡ Err (chain_fault NoHeader 0 0)
  unfolding opens
  open_headless h = rw (le-leb (length file) file_bytes s, h) refl

  module _ (h : header_fits file ≡ true) where
    open_from : (o : Option ℕ) → last_offset file ≡ o → opens file ≡ opens_from file o
    unfolding opens
    open_from o e = rw (le-leb (length file) file_bytes s, h) (ap (opens_from file) e)

    pub open_tailless : None ≡ last_offset file → opens file ≡ Err (chain_fault NoTail (length file) 0)
    unfolding opens_from
    open_tailless e = open_from None (sym e)

    module _ (off : ℕ) (e : Some off ≡ last_offset file) where
      pub open_unchained : (f : Fault) → walk most_revisions file off (may_end (At (length file))) [] ≡ Err f → opens file ≡ Err f
      unfolding opens_from
      open_unchained f w = open_from (Some off) (sym e) ∙ rw w refl

      module _ (ls : List Link) (w : walk most_revisions file off (may_end (At (length file))) [] ≡ Ok ls) where
        pub open_unread : (f : Fault) → revisions file true [] ls ≡ Err f → opens file ≡ Err f
        unfolding opens_from
        open_unread f r = open_from (Some off) (sym e) ∙ rw (w, r) refl

        pub open_read : (k : ℕ) (held : List code.Revision) (cells : List Cell) → k ≡ length held → RevisionsRead file ls held cells (Ok tt) → Opens file held cells (Ok k)
        unfolding opens_from
        open_read k held cells n r = (
          record { header = take 8 file; history = r.0 },
          open_from (Some off) (sym e) ∙ rw (w, r.1) refl,
          n ∙ sym (same_length file r.0 held cells r.2),
          r.2,
        )
