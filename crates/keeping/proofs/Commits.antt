-- The newest section, and the update that is read back behind it.
use Rattle.std.proofs.Common.{◌≡◌, Bool, true, false, not, leb, List, [], ◌∷◌, ◌++◌, reverse, length, Ok, sym, refl, ap, ◌∙◌, subst}
use mathlib.Core.List.{reverse-cons}
use Rattle.std.proofs.lemmas.List.{same_from_push}
use Rattle.std.proofs.lemmas.Bool.{leb-true}
use Rattle.format.specs.Book.{blank, newest_or, newest, addition, is_none, within_limits, decide_commit}
use Rattle.format.specs.Bytes.{Bytes, ok}
use Rattle.format.specs.Chain.{Link, section_in}
use Rattle.format.specs.Revisions as format
use Rattle.format.specs.Revisions.{revisions}
use Rattle.format.specs.Writing.{update_section}
use Rattle.chains.specs.Stated.{ReadsBack}
use Rattle.chains.proofs.Added.{section_window, addition_length, updates_open}
use Rattle.chains.proofs.Needs.{needed}
use Rattle.chains.proofs.Openings.{Opening, opens_chained, newest_opened}
use Rattle.chains.proofs.Places.{section_places}
use Rattle.chains.proofs.Steps.{answered}
use Rattle.chains.proofs.Walks.{Read, chained_reads}
use Rattle.laws.proofs.Held.{acceptable_empty, acceptable_put, acceptable_remove}
use Rattle.laws.proofs.NewestTrailer.{Trailing, newest_trailing, last_made}
use Rattle.laws.proofs.ReadBack.{updates_read_back}
use Rattle.laws.proofs.ReadSection.{Ready, ready, revision_for, reads_back}
use Rattle.tables.proofs.Answered.{must_ok}
use Rattle.tables.proofs.SoundTables.{Accepted, accepted}
use Rattle.keeping.specs.Committing.{NewestSection, NewestSectionReads, UpdatesStayAcceptable, AcceptedCommitsFit, section_at, CommitsReadBack, TablesAfterCommit}
use Rattle.keeping.proofs.Kept.{tables_grow, one_more}
use Rattle.keeping.proofs.Starts.{sections_start}

-- the revision r was made of the link l, which stands in the file and ends with it
section_of_fact : (file : Bytes) (r : format.Revision) → newest file ≡ r → (old : List format.State) (l : Link) →
    Accepted file old l r → Read file l → l.sec.end ≡ length file → Trailing (newest file) → NewestSection file
section_of_fact file r n old l a read ends t =
    let offset : (newest file).offset ≡ l.sec.offset = ap (λ x. x.offset) (n ∙ a.is) in
    record {
      sec = l.sec;
      rest = read.rest;
      read = ap (section_in file) offset ∙ read.read ∙ ap (λ e. ok l.sec e read.rest) ends;
      offset = sym offset;
      end = ends;
      trailer = sym (ap (λ x. x.trailer) (n ∙ a.is));
      says = t.says;
      telling = t.telling;
      root = t.root;
    }

pub newest_section : NewestSectionReads
newest_section file o h = go (opens_chained needed file o h)
  where
    go : Opening file o → NewestSection file
    go op =
        let w =
        last_made file true [] (reverse op.older) op.last blank o.history (subst (λ xs. revisions file true [] xs ≡ Ok o.history) (reverse-cons op.last op.older) op.made) in
        section_of_fact file (newest_or blank o.history) (newest_opened file o h) w.1 op.last
        (accepted file w.0 w.1 op.last (newest_or blank o.history) w.2) (chained_reads file op.older op.last op.chained) op.ends
        (newest_trailing file o h)

pub stays_acceptable : UpdatesStayAcceptable
stays_acceptable r = record { begin = acceptable_empty r; put = acceptable_put r; remove = acceptable_remove r }

not_so : (b : Bool) → not b ≡ true → b ≡ false
not_so true e = sym e
not_so false e = refl

pub commits_fit : AcceptedCommitsFit
unfolding decide_commit
commits_fit s u e =
    let x = must_ok (not (is_none u)) _ _ tt e in
    let y = must_ok (within_limits s.bytes u) _ _ tt x.1 in
    let z = must_ok (leb (length (addition s.bytes u)) s.space) _ _ tt y.1 in
    record { some = not_so (is_none u) x.0; limits = y.0; space = leb-true (length (addition s.bytes u)) s.space z.0 }

pub commits_read : CommitsReadBack
commits_read file o u h a w =
    let x = updates_read_back file o u h a w in
    let k : Ready file u = ready file o u h a w in
    let r = revision_for file u k in
    let e = updates_open needed file o u r h w (reads_back file u k) in
    let both : o.history ++ (r ∷ []) ≡ o.history ++ (x.0 ∷ []) = ap (λ y. y.history) (answered (sym e ∙ x.1.accepted)) in
    let same : r ≡ x.0 = (same_from_push o.history o.history r x.0 both).1 in
    let b : ReadsBack file u x.0 = subst (ReadsBack file u) same (reads_back file u k) in
    let p = section_places (section_at file u) (update_section (length file) (newest file) u) b.sec _ [] b.read in
    record {
      sec = b.sec;
      rest = [];
      read = section_window file u w ∙ b.read ∙ ap (λ n. ok b.sec n []) (sym (addition_length file u));
      offset = p.0;
      end = p.1 ∙ sym (addition_length file u);
      bounded = b.bounded;
      says = b.says;
      telling = b.telling;
      prev = b.prev;
      made = x.0;
      makes = b.makes;
      is = x.1;
    }

pub after_commit : TablesAfterCommit
after_commit file more o rs cs new r q e t n =
    one_more (file ++ more) o.history rs cs new r q (tables_grow file more o.history rs cs t (sections_start file o rs cs e t)) n
