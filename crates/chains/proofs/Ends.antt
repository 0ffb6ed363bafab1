-- Where the revisions of a file that opens start and end.
use Rattle.std.proofs.Common.{◌≡◌, ℕ, zero, suc, ◌<◌, ◌≤◌, true, List, [], ◌∷◌, reverse, length, sym, refl, ap, ◌∙◌, subst, ⊎_elim, arith}
use mathlib.Core.List.{reverse_aux, reverse-cons}
use lib.ListN.{length-reverse}
use Rattle.std.proofs.lemmas.Bool.{cases_lt}
use Rattle.format.specs.Book.{revision_at, newest_or, newest, blank, end_of_revision}
use Rattle.format.specs.Bytes.{Bytes}
use Rattle.format.specs.Chain.{Link}
use Rattle.format.specs.Revisions.{Revision, Opened}
use Rattle.chains.specs.Needed.{Needed}
use Rattle.chains.specs.Stated.{Ascending, EndsAscend}
use Rattle.chains.proofs.Histories.{Placed, Matched, revisions_matched, matched_length, matched_end, matched_newest, LinksAscend, matched_ascend, ends_rise, end_past}
use Rattle.chains.proofs.Openings.{Opening, opens_chained, newest_opened}
use Rattle.chains.proofs.Walks.{Chained, chained_reads, reads_long}

-- the sections of a chain ascend
pub chained_ascend : Needed → (file : Bytes) (ks : List Link) (l : Link) (acc : List Link) → Chained file ks l → LinksAscend l.sec.end acc → LinksAscend 0 (reverse_aux (l ∷ ks) acc)
chained_ascend need file [] l acc c h = (omega arith, let u = reads_long need file l c.0 in omega arith, h)
chained_ascend need file (k ∷ ks) l acc c h = chained_ascend need file ks k (l ∷ acc) c.0 (c.3, let u = reads_long need file l c.1 in omega arith, h)

module _ (file : Bytes) (o : Opened) (op : Opening file o) where
  pub opening_matched : Matched (reverse (op.last ∷ op.older)) o.history
  opening_matched = revisions_matched file true [] (reverse (op.last ∷ op.older)) o.history op.made

  pub opening_length : length o.history ≡ suc (length op.older)
  opening_length = matched_length (reverse (op.last ∷ op.older)) o.history opening_matched ∙ length-reverse (op.last ∷ op.older)

  -- the newest revision goes with the last link
  pub opening_newest : Placed op.last (newest_or blank o.history)
  opening_newest = matched_newest (reverse op.older) op.last blank o.history (subst (λ xs. Matched xs o.history) (reverse-cons op.last op.older) opening_matched)

  pub opening_end : end_of_revision (length o.history) o.history ≡ length file
  opening_end =
      let n : length o.history ≡ suc (length (reverse op.older)) = opening_length ∙ ap suc (sym (length-reverse op.older)) in
      ap (λ k. end_of_revision k o.history) n
      ∙ matched_end (reverse op.older) op.last [] o.history (subst (λ xs. Matched xs o.history) (reverse-cons op.last op.older) opening_matched)
      ∙ op.ends

rising : (rs : List Revision) (j k : ℕ) → Ascending 0 rs → 1 ≤ j → j < k → k ≤ length rs → end_of_revision j rs < end_of_revision k rs
rising rs zero k a h l n = absurd (omega arith)
rising rs (suc i) zero a h l n = absurd (omega arith)
rising rs (suc i) (suc j) a h l n = ends_rise 0 rs i j a (omega arith) (omega arith)

no_end : (rs : List Revision) → end_of_revision 0 rs ≡ 0
unfolding end_of_revision revision_at
no_end rs = refl

within : (rs : List Revision) (m k : ℕ) → Ascending 0 rs → end_of_revision (length rs) rs ≡ m → end_of_revision k rs ≤ m
within rs m zero a e = let u = no_end rs in omega arith
within rs m (suc i) a e =
    ⊎_elim
    (λ (h : i < length rs).
    ⊎_elim
    (λ (g : suc i < length rs). let u = rising rs (suc i) (length rs) a (omega arith) g (omega arith) in omega arith)
    (λ (g : length rs ≤ suc i). let n : suc i ≡ length rs = omega arith in let u = ap (λ k. end_of_revision k rs) n in omega arith)
    (cases_lt (suc i) (length rs)))
    (λ (h : length rs ≤ i). let u = end_past rs i h in omega arith)
    (cases_lt i (length rs))

-- from the locality of sections: revisions stand one behind another, and the newest ends where the file ends
pub ends_ascend : Needed → EndsAscend
ends_ascend need file o h =
    let op = opens_chained need file o h in
    let n = opening_length file o op in
    let long = reads_long need file op.last (chained_reads file op.older op.last op.chained) in
    let ends = op.ends in
    let new = newest_opened file o h in
    let placed = opening_newest file o op in
    let a = matched_ascend 0 (reverse (op.last ∷ op.older)) o.history (opening_matched file o op) (chained_ascend need file op.older op.last [] op.chained tt) in
    let at : (newest file).offset ≡ op.last.sec.offset = ap (λ r. r.offset) new ∙ placed.0 in
    record {
      some = omega arith;
      few = let u = op.few in omega arith;
      short = op.short;
      long = omega arith;
      newest_end = ap (λ r. r.end) new ∙ placed.1 ∙ ends;
      newest_offset = omega arith;
      ascending = a;
      last_end = opening_end file o op;
      rising = λ j k. rising o.history j k a;
      within = λ k. within o.history (length file) k a (opening_end file o op);
    }
