-- A file with one more section behind it opens as its old revisions and one more.
use Rattle.std.proofs.Common.{◌≡◌, ℕ, suc, ◌+◌, ◌<◌, ◌≤◌, true, false, [], ◌∷◌, ◌++◌, reverse, length, pos, Some, Ok, sym, refl, ap, ◌∙◌, subst, arith}
use mathlib.Core.List.{reverse-cons}
use lib.ListN.{length-reverse}
use lib.Seq.{take-append-le}
use Rattle.std.proofs.lemmas.Bool.{lt-ltb}
use Rattle.format.specs.Book.{newest, blank}
use Rattle.format.specs.Bytes.{Bytes, ok}
use Rattle.format.specs.Chain.{Link, section_in, below, before}
use Rattle.format.specs.Revisions.{Revision, revision, revisions, most_revisions, Opened, opens}
use Rattle.chains.specs.Needed.{Needed}
use Rattle.chains.specs.Stated.{Behind, LongerOpen}
use Rattle.chains.proofs.Agree.{revisions_agree}
use Rattle.chains.proofs.Ends.{opening_length, opening_newest}
use Rattle.chains.proofs.Headers.{header_longer}
use Rattle.chains.proofs.Histories.{revisions_join}
use Rattle.chains.proofs.Openings.{Opening, opens_chained, chained_opens, history_opened, newest_opened}
use Rattle.chains.proofs.Walks.{Read, Chained, chained_reads, reads_long, chained_again, chained_under}
use Rattle.chains.proofs.Windows.{Alike, alike_longer, Standing, standing}

-- a Prev below its section's offset
pub prev_below : (n off : ℕ) → n < off → before off (Some (pos n)) ≡ Ok (Some n)
unfolding before below
prev_below n off h = rw (lt-ltb n off h, before, below) refl

module _ (need : Needed) (file more : Bytes) (o : Opened) (r : Revision) (h : opens file ≡ Ok o) (b : Behind file more r) (op : Opening file o) where
  longer_by : opens (file ++ more) ≡ Ok (record { header = o.header; history = o.history ++ (r ∷ []) })
  longer_by =
      chained_opens need (file ++ more) (op.last ∷ op.older) top (o.history ++ (r ∷ [])) b.short (header_longer file more op.headed) chained st.end few made
      ∙ ap (λ x. Ok (record { header = x; history = o.history ++ (r ∷ []) })) (take-append-le 8 file more (let u = long in let v = op.ends in omega arith) ∙ sym op.header)
    where
      top : Link
      top = record { sec = b.sec; says = b.says }

      st : Standing (file ++ more) b.off b.sec (length (file ++ more))
      st = standing need (file ++ more) b.off b.sec (length (file ++ more)) b.rest b.read

      reads : Read (file ++ more) top
      reads = record {
        rest = b.rest;
        read = ap (section_in (file ++ more)) st.offset ∙ b.read ∙ ap (λ e. ok b.sec e b.rest) (sym st.end);
        bounded = b.bounded;
        telling = b.telling;
      }

      long : op.last.sec.offset + 20 ≤ op.last.sec.end
      long = reads_long need file op.last (chained_reads file op.older op.last op.chained)

      alike : Alike file (file ++ more) (length file)
      alike = alike_longer file more b.no_lf

      at : (newest file).offset ≡ op.last.sec.offset
      at = ap (λ q. q.offset) (newest_opened file o h) ∙ (opening_newest file o op).0

      led : before b.sec.offset b.says.prev ≡ Ok (Some op.last.sec.offset)
      led =
          let u : op.last.sec.offset < b.sec.offset = let v = b.past in let w = st.offset in let x = long in let y = op.ends in omega arith in
          ap (before b.sec.offset) (b.prev ∙ ap (λ n. Some (pos n)) at) ∙ prev_below op.last.sec.offset b.sec.offset u

      chained : Chained (file ++ more) (op.last ∷ op.older) top
      chained = (
        chained_again need file (file ++ more) op.older op.last (subst (λ m. Alike file (file ++ more) m) (sym op.ends) alike) op.chained,
        reads,
        led,
        let u = b.past in let v = st.offset in let w = op.ends in omega arith,
      )

      few : suc (suc (length op.older)) ≤ most_revisions
      few = let u = b.few in let v = ap length (history_opened file o h) in let w = opening_length file o op in omega arith

      old_made : revisions (file ++ more) true [] (reverse (op.last ∷ op.older)) ≡ Ok o.history
      old_made =
          sym (revisions_agree file (file ++ more) (length file) alike.same true [] (reverse (op.last ∷ op.older))
          (chained_under need file op.older op.last (length file) [] op.chained (let u = long in let v = op.ends in omega arith) tt))
          ∙ op.made

      made : revisions (file ++ more) true [] (reverse (top ∷ op.last ∷ op.older)) ≡ Ok (o.history ++ (r ∷ []))
      made =
          ap (revisions (file ++ more) true []) (reverse-cons top (op.last ∷ op.older))
          ∙ revisions_join (file ++ more) true [] (reverse (op.last ∷ op.older)) top blank o.history r (rw length-reverse (omega arith)) old_made
          (ap (λ q. revision (file ++ more) false q.states top) (sym (newest_opened file o h)) ∙ b.makes)

-- from the locality of sections: what stands behind a file leaves its revisions as they are
pub longer_open : Needed → LongerOpen
longer_open need file more o r h b = longer_by need file more o r h b (opens_chained need file o h)
