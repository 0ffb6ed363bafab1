-- The bytes of a file up to the end of its revision k open as its first k revisions.
use Rattle.std.proofs.Common.{◌≡◌, ℕ, suc, ◌≤◌, true, List, [], ◌∷◌, ◌++◌, reverse, length, take, drop, Ok, sym, ap, ◌∙◌, subst, append_assoc, arith, take-append-drop, length-take-le, take-take, take_at}
use mathlib.Core.List.{reverse-cons}
use lib.ListN.{length-reverse}
use Rattle.format.specs.Book.{end_of_revision}
use Rattle.format.specs.Bytes.{Bytes}
use Rattle.format.specs.Chain.{Link}
use Rattle.format.specs.Revisions.{revisions, header_fits, file_bytes, most_revisions, Opened, opens}
use Rattle.format.specs.Theorems.{PrefixesOpen}
use Rattle.chains.specs.Needed.{Needed}
use Rattle.chains.proofs.Agree.{revisions_agree}
use Rattle.chains.proofs.Headers.{header_cut}
use Rattle.chains.proofs.Histories.{Matched, revisions_matched, matched_length, matched_end, Fore, revisions_fore}
use Rattle.chains.proofs.Openings.{Opening, opens_chained, chained_opens}
use Rattle.chains.proofs.Walks.{chained_reads, reads_standing, chained_again, chained_under, Front, chained_front}
use Rattle.chains.proofs.Windows.{alike_front}

module _ (need : Needed) (file : Bytes) (o : Opened) (k : ℕ) (op : Opening file o) where
  abbrev links : List Link
  links = reverse (op.last ∷ op.older)

  cut_opens : Front file k links → k ≤ most_revisions → opens (take (end_of_revision k o.history) file) ≡ Ok (record { header = o.header; history = take k o.history })
  cut_opens fr few =
      rw end_is
      (chained_opens need (take m file) fr.older fr.last (take k o.history) short headed
      (chained_again need file (take m file) fr.older fr.last (alike_front file m within) fr.chained) (sym sized)
      (let u = fr.count in omega arith) made
      ∙ ap (λ h. Ok (record { header = h; history = take k o.history })) (take-take 8 m file (let v = long in omega arith) ∙ sym op.header))
    where
      m : ℕ
      m = fr.last.sec.end

      within : m ≤ length file
      within = (reads_standing need file fr.last (chained_reads file fr.older fr.last fr.chained)).within

      long : 20 ≤ m
      long = let u = (reads_standing need file fr.last (chained_reads file fr.older fr.last fr.chained)).long in omega arith

      sized : length (take m file) ≡ m
      sized = length-take-le m file within

      short : length (take m file) ≤ file_bytes
      short = let u = op.short in let v = sized in let w = within in omega arith

      headed : header_fits (take m file) ≡ true
      headed = header_cut file m (let u = long in omega arith) op.headed

      -- the links in two parts
      parts : links ≡ reverse (fr.last ∷ fr.older) ++ drop k links
      parts = sym (take-append-drop k links) ∙ ap (λ xs. xs ++ drop k links) fr.is

      matched : Matched links o.history
      matched = revisions_matched file true [] links o.history op.made

      apart : links ≡ reverse fr.older ++ (fr.last ∷ drop k links)
      apart = parts ∙ ap (λ xs. xs ++ drop k links) (reverse-cons fr.last fr.older) ∙ append_assoc (reverse fr.older) (fr.last ∷ []) (drop k links)

      end_is : end_of_revision k o.history ≡ m
      end_is =
          let c : k ≡ suc (length (reverse fr.older)) = sym fr.count ∙ ap suc (sym (length-reverse fr.older)) in
          ap (λ n. end_of_revision n o.history) c
          ∙ matched_end (reverse fr.older) fr.last (drop k links) o.history (subst (λ xs. Matched xs o.history) apart matched)

      fore : Fore file true [] (reverse (fr.last ∷ fr.older)) o.history
      fore = revisions_fore file true [] (reverse (fr.last ∷ fr.older)) (drop k links) o.history (ap (revisions file true []) (sym parts) ∙ op.made)

      counted : length fore.fore ≡ k
      counted = matched_length (reverse (fr.last ∷ fr.older)) fore.fore (revisions_matched file true [] (reverse (fr.last ∷ fr.older)) fore.fore fore.made) ∙ length-reverse (fr.last ∷ fr.older) ∙ fr.count

      first_k : take k o.history ≡ fore.fore
      first_k = ap (take k) fore.is ∙ take_at fore.fore fore.others k counted

      made : revisions (take m file) true [] (reverse (fr.last ∷ fr.older)) ≡ Ok (take k o.history)
      made =
          let u = (reads_standing need file fr.last (chained_reads file fr.older fr.last fr.chained)).long in
          sym (revisions_agree file (take m file) m (sym (take-take m m file (omega arith))) true [] (reverse (fr.last ∷ fr.older)) (chained_under need file fr.older fr.last m [] fr.chained (omega arith) tt))
          ∙ fore.made
          ∙ ap Ok (sym first_k)

-- from the locality of sections: a file's first revisions are those of its first bytes
pub prefixes_open : Needed → PrefixesOpen
prefixes_open need file o k h l g =
    let op = opens_chained need file o h in
    let n : length o.history ≡ suc (length op.older) = matched_length (reverse (op.last ∷ op.older)) o.history (revisions_matched file true [] (reverse (op.last ∷ op.older)) o.history op.made) ∙ length-reverse (op.last ∷ op.older) in
    let few = op.few in
    cut_opens need file o k op (chained_front file op.older op.last k op.chained l (omega arith)) (omega arith)
