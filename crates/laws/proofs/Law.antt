-- The law over whole runs, from what files, revisions and updates keep.
use Rattle.std.proofs.Common.{◌≡◌, ℕ, ◌+◌, ◌-◌, ◌<◌, ◌≤◌, leb, ◌++◌, length, take, Some, Ok, sym, ap, ◌∙◌, subst, arith, length-append, length-take-le}
use Rattle.std.proofs.lemmas.Bool.{leb-false, leb-true}
use Rattle.format.specs.Account.{Account, file_of, with_updates, revisions_held, objects_at, left_for}
use Rattle.format.specs.Book.{history, revision_at, blank, newest_or, newest, end_of_revision}
use Rattle.format.specs.Bytes.{Bytes}
use Rattle.format.specs.Law.{OpensAs, RevisionKept, Keeps, account_of, EveryRunKeepsRevisions, EqualFilesHoldEqualUpdates, Law}
use Rattle.format.specs.Revisions.{Opened, opens}
use Rattle.format.specs.Theorems.{PrefixesOpen, UpdatesReadBack, UpdatesTellApart}
use Rattle.format.specs.Updates.{objects_of, applied_all}
use Rattle.laws.proofs.Ends.{same_ok}
use Rattle.laws.proofs.Files.{at_front, at_newest, at_take, history_is, newest_is, objects_same, objects_some}
use Rattle.laws.proofs.Kept.{front, Sound, front_opens, sound_built, sound_history, after_run}
use Rattle.laws.proofs.Stacks.{Stacked, same_stack, stack_shows}
use Rattle.locality.proofs.Cases.{cases}

module _ (prefixes : PrefixesOpen) (reads : UpdatesReadBack) (was : Bytes) (o : Opened) (e : opens was ≡ Ok o) (a : Account) (file : Bytes) (s : Sound was o a file) where
  whole : Opened
  whole = record { header = o.header; history = take a.kept o.history ++ (sound_built prefixes reads was o e a file s).made }

  file_opens : opens file ≡ Ok whole
  unfolding file_of whole
  file_opens = ap opens s.is ∙ (sound_built prefixes reads was o e a file s).opened

  revisions_counted : length whole.history ≡ revisions_held a
  unfolding whole revisions_held
  revisions_counted =
      let b = sound_built prefixes reads was o e a file s in
      let l = length-append (take a.kept o.history) b.made in
      let n = length-take-le a.kept o.history s.high in
      let c = b.counted in
      omega arith

  -- The file has as many revisions as its account holds.
  pub sound_counted : length (history file) ≡ revisions_held a
  sound_counted = ap length (history_is file whole file_opens) ∙ revisions_counted

  opens_as : OpensAs file (revisions_held a)
  opens_as = record { opened = whole; accepted = file_opens; counted = revisions_counted }

  -- up to the last opening revision kept
  shows_opening : (k : ℕ) → k ≤ a.kept → objects_at file k ≡ objects_at was k
  shows_opening k h =
      let b = sound_built prefixes reads was o e a file s in
      let n = length-take-le a.kept o.history s.high in
      objects_same file was k
      (ap (revision_at k) (sound_history prefixes reads was o e a file s)
      ∙ at_front k (take a.kept o.history) b.made (omega arith)
      ∙ at_take k a.kept o.history h
      ∙ ap (revision_at k) (sym (history_is was o e)))

  -- the objects that the updates held start from
  pub last_kept : objects_at was a.kept ≡ objects_of (newest (front was a.kept))
  last_kept =
      let h = o.history in
      let n : length (take a.kept h) ≡ a.kept = length-take-le a.kept h s.high in
      let low = s.low in
      let at : revision_at (length (take a.kept h)) (take a.kept h) ≡ Some (newest_or blank (take a.kept h)) = at_newest (take a.kept h) (omega arith) in
      let opened = front_opens prefixes reads was o e a.kept s.low s.high in
      objects_some was a.kept (newest (front was a.kept))
      (ap (revision_at a.kept) (history_is was o e)
      ∙ sym (at_take a.kept a.kept h (omega arith))
      ∙ (rw n at at)
      ∙ ap Some (sym (newest_is (front was a.kept) (record { header = o.header; history = take a.kept h }) opened)))

  -- From the last opening revision kept on, the updates held are applied to it.
  pub shows_stack : (k : ℕ) → a.kept ≤ k → k ≤ revisions_held a → objects_at file k ≡ applied_all (take (k - a.kept) a.held) (objects_of (newest (front was a.kept)))
  unfolding file_of revisions_held
  shows_stack k low high =
      let h = o.history in
      let n : length (take a.kept h) ≡ a.kept = length-take-le a.kept h s.high in
      let opened = front_opens prefixes reads was o e a.kept s.low s.high in
      let j : k ≡ length (take a.kept h) + (k - a.kept) = omega arith in
      ap (λ (w : Bytes). objects_at w k) s.is
      ∙ ap (objects_at (file_of was a)) j
      ∙ stack_shows reads a.held (front was a.kept) (record { header = o.header; history = take a.kept h }) (k - a.kept) opened s.stacked (omega arith)

  -- Each revision shows what the account says that it is left.
  pub shows_left : (k : ℕ) → k ≤ revisions_held a → objects_at file k ≡ left_for was a k
  unfolding left_for
  shows_left k high =
      cases (leb k a.kept)
      (λ d. rw (d, left_for) (shows_opening k (leb-true k a.kept d)))
      (λ d. rw (d, left_for) (beyond k (leb-false k a.kept d) high))
    where
      beyond : (k : ℕ) → a.kept < k → k ≤ revisions_held a → objects_at file k ≡ applied_all (take (k - a.kept) a.held) (objects_at was a.kept)
      beyond k low high = shows_stack k (omega arith) high ∙ ap (applied_all (take (k - a.kept) a.held)) (sym last_kept)

  revision_kept : (k : ℕ) → 1 ≤ k → k ≤ revisions_held a → RevisionKept was a file k
  revision_kept k low high =
      let c = revisions_counted in
      let part = take (end_of_revision k (history file)) file in
      let p : Opened = record { header = whole.header; history = take k whole.history } in
      let opened : opens part ≡ Ok p =
      ap (λ h. opens (take (end_of_revision k h) file)) (history_is file whole file_opens) ∙ prefixes file whole k file_opens low (omega arith) in
      let same : objects_at part k ≡ objects_at file k =
      objects_same part file k
      (ap (revision_at k) (history_is part p opened) ∙ at_take k k whole.history (omega arith) ∙ ap (revision_at k) (sym (history_is file whole file_opens))) in
      record {
        alone = record { opened = p; accepted = opened; counted = length-take-le k whole.history (omega arith) };
        shows_alone = same ∙ shows_left k high;
        shows = shows_left k high;
      }

  -- A sound file keeps what its account says.
  pub sound_keeps : Keeps was a file
  sound_keeps = record { bytes = s.is; opens = opens_as; each = revision_kept }

-- After every run the file is what the account describes, and so is each revision still in it.
pub every_run_keeps : PrefixesOpen → UpdatesReadBack → EveryRunKeepsRevisions
every_run_keeps prefixes reads was space es m r =
    let x = after_run prefixes reads was space es m r in
    sound_keeps prefixes reads was x.opened x.accepted (account_of was es) m.store.bytes x.kept.sound

-- the file of an account depends on what is kept and held alone
pub same_file : (was : Bytes) (a b : Account) → a.kept ≡ b.kept → a.held ≡ b.held → file_of was a ≡ file_of was b
unfolding file_of
same_file was a b k h = λ i. with_updates (h i) (front was (k i))

-- Sound files with equally many opening revisions are equal only if they hold the same updates.
pub same_held : PrefixesOpen → UpdatesReadBack → UpdatesTellApart → (was : Bytes) (o : Opened) → opens was ≡ Ok o → (a b : Account) (file : Bytes) →
    Sound was o a file → Sound was o b file → a.kept ≡ b.kept → a.held ≡ b.held
unfolding file_of
same_held prefixes reads apart was o e a b file s t k =
    let opened = front_opens prefixes reads was o e a.kept s.low s.high in
    let stacked = subst (λ (n : ℕ). Stacked (front was n) b.held) (sym k) t.stacked in
    same_stack reads apart a.held b.held (front was a.kept) (record { header = o.header; history = take a.kept o.history }) opened s.stacked stacked
    (sym s.is ∙ t.is ∙ ap (λ n. with_updates b.held (front was n)) (sym k))

-- Equal files hold equal updates, and the other way.
pub equal_files : PrefixesOpen → UpdatesReadBack → UpdatesTellApart → EqualFilesHoldEqualUpdates
equal_files prefixes reads apart was space space' es es' m m' r r' k =
    let x = after_run prefixes reads was space es m r in
    let y = after_run prefixes reads was space' es' m' r' in
    let a = account_of was es in
    let b = account_of was es' in
    let o : y.opened ≡ x.opened = same_ok (sym y.accepted ∙ x.accepted) in
    let t : Sound was x.opened b m'.store.bytes = subst (λ (p : Opened). Sound was p b m'.store.bytes) o y.kept.sound in (
      (λ q.
          same_held prefixes reads apart was x.opened x.accepted a b m.store.bytes x.kept.sound
          (subst (λ (w : Bytes). Sound was x.opened b w) (sym q) t) k),
      (λ h. x.kept.sound.is ∙ same_file was a b k h ∙ sym t.is),
    )

-- The law over whole runs, from three theorems of files, revisions and updates.
pub law_from : PrefixesOpen → UpdatesReadBack → UpdatesTellApart → Law
law_from prefixes reads apart = (every_run_keeps prefixes reads, equal_files prefixes reads apart)
