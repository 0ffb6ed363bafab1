-- What every run keeps: the file is a stack of updates behind a front of the opening bytes, and the open update is acceptable on it.
use Rattle.std.proofs.Common.{◌≡◌, ℕ, ◌+◌, ◌-◌, ◌<◌, ◌≤◌, true, false, not, ltb, List, [], ◌∷◌, ◌++◌, length, take, is_some, Ok, Err, sym, refl, ap, ◌∙◌, subst, arith, length-append, length-take-le, take-take}
use lib.Seq.{take-append-le, take-length}
use Rattle.std.proofs.lemmas.Bool.{ltb-false, ltb-true}
use Rattle.stores.specs.Meanings.{Meaning}
use Rattle.format.specs.Acceptable.{Acceptable}
use Rattle.format.specs.Account.{Account, Event, noted, after_event, account_from, account, with_updates, file_of}
use Rattle.format.specs.Book.{Phase, shut, standing, updating, Moment, Call, open_file, begin, put, remove, commit, abandon, back, history, revision_at, newest, addition, is_none, within_limits, decide_commit, decide_open, decide, held_by, phase_after, end_of_revision, bytes_after, Step}
use Rattle.format.specs.Bytes.{Bytes}
use Rattle.format.specs.Chain.{Answer}
use Rattle.format.specs.Law.{Run, RunFrom, account_of}
use Rattle.format.specs.Revisions.{Revision, Opened, opens}
use Rattle.format.specs.Theorems.{PrefixesOpen, UpdatesReadBack}
use Rattle.format.specs.Updates.{body, removed, Update, with_change}
use Rattle.laws.proofs.Ends.{opened_ends}
use Rattle.laws.proofs.Files.{at_front, at_take, at_within, cut_length, end_at, ends_ascend, ends_at_length, history_is, with_one_more}
use Rattle.laws.proofs.Held.{acceptable_empty, acceptable_put, acceptable_remove}
use Rattle.laws.proofs.Stacks.{Stacked, stacked_snoc, stacked_take, Built, built, built_history, cut_stack}
use Rattle.locality.proofs.Cases.{cases}
use Rattle.tables.proofs.Answered.{err_ok, must_ok}

-- the opening bytes up to the end of revision k
abbrev pub front : Bytes → ℕ → Bytes
front was k = take (end_of_revision k (history was)) was

-- A file and its account, from opening bytes that opened as o.
pub record Sound (was : Bytes) (o : Opened) (a : Account) (file : Bytes) : Type 0 where
  pub low : 1 ≤ a.kept
  pub high : a.kept ≤ length o.history
  pub stacked : Stacked (front was a.kept) a.held
  pub is : file ≡ file_of was a

-- the state of a book whose newest revision is r, with that open update in its account
abbrev pub Holding : Revision → Phase → Update → Type 0
Holding r shut p = ⊥
Holding r standing p = p ≡ []
Holding r (updating u) p = Acceptable r u × (p ≡ u)

-- A moment of a run: its bytes, its state and its account.
pub record Kept (was : Bytes) (o : Opened) (a : Account) (file : Bytes) (p : Phase) : Type 0 where
  pub sound : Sound was o a file
  pub holding : Holding (newest file) p a.pending

repended : (was : Bytes) (o : Opened) (a : Account) (file : Bytes) (p : Update) → Sound was o a file → Sound was o (record { kept = a.kept; held = a.held; pending = p }) file
unfolding file_of
repended was o a file p s = record { low = s.low; high = s.high; stacked = s.stacked; is = s.is }

limits_hold : (s : Meaning) (u : Update) → decide_commit s u ≡ Ok tt → within_limits s.bytes u ≡ true
unfolding decide_commit
limits_hold s u e =
    let x = must_ok (not (is_none u)) _ _ tt e in
    let y = must_ok (within_limits s.bytes u) _ _ tt x.1 in
    y.0

module _ (prefixes : PrefixesOpen) (reads : UpdatesReadBack) (was : Bytes) (o : Opened) (e : opens was ≡ Ok o) where
  -- A front of the opening bytes opens as the first revisions.
  pub front_opens : (k : ℕ) → 1 ≤ k → k ≤ length o.history → opens (front was k) ≡ Ok (record { header = o.header; history = take k o.history })
  front_opens k low high = ap (λ h. opens (take (end_of_revision k h) was)) (history_is was o e) ∙ prefixes was o k e low high

  front_length : (k : ℕ) → 1 ≤ k → k ≤ length o.history → length (front was k) ≡ end_of_revision k o.history
  front_length k low high = ap (λ h. length (take (end_of_revision k h) was)) (history_is was o e) ∙ cut_length prefixes was o e k low high

  -- the file of an account, opened
  pub sound_built : (a : Account) (file : Bytes) → Sound was o a file → Built (front was a.kept) (record { header = o.header; history = take a.kept o.history }) a.held
  sound_built a file s =
      built reads a.held (front was a.kept) (record { header = o.header; history = take a.kept o.history }) (front_opens a.kept s.low s.high) s.stacked

  -- the revisions of the file: the opening revisions kept, and those that updates made
  pub sound_history : (a : Account) (file : Bytes) (s : Sound was o a file) → history file ≡ take a.kept o.history ++ (sound_built a file s).made
  unfolding file_of
  sound_history a file s =
      ap history s.is
      ∙ built_history reads a.held (front was a.kept) (record { header = o.header; history = take a.kept o.history }) (sound_built a file s)

  -- right after opening
  pub sound_open : Sound was o (record { kept = length (history was); held = []; pending = [] }) was
  unfolding file_of with_updates
  sound_open =
      let n : length (history was) ≡ length o.history = ap length (history_is was o e) in
      let x = (opened_ends was o e).1 in
      let end : end_of_revision (length (history was)) (history was) ≡ length was =
      ap (λ h. end_of_revision (length h) h) (history_is was o e) ∙ ends_at_length was o e in
      record {
        low = omega arith;
        high = omega arith;
        stacked = tt;
        is = sym (ap (λ i. take i was) end ∙ take-length was);
      }

  sound_commit : (a : Account) (file : Bytes) → Sound was o a file → Acceptable (newest file) a.pending → within_limits file a.pending ≡ true →
      Sound was o (record { kept = a.kept; held = a.held ++ (a.pending ∷ []); pending = [] }) (file ++ addition file a.pending)
  unfolding file_of
  sound_commit a file s acc lim =
      let f = front was a.kept in
      record {
        low = s.low;
        high = s.high;
        stacked = stacked_snoc a.held a.pending f s.stacked
            (subst (λ (w : Bytes). Acceptable (newest w) a.pending) s.is acc)
            (subst (λ (w : Bytes). within_limits w a.pending ≡ true) s.is lim);
        is = ap (λ (w : Bytes). w ++ addition w a.pending) s.is ∙ sym (with_one_more a.held a.pending f);
      }

  back_front : (a : Account) (file : Bytes) (k : ℕ) → Sound was o a file → 1 ≤ k → k < a.kept →
      Sound was o (record { kept = k; held = []; pending = a.pending }) (take (end_of_revision k (history file)) file)
  unfolding file_of with_updates
  back_front a file k s low less =
      let h = o.history in
      let f = front was a.kept in
      let b = sound_built a file s in
      let under = s.high in
      let n : length (take a.kept h) ≡ a.kept = length-take-le a.kept h s.high in
      let end : end_of_revision k (history file) ≡ end_of_revision k h =
      ap (end_of_revision k) (sound_history a file s)
      ∙ end_at k (take a.kept h ++ b.made) (take a.kept h) (at_front k (take a.kept h) b.made (omega arith))
      ∙ end_at k (take a.kept h) h (at_take k a.kept h (omega arith)) in
      let below : end_of_revision k h ≤ end_of_revision a.kept h = ends_ascend prefixes was o e k a.kept low (omega arith) s.high in
      let long : length f ≡ end_of_revision a.kept h = front_length a.kept s.low s.high in
      let joined : file ≡ f ++ b.more = s.is ∙ b.joined in
      let now : end_of_revision k h ≡ end_of_revision k (history was) = ap (end_of_revision k) (sym (history_is was o e)) in
      let top : end_of_revision a.kept h ≡ end_of_revision a.kept (history was) = ap (end_of_revision a.kept) (sym (history_is was o e)) in
      let within : end_of_revision k (history was) ≤ length f = omega arith in
      let inside : end_of_revision k (history was) ≤ end_of_revision a.kept (history was) = omega arith in
      record {
        low = low;
        high = omega arith;
        stacked = tt;
        is =
            ap (λ i. take i file) (end ∙ now)
            ∙ ap (λ (w : Bytes). take (end_of_revision k (history was)) w) joined
            ∙ take-append-le (end_of_revision k (history was)) f b.more within
            ∙ take-take (end_of_revision k (history was)) (end_of_revision a.kept (history was)) was inside;
      }

  back_stack : (a : Account) (file : Bytes) (k : ℕ) → Sound was o a file → a.kept ≤ k → k ≤ length (history file) →
      Sound was o (record { kept = a.kept; held = take (k - a.kept) a.held; pending = a.pending }) (take (end_of_revision k (history file)) file)
  unfolding file_of
  back_stack a file k s low high =
      let h = o.history in
      let f = front was a.kept in
      let b = sound_built a file s in
      let n : length (take a.kept h) ≡ a.kept = length-take-le a.kept h s.high in
      let p : Opened = record { header = o.header; history = take a.kept h } in
      let l = ap length (sound_history a file s) in
      let m = length-append (take a.kept h) b.made in
      let c = b.counted in
      let j : length (take a.kept h) + (k - a.kept) ≡ k = omega arith in
      let cut = cut_stack reads a.held f p (k - a.kept) (front_opens a.kept s.low s.high) s.stacked (omega arith) in
      record {
        low = s.low;
        high = s.high;
        stacked = stacked_take (k - a.kept) a.held f s.stacked;
        is = ap (λ (w : Bytes). take (end_of_revision k (history w)) w) s.is ∙ (rw j at cut);
      }

  -- A cut at the end of a revision leaves the file of the account that has gone back to it.
  pub sound_back : (a : Account) (file : Bytes) (k : ℕ) → Sound was o a file → is_some (revision_at k (history file)) ≡ true →
      Sound was o (noted was a (back k)) (take (end_of_revision k (history file)) file)
  unfolding noted
  sound_back a file k s there =
      let x = at_within k (history file) there in
      cases (ltb k a.kept)
      (λ d. rw (d, noted) (back_front a file k s x.0 (ltb-true k a.kept d)))
      (λ d. rw (d, noted) (back_stack a file k s (ltb-false k a.kept d) x.1))

  back_pending : (a : Account) (k : ℕ) → (noted was a (back k)).pending ≡ a.pending
  unfolding noted
  back_pending a k = cases (ltb k a.kept) (λ d. rw (d, noted) refl) (λ d. rw (d, noted) refl)

  -- An accepted call keeps it.
  pub accepted_keeps : (a : Account) (s : Meaning) (p : Phase) (c : Call) → Kept was o a s.bytes p → decide s p c ≡ Ok tt →
      Kept was o (noted was a c) (bytes_after s.bytes p c) (phase_after p c)
  unfolding noted decide bytes_after phase_after held_by
  accepted_keeps a s shut c k d = absurd k.holding
  accepted_keeps a s standing open_file k d = err_ok d
  accepted_keeps a s standing begin k d = record { sound = repended was o a s.bytes [] k.sound; holding = (acceptable_empty (newest s.bytes), refl) }
  accepted_keeps a s standing (put x n b) k d = err_ok d
  accepted_keeps a s standing (remove x n) k d = err_ok d
  accepted_keeps a s standing (commit x) k d = err_ok d
  accepted_keeps a s standing (abandon x) k d = err_ok d
  accepted_keeps a s standing (back i) k d =
      record { sound = sound_back a s.bytes i k.sound (must_ok (is_some (revision_at i (history s.bytes))) _ _ tt d).0; holding = back_pending a i ∙ k.holding }
  accepted_keeps a s (updating u) open_file k d = err_ok d
  accepted_keeps a s (updating u) begin k d = err_ok d
  accepted_keeps a s (updating u) (put true n b) k d = err_ok d
  accepted_keeps a s (updating u) (put false n b) k d = record {
    sound = repended was o a s.bytes (with_change n (body b) a.pending) k.sound;
    holding = (acceptable_put (newest s.bytes) u n b k.holding.0 d, ap (with_change n (body b)) k.holding.1);
  }
  accepted_keeps a s (updating u) (remove true n) k d = err_ok d
  accepted_keeps a s (updating u) (remove false n) k d = record {
    sound = repended was o a s.bytes (with_change n removed a.pending) k.sound;
    holding = (acceptable_remove (newest s.bytes) u n k.holding.0 d, ap (with_change n removed) k.holding.1);
  }
  accepted_keeps a s (updating u) (commit true) k d = err_ok d
  accepted_keeps a s (updating u) (commit false) k d =
      let q = k.holding.1 in
      let acc = subst (λ (v : Update). Acceptable (newest s.bytes) v) (sym q) k.holding.0 in
      let lim = subst (λ (v : Update). within_limits s.bytes v ≡ true) (sym q) (limits_hold s u d) in
      let done = sound_commit a s.bytes k.sound acc lim in
      record {
        sound = subst (λ (v : Update). Sound was o (record { kept = a.kept; held = a.held ++ (a.pending ∷ []); pending = [] }) (s.bytes ++ addition s.bytes v)) q done;
        holding = refl;
      }
  accepted_keeps a s (updating u) (abandon true) k d = err_ok d
  accepted_keeps a s (updating u) (abandon false) k d = record { sound = repended was o a s.bytes [] k.sound; holding = refl }
  accepted_keeps a s (updating u) (back i) k d = err_ok d

  -- One call, accepted or refused, keeps it.
  pub step_keeps : (a : Account) (m n : Moment) (ev : Event) → Kept was o a m.store.bytes m.phase → Step m ev.call ev.answer n →
      Kept was o (after_event was a ev) n.store.bytes n.phase
  unfolding after_event
  step_keeps a m n ev k st = go ev.call ev.answer st
    where
      go : (c : Call) (x : Answer (Unit {0})) → Step m c x n → Kept was o (after_event was a (record { call = c; answer = x })) n.store.bytes n.phase
      go c (Ok u) st =
          let x = accepted_keeps a m.store m.phase c k (sym st.answer) in
          let y = subst (λ (w : Bytes). Kept was o (noted was a c) w (phase_after m.phase c)) (sym st.leaves.bytes) x in
          subst (λ (p : Phase). Kept was o (noted was a c) n.store.bytes p) (sym st.leaves.phase) y
      go c (Err f) st = subst (λ (x : Moment). Kept was o a x.store.bytes x.phase) (sym st.leaves) k

  -- Every run keeps it.
  pub run_keeps : (es : List Event) (a : Account) (m n : Moment) → Kept was o a m.store.bytes m.phase → Run m es n →
      Kept was o (account_from was a es) n.store.bytes n.phase
  unfolding account_from
  run_keeps [] a m n k r = subst (λ (x : Moment). Kept was o a x.store.bytes x.phase) (sym r) k
  run_keeps (ev ∷ es) a m n k r = run_keeps es (after_event was a ev) r.0 n (step_keeps a m r.0 ev k r.1) r.2

opened_by : (x : Answer Opened) → Ok tt ≡ decide_open x → (o : Opened) × (x ≡ Ok o)
unfolding decide_open
opened_by (Ok o) e = (o, refl)
opened_by (Err f) e = err_ok (sym e)

-- what is known after a run that began with an accepted opening
pub record After (was : Bytes) (es : List Event) (m : Moment) : Type 0 where
  pub opened : Opened
  pub accepted : opens was ≡ Ok opened
  pub kept : Kept was opened (account_of was es) m.store.bytes m.phase

-- Every run that begins with an accepted opening ends at such a moment.
pub after_run : PrefixesOpen → UpdatesReadBack → (was : Bytes) (space : ℕ) (es : List Event) (m : Moment) → RunFrom was space es m → After was es m
unfolding account account_from after_event noted decide phase_after bytes_after
after_run prefixes reads was space es m r =
    let x = opened_by (opens was) r.1.answer in
    let o = x.0 in
    let e = x.1 in
    let n = r.0 in
    let bytes : n.store.bytes ≡ was = r.1.leaves.bytes in
    let phase : n.phase ≡ standing = r.1.leaves.phase in
    let a : Account = record { kept = length (history was); held = []; pending = [] } in
    let start : Kept was o a was standing = record { sound = sound_open prefixes reads was o e; holding = refl } in
    let at = subst (λ (w : Bytes). Kept was o a w standing) (sym bytes) start in
    let there = subst (λ (p : Phase). Kept was o a n.store.bytes p) (sym phase) at in
    record { opened = o; accepted = e; kept = run_keeps prefixes reads was o e es a n m there r.2 }
