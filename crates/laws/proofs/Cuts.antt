-- What calls that never go back behind a revision leave of an account up to it.
use Rattle.std.proofs.Common.{◌≡◌, ℕ, zero, suc, ◌-◌, ◌<◌, ◌≤◌, true, ltb, List, [], ◌∷◌, ◌++◌, take, is_ok, Ok, Err, sym, refl, ap, ◌∙◌, subst, arith, length-append, length-take, take-take}
use lib.Seq.{take-append-le}
use Rattle.std.proofs.lemmas.Bool.{lt-ltb, ltb-false, ltb-true}
use Rattle.stores.specs.Meanings.{Meaning}
use Rattle.format.specs.Account.{Account, Event, noted, after_event, account_from, revisions_held}
use Rattle.format.specs.Book.{Phase, shut, standing, updating, Moment, Call, open_file, begin, put, remove, commit, abandon, back, decide, Step}
use Rattle.format.specs.Bytes.{Bytes}
use Rattle.format.specs.Chain.{Answer}
use Rattle.format.specs.Law.{Run}
use Rattle.format.specs.Revisions.{Opened, opens}
use Rattle.format.specs.Theorems.{PrefixesOpen, UpdatesReadBack}
use Rattle.format.specs.Updates.{Update}
use Rattle.laws.specs.Consequences.{NotBehind, NeverBehind, accepted_calls}
use Rattle.laws.proofs.Kept.{Kept, step_keeps}
use Rattle.locality.proofs.Cases.{cases}
use Rattle.tables.proofs.Answered.{err_ok}

-- going back to revision k leaves the same of both accounts
pub record Alike (was : Bytes) (k : ℕ) (a b : Account) : Type 0 where
  pub there : k ≤ revisions_held b
  pub kept : (noted was b (back k)).kept ≡ (noted was a (back k)).kept
  pub held : (noted was b (back k)).held ≡ (noted was a (back k)).held

alike_front : (was : Bytes) (k j : ℕ) (a : Account) (p : Update) → k ≤ j → j < a.kept → Alike was k a (record { kept = j; held = []; pending = p })
unfolding noted revisions_held
alike_front was k j a p h l =
    let d : ltb k a.kept ≡ true = lt-ltb k a.kept (omega arith) in
    record {
      there = omega arith;
      kept = cases (ltb k j) (λ c. rw (c, d, noted) refl) (λ c. let ge = ltb-false k j c in rw (c, d, noted) (omega arith));
      held = cases (ltb k j) (λ c. rw (c, d, noted) refl) (λ c. rw (c, d, noted) (empty (k - j)));
    }
  where
    empty : (n : ℕ) → ◌≡◌ {A = List Update} (take n []) []
    empty zero = refl
    empty (suc n) = refl

alike_take : (was : Bytes) (k j : ℕ) (a : Account) (p : Update) → k ≤ j → k ≤ revisions_held a →
    Alike was k a (record { kept = a.kept; held = take (j - a.kept) a.held; pending = p })
unfolding noted revisions_held
alike_take was k j a p h r =
    let l = length-take (j - a.kept) a.held in
    record {
      there = omega arith;
      kept = cases (ltb k a.kept) (λ c. rw (c, noted) refl) (λ c. rw (c, noted) refl);
      held = cases (ltb k a.kept) (λ c. rw (c, noted) refl) (λ c. rw (c, noted) (take-take (k - a.kept) (j - a.kept) a.held (omega arith)));
    }

alike_more : (was : Bytes) (k : ℕ) (a : Account) (u : Update) → k ≤ revisions_held a →
    Alike was k a (record { kept = a.kept; held = a.held ++ (u ∷ []); pending = [] })
unfolding noted revisions_held
alike_more was k a u r =
    let l = length-append a.held (u ∷ []) in
    record {
      there = omega arith;
      kept = cases (ltb k a.kept) (λ c. rw (c, noted) refl) (λ c. rw (c, noted) refl);
      held = cases (ltb k a.kept) (λ c. rw (c, noted) refl)
          (λ c. let g = ltb-false k a.kept c in rw (c, noted) (take-append-le (k - a.kept) a.held (u ∷ []) (omega arith)));
    }

alike_pending : (was : Bytes) (k : ℕ) (a : Account) (p : Update) → k ≤ revisions_held a → Alike was k a (record { kept = a.kept; held = a.held; pending = p })
unfolding noted revisions_held
alike_pending was k a p r = record {
  there = r;
  kept = cases (ltb k a.kept) (λ c. rw (c, noted) refl) (λ c. rw (c, noted) refl);
  held = cases (ltb k a.kept) (λ c. rw (c, noted) refl) (λ c. rw (c, noted) refl);
}

-- every call but opening
abbrev NoOpening : Call → Type 0
NoOpening open_file = ⊥
NoOpening begin = Unit {0}
NoOpening (put x n b) = Unit {0}
NoOpening (remove x n) = Unit {0}
NoOpening (commit x) = Unit {0}
NoOpening (abandon x) = Unit {0}
NoOpening (back k) = Unit {0}

no_opening : (was : Bytes) (o : Opened) (a : Account) (s : Meaning) (p : Phase) (c : Call) → Kept was o a s.bytes p → decide s p c ≡ Ok tt → NoOpening c
unfolding decide
no_opening was o a s shut open_file k d = k.holding
no_opening was o a s standing open_file k d = err_ok d
no_opening was o a s (updating u) open_file k d = err_ok d
no_opening was o a s p begin k d = tt
no_opening was o a s p (put x n b) k d = tt
no_opening was o a s p (remove x n) k d = tt
no_opening was o a s p (commit x) k d = tt
no_opening was o a s p (abandon x) k d = tt
no_opening was o a s p (back i) k d = tt

-- an accepted call that does not go back behind revision k
call_alike : (was : Bytes) (k : ℕ) (a : Account) (c : Call) → k ≤ revisions_held a → NoOpening c → NotBehind k c → Alike was k a (noted was a c)
unfolding noted
call_alike was k a open_file r o b = absurd o
call_alike was k a begin r o b = alike_pending was k a [] r
call_alike was k a (put x n d) r o b = alike_pending was k a _ r
call_alike was k a (remove x n) r o b = alike_pending was k a _ r
call_alike was k a (commit x) r o b = alike_more was k a a.pending r
call_alike was k a (abandon x) r o b = alike_pending was k a [] r
call_alike was k a (back j) r o b =
    cases (ltb j a.kept)
    (λ d. rw (d, noted) (alike_front was k j a a.pending b (ltb-true j a.kept d)))
    (λ d. rw (d, noted) (alike_take was k j a a.pending b r))

joined : (was : Bytes) (k : ℕ) (a b c : Account) → Alike was k a b → Alike was k b c → Alike was k a c
joined was k a b c x y = record { there = y.there; kept = y.kept ∙ x.kept; held = y.held ∙ x.held }

-- Calls that never go back behind revision k leave the account alike up to it.
pub run_alike : PrefixesOpen → UpdatesReadBack → (was : Bytes) (o : Opened) → opens was ≡ Ok o → (k : ℕ) (es : List Event) (a : Account) (m n : Moment) →
    Kept was o a m.store.bytes m.phase → Run m es n → NeverBehind k es → k ≤ revisions_held a → Alike was k a (account_from was a es)
unfolding account_from after_event
run_alike prefixes reads was o e k [] a m n h r b l = alike_pending was k a a.pending l
run_alike prefixes reads was o e k (ev ∷ es) a m n h r b l =
    let x = go ev.call ev.answer r.1 b.0 in
    joined was k a (after_event was a ev) (account_from was (after_event was a ev) es) x
    (run_alike prefixes reads was o e k es (after_event was a ev) r.0 n (step_keeps prefixes reads was o e a m r.0 ev h r.1) r.2 b.1 x.there)
  where
    go : (c : Call) (x : Answer (Unit {0})) → Step m c x r.0 → (is_ok x ≡ true → NotBehind k c) → Alike was k a (after_event was a (record { call = c; answer = x }))
    go c (Ok u) st f = call_alike was k a c l (no_opening was o a m.store m.phase c h (sym st.answer)) (f refl)
    go c (Err f) st g = alike_pending was k a a.pending l

-- a run of two parts
pub run_split : (es fs : List Event) (m n : Moment) → Run m (es ++ fs) n → (x : Moment) × Run m es x × Run x fs n
run_split [] fs m n r = (m, refl, r)
run_split (e ∷ es) fs m n r =
    let s = run_split es fs r.0 n r.2 in
    (s.0, (r.0, r.1, s.1), s.2)

pub run_join : (es fs : List Event) (m x n : Moment) → Run m es x → Run x fs n → Run m (es ++ fs) n
run_join [] fs m x n r s = subst (λ (y : Moment). Run y fs n) r s
run_join (e ∷ es) fs m x n r s = (r.0, r.1, run_join es fs r.0 x n r.2 s)

-- the account of events of two parts
pub account_split : (was : Bytes) (a : Account) (es fs : List Event) → account_from was a (es ++ fs) ≡ account_from was (account_from was a es) fs
unfolding account_from
account_split was a [] fs = refl
account_split was a (e ∷ es) fs = account_split was (after_event was a e) es fs

noted_all : (was : Bytes) → Account → List Call → Account
noted_all was a [] = a
noted_all was a (c ∷ cs) = noted_all was (noted was a c) cs

account_accepted : (was : Bytes) (a : Account) (es : List Event) → account_from was a es ≡ noted_all was a (accepted_calls es)
unfolding account_from after_event accepted_calls noted_all
account_accepted was a [] = refl
account_accepted was a (e ∷ es) =
    cases (is_ok e.answer)
    (λ d. rw (d, after_event, accepted_calls) (account_accepted was (noted was a e.call) es))
    (λ d. rw (d, after_event, accepted_calls) (account_accepted was a es))

-- Equal accepted calls give equal accounts.
pub account_same : (was : Bytes) (a : Account) (es fs : List Event) → accepted_calls es ≡ accepted_calls fs → account_from was a es ≡ account_from was a fs
account_same was a es fs q = account_accepted was a es ∙ ap (noted_all was a) q ∙ sym (account_accepted was a fs)
