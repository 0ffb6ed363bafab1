-- Going back leaves no trace, and revisions stay as they are.
use Rattle.std.proofs.Common.{◌≡◌, ℕ, ◌+◌, ◌-◌, ◌≤◌, false, ltb, List, [], ◌∷◌, ◌++◌, length, take, Ok, sym, refl, ap, ◌∙◌, subst, arith, take_all}
use Rattle.std.proofs.lemmas.Bool.{le-ltb}
use Rattle.stores.specs.Meanings.{Meaning}
use Rattle.format.specs.Account.{Account, Event, noted, after_event, account_from, account, file_of, revisions_held, objects_at}
use Rattle.format.specs.Book.{Phase, shut, standing, updating, open_file, back, history, newest, decide, end_of_revision}
use Rattle.format.specs.Bytes.{Bytes}
use Rattle.format.specs.Law.{account_of}
use Rattle.format.specs.Revisions.{Opened, opens}
use Rattle.format.specs.Theorems.{PrefixesOpen, UpdatesReadBack}
use Rattle.laws.specs.Consequences.{went_back, FileFollowsAccount, GoingBackLeavesNoTrace, Stays, RevisionsStay}
use Rattle.laws.proofs.Cuts.{Alike, run_alike, run_split, account_split, account_same}
use Rattle.laws.proofs.Files.{at_there}
use Rattle.laws.proofs.Kept.{Sound, Holding, Kept, after_run, run_keeps, sound_back}
use Rattle.laws.proofs.Law.{same_file, sound_counted, sound_keeps}
use Rattle.locality.proofs.Cases.{cases}
use Rattle.tables.proofs.Answered.{err_ok}

-- The file after a run follows from what is kept and held.
pub file_follows_account : PrefixesOpen → UpdatesReadBack → FileFollowsAccount
file_follows_account prefixes reads was space space' es es' m m' r r' k h =
    let x = after_run prefixes reads was space es m r in
    let y = after_run prefixes reads was space' es' m' r' in
    x.kept.sound.is ∙ same_file was (account_of was es) (account_of was es') k h ∙ sym y.kept.sound.is

stays_from : PrefixesOpen → UpdatesReadBack → (was : Bytes) (o : Opened) → opens was ≡ Ok o → (a b : Account) (f g : Bytes) →
    Sound was o a f → Sound was o b g → (k : ℕ) → 1 ≤ k → k ≤ length (history f) → Alike was k a b → Stays k f g
stays_from prefixes reads was o e a b f g s t k low high al =
    let c = sound_counted prefixes reads was o e a f s in
    let d = sound_counted prefixes reads was o e b g t in
    let h = al.there in
    let there : k ≤ length (history g) = omega arith in
    let x = sound_back prefixes reads was o e a f k s (at_there k (history f) low high) in
    let y = sound_back prefixes reads was o e b g k t (at_there k (history g) low there) in
    let bytes : take (end_of_revision k (history g)) g ≡ take (end_of_revision k (history f)) f =
    y.is ∙ same_file was (noted was b (back k)) (noted was a (back k)) al.kept al.held ∙ sym x.is in
    let p = (sound_keeps prefixes reads was o e a f s).each k low (omega arith) in
    let q = (sound_keeps prefixes reads was o e b g t).each k low h in
    record {
      there = there;
      bytes = bytes;
      shows = q.shows ∙ sym q.shows_alone ∙ ap (λ (w : Bytes). objects_at w k) bytes ∙ p.shows_alone ∙ sym p.shows;
    }

-- A revision stays as it is for as long as no call goes back behind it.
pub revisions_stay : PrefixesOpen → UpdatesReadBack → RevisionsStay
revisions_stay prefixes reads was space es more m n k r r' low high never =
    let x = after_run prefixes reads was space es m r in
    let o = x.opened in
    let e = x.accepted in
    let a = account_of was es in
    let c = sound_counted prefixes reads was o e a m.store.bytes x.kept.sound in
    let y = run_keeps prefixes reads was o e more a m n x.kept r' in
    let al = run_alike prefixes reads was o e k more a m n x.kept r' never (omega arith) in
    stays_from prefixes reads was o e a (account_from was a more) m.store.bytes n.store.bytes x.kept.sound y.sound k low high al

stood : (s : Meaning) (p : Phase) (k : ℕ) → decide s p (back k) ≡ Ok tt → p ≡ standing
unfolding decide
stood s shut k e = err_ok e
stood s standing k e = refl
stood s (updating u) k e = err_ok e

-- nothing is pending where the book stands
settled : (was : Bytes) (o : Opened) (a : Account) (file : Bytes) (p : Phase) → Kept was o a file p → p ≡ standing → a.pending ≡ []
settled was o a file p k q = subst (λ (x : Phase). Holding (newest file) x a.pending) q k.holding

-- going back to the newest revision
back_to_newest : (was : Bytes) (a : Account) → ((noted was a (back (revisions_held a))).kept ≡ a.kept) × ((noted was a (back (revisions_held a))).held ≡ a.held)
unfolding noted revisions_held
back_to_newest was a =
    let d : ltb (a.kept + length a.held) a.kept ≡ false = le-ltb (a.kept + length a.held) a.kept (omega arith) in
    (rw (d, noted) refl, rw (d, noted) (take_all (a.kept + length a.held - a.kept) a.held (omega arith)))

back_pending : (was : Bytes) (a : Account) (k : ℕ) → (noted was a (back k)).pending ≡ a.pending
unfolding noted
back_pending was a k = cases (ltb k a.kept) (λ d. rw (d, noted) refl) (λ d. rw (d, noted) refl)

account_of_parts : (was : Bytes) (es fs : List Event) → account_of was (es ++ fs) ≡ account_from was (account_of was es) fs
unfolding account account_from after_event
account_of_parts was es fs = account_split was (noted was (record { kept = 0; held = []; pending = [] }) open_file) es fs

account_back : (was : Bytes) (b : Account) (k : ℕ) (fs : List Event) → account_from was b (went_back k ∷ fs) ≡ account_from was (noted was b (back k)) fs
unfolding account_from after_event
account_back was b k fs = refl

-- Going back leaves no trace.
pub going_back_leaves_no_trace : PrefixesOpen → UpdatesReadBack → GoingBackLeavesNoTrace
going_back_leaves_no_trace prefixes reads was space space' es more later later' m n n' r stands never same r₁ r₂ =
    let a = account_of was es in
    let k = revisions_held a in
    let b = account_from was a more in
    let at-m = after_run prefixes reads was space es m r in
    let first = run_split es (more ++ (went_back k ∷ later')) r₂.0 n' r₂.2 in
    let y = first.0 in
    let at_y = after_run prefixes reads was space' es y (r₂.0, r₂.1, first.1) in
    let o = at_y.opened in
    let e = at_y.accepted in
    let second = run_split more (went_back k ∷ later') y n' first.2 in
    let z = second.0 in
    let at-z = run_keeps prefixes reads was o e more a y z at_y.kept second.1 in
    let al = run_alike prefixes reads was o e k more a y z at_y.kept second.1 never (omega arith) in
    let top = back_to_newest was a in
    let kept : (noted was b (back k)).kept ≡ a.kept = al.kept ∙ top.0 in
    let held : (noted was b (back k)).held ≡ a.held = al.held ∙ top.1 in
    let standing-z = stood z.store z.phase k (sym second.2.1.answer) in
    let pending : (noted was b (back k)).pending ≡ a.pending =
    back_pending was b k ∙ settled was o b z.store.bytes z.phase at-z standing-z
    ∙ sym (settled was at-m.opened a m.store.bytes m.phase at-m.kept stands) in
    let back_at : noted was b (back k) ≡ a = λ i. record { kept = kept i; held = held i; pending = pending i } in
    let left : account_of was (es ++ (more ++ (went_back k ∷ later'))) ≡ account_of was (es ++ later) =
    account_of_parts was es (more ++ (went_back k ∷ later'))
    ∙ account_split was a more (went_back k ∷ later')
    ∙ account_back was b k later'
    ∙ ap (λ (x : Account). account_from was x later') back_at
    ∙ account_same was a later' later (sym same)
    ∙ sym (account_of_parts was es later) in
    let at_n = after_run prefixes reads was space (es ++ later) n r₁ in
    let at-n' = after_run prefixes reads was space' (es ++ (more ++ (went_back k ∷ later'))) n' r₂ in
    at_n.kept.sound.is ∙ ap (file_of was) (sym left) ∙ sym at-n'.kept.sound.is
