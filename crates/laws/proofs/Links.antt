-- The free list of each revision that an update made: from 0 through all free numbers and back.
use Rattle.std.proofs.Common.{◌≡◌, ℕ, zero, suc, ◌+◌, ◌-◌, ◌<◌, ◌≤◌, List, [], ◌∷◌, ◌++◌, length, take, Some, Ok, sym, refl, ap, ◌∙◌, subst, arith, length-append, length-take-le}
use Rattle.format.specs.Account.{Account, Event, account, account_from, after_event, noted, revisions_held}
use Rattle.format.specs.Book.{open_file, commit, history, revision_at, blank, newest_or, newest}
use Rattle.format.specs.Bytes.{Bytes}
use Rattle.format.specs.Law.{RunFrom, account_of}
use Rattle.format.specs.Revisions.{State, used, free, Revision, nth, Opened, opens}
use Rattle.format.specs.Theorems.{first_free, FreeListAscends, PrefixesOpen, UpdatesReadBack}
use Rattle.laws.specs.Consequences.{free_numbers, Round, FreeList, UpdatesKeepFreeList, CommitsKeepFreeList}
use Rattle.laws.proofs.Cuts.{account_split, run_join}
use Rattle.laws.proofs.Files.{at_newest, history_is}
use Rattle.laws.proofs.Kept.{Sound, sound_built, sound_history, after_run}
use Rattle.laws.proofs.Law.{sound_counted, sound_keeps}
use Rattle.laws.proofs.Stacks.{AllLinked}
use Rattle.laws.proofs.Zeros.{ZeroFree, AllZeroFree, opened_zero_free}

linked_at : (i : ℕ) (rs : List Revision) (r : Revision) → AllLinked rs → nth i rs ≡ Some r → FreeListAscends 0 r.states
unfolding nth
linked_at i [] r l e = let z : ◌≡◌ {A = ℕ} 0 1 = cc in absurd (omega arith)
linked_at zero (x ∷ rs) r l e = let q : x ≡ r = cc in subst (λ (y : Revision). FreeListAscends 0 y.states) q l.0
linked_at (suc i) (x ∷ rs) r l e = linked_at i rs r l.1 e

nth_behind : (xs ys : List Revision) (i : ℕ) → length xs ≤ i → nth i (xs ++ ys) ≡ nth (i - length xs) ys
unfolding nth
nth_behind [] ys i h = ap (λ k. nth k ys) (let q : i ≡ i - 0 = omega arith in q)
nth_behind (x ∷ xs) ys zero h = absurd (omega arith)
nth_behind (x ∷ xs) ys (suc i) h = nth_behind xs ys i (omega arith) ∙ ap (λ k. nth k ys) (let q : i - length xs ≡ suc i - suc (length xs) = omega arith in q)

zero_at : (i : ℕ) (rs : List Revision) (r : Revision) → AllZeroFree rs → nth i rs ≡ Some r → ZeroFree r.states
unfolding nth
zero_at i [] r l e = let z : ◌≡◌ {A = ℕ} 0 1 = cc in absurd (omega arith)
zero_at zero (x ∷ rs) r l e = let q : x ≡ r = cc in subst (λ (y : Revision). ZeroFree y.states) q l.0
zero_at (suc i) (x ∷ rs) r l e = zero_at i rs r l.1 e

-- the first of a list of numbers, or 0
abbrev first_or : List ℕ → ℕ
first_or [] = 0
first_or (n ∷ ns) = n

first_free_fact : (n : ℕ) (ss : List State) → first_free n ss ≡ first_or (free_numbers n ss)
unfolding first_free free_numbers
first_free_fact n [] = refl
first_free_fact n (used g b ∷ ss) = first_free_fact (suc n) ss
first_free_fact n (free g l ∷ ss) = refl

-- ss is the table from n on
abbrev From : List State → ℕ → List State → Type 0
From table n ss = (i : ℕ) → nth i ss ≡ nth (n + i) table

from_next : (table : List State) (n : ℕ) (x : State) (ss : List State) → From table n (x ∷ ss) → From table (suc n) ss
unfolding nth
from_next table n x ss h i = h (suc i) ∙ ap (λ k. nth k table) (let q : n + suc i ≡ suc n + i = omega arith in q)

from_here : (table : List State) (n : ℕ) (x : State) (ss : List State) → From table n (x ∷ ss) → nth n table ≡ Some x
unfolding nth
from_here table n x ss h = ap (λ k. nth k table) (let q : n ≡ n + 0 = omega arith in q) ∙ sym (h 0)

-- links that lead to the next free number each run through all of them
rounds : (table ss : List State) (n : ℕ) → From table n ss → FreeListAscends n ss → (m : ℕ) (ms : List ℕ) → free_numbers n ss ≡ m ∷ ms → Round table m ms
unfolding free_numbers
rounds table [] n h a m ms e = let z : ◌≡◌ {A = ℕ} 0 1 = cc in absurd (omega arith)
rounds table (used g b ∷ ss) n h a m ms e = rounds table ss (suc n) (from_next table n (used g b) ss h) a m ms e
rounds table (free g l ∷ ss) n h a m ms e =
    let first : n ≡ m = cc in
    let rest : free_numbers (suc n) ss ≡ ms = cc in
    subst (λ (k : ℕ). Round table k ms) first
    (go ms rest (rounds table ss (suc n) (from_next table n (free g l) ss h) a.1))
  where
    go : (ks : List ℕ) → free_numbers (suc n) ss ≡ ks → ((m : ℕ) (ms : List ℕ) → free_numbers (suc n) ss ≡ m ∷ ms → Round table m ms) → Round table n ks
    go ks q more = led ks q more (a.0 ∙ first_free_fact (suc n) ss ∙ ap first_or q)
      where
        led : (ks : List ℕ) → free_numbers (suc n) ss ≡ ks → ((m : ℕ) (ms : List ℕ) → free_numbers (suc n) ss ≡ m ∷ ms → Round table m ms) → l ≡ first_or ks → Round table n ks
        led [] q more w = record { gen = g; entry = from_here table n (free g l) ss h ∙ ap (λ k. Some (free g k)) w }
        led (k ∷ ks) q more w = (record { gen = g; entry = from_here table n (free g l) ss h ∙ ap (λ k. Some (free g k)) w }, more k ks q)

starts_free : (table : List State) (f : ℕ) → nth 0 table ≡ Some (free 65535 f) → (ms : List ℕ) × (free_numbers 0 table ≡ 0 ∷ ms)
unfolding nth free_numbers
starts_free [] f e = let z : ◌≡◌ {A = ℕ} 0 1 = cc in absurd (omega arith)
starts_free (used g b ∷ ss) f e = let z : ◌≡◌ {A = ℕ} 0 1 = cc in absurd (omega arith)
starts_free (free g l ∷ ss) f e = (free_numbers 1 ss, refl)

-- A table where 0 is free and each free number leads to the next one has a free list.
pub free_list : (table : List State) → ZeroFree table → FreeListAscends 0 table → FreeList table
free_list table z a =
    let s = starts_free table z.first z.is in
    record {
      first = z.first;
      zero_is_free = z.is;
      others = s.0;
      all = s.1;
      round = rounds table table 0 (λ i. ap (λ k. nth k table) (let q : i ≡ 0 + i = omega arith in q)) a 0 s.0 s.1;
    }

sound_linked : PrefixesOpen → UpdatesReadBack → (was : Bytes) (o : Opened) → opens was ≡ Ok o → (a : Account) (file : Bytes) → Sound was o a file →
    (k : ℕ) (r : Revision) → a.kept < k → revision_at k (history file) ≡ Some r → FreeList r.states
unfolding revision_at
sound_linked prefixes reads was o e a file s zero r h q = absurd (omega arith)
sound_linked prefixes reads was o e a file s (suc i) r h q =
    let b = sound_built prefixes reads was o e a file s in
    let n : length (take a.kept o.history) ≡ a.kept = length-take-le a.kept o.history s.high in
    let at : nth (i - length (take a.kept o.history)) b.made ≡ Some r =
    sym (nth_behind (take a.kept o.history) b.made i (omega arith)) ∙ ap (nth i) (sym (sound_history prefixes reads was o e a file s)) ∙ q in
    let w = (sound_keeps prefixes reads was o e a file s).opens in
    let zero-free = zero_at i w.opened.history r (opened_zero_free file w.opened w.accepted) (ap (nth i) (sym (history_is file w.opened w.accepted)) ∙ q) in
    free_list r.states zero-free (linked_at (i - length (take a.kept o.history)) b.made r b.linked at)

-- Each revision that an update held made has a free list.
pub updates_keep_free_list : PrefixesOpen → UpdatesReadBack → UpdatesKeepFreeList
updates_keep_free_list prefixes reads was space es m run k r h q =
    let x = after_run prefixes reads was space es m run in
    sound_linked prefixes reads was x.opened x.accepted (account_of was es) m.store.bytes x.kept.sound k r h q

-- After an accepted commit the newest revision has a free list.
pub commits_keep_free_list : PrefixesOpen → UpdatesReadBack → CommitsKeepFreeList
unfolding account account_from after_event noted newest revisions_held
commits_keep_free_list prefixes reads was space es m n spent run step =
    let c : Event = record { call = commit spent; answer = Ok tt } in
    let both : RunFrom was space (es ++ (c ∷ [])) n = (run.0, run.1, run_join es (c ∷ []) run.0 m n run.2 (n, step, refl)) in
    let x = after_run prefixes reads was space (es ++ (c ∷ [])) n both in
    let a = account_of was es in
    let b = account_of was (es ++ (c ∷ [])) in
    let file = n.store.bytes in
    let q : b ≡ record { kept = a.kept; held = a.held ++ (a.pending ∷ []); pending = [] } = account_split was (noted was (record { kept = 0; held = []; pending = [] }) open_file) es (c ∷ []) in
    let k : b.kept ≡ a.kept = ap (λ (y : Account). y.kept) q in
    let l : length b.held ≡ length (a.held ++ (a.pending ∷ [])) = ap (λ (y : Account). length y.held) q in
    let l' = length-append a.held (a.pending ∷ []) in
    let count : length (history file) ≡ b.kept + length b.held = sound_counted prefixes reads was x.opened x.accepted b file x.kept.sound in
    sound_linked prefixes reads was x.opened x.accepted b file x.kept.sound (length (history file)) (newest_or blank (history file)) (omega arith) (at_newest (history file) (omega arith))
