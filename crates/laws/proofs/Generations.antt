-- Generations never fall from update to update, and rise where a number is withdrawn.
use Rattle.std.proofs.Common.{◌≡◌, ℕ, zero, suc, ◌-◌, ◌<◌, ◌≤◌, true, eqb, ltb, List, [], ◌∷◌, ◌++◌, length, take, set, is_some, Some, None, Ok, Option, sym, refl, ap, ◌∙◌, subst, arith, length-append, length-set}
use Rattle.std.proofs.lemmas.Bool.{eqb-true}
use Rattle.format.specs.Acceptable.{Allowed, EachAllowed, Acceptable}
use Rattle.format.specs.Account.{revisions_held, objects_at}
use Rattle.format.specs.Book.{is_used, newest, addition}
use Rattle.format.specs.Bytes.{Bytes}
use Rattle.format.specs.Law.{account_of}
use Rattle.format.specs.Revisions.{State, Revision, find, nth, Opened, opens}
use Rattle.format.specs.Theorems.{PrefixesOpen, UpdatesReadBack}
use Rattle.format.specs.Updates.{Change, body, removed, Update, Shown, in_use, vacant, Objects, shown_all, objects_of, gen_of, apply_change, applied, applied_all}
use Rattle.format.specs.Writing.{new_size}
use Rattle.laws.specs.Consequences.{WithdrawnNumbersReturnHigher}
use Rattle.laws.proofs.Files.{nth_within}
use Rattle.laws.proofs.Held.{never}
use Rattle.laws.proofs.Kept.{front, front_opens, after_run}
use Rattle.laws.proofs.Law.{shows_stack}
use Rattle.laws.proofs.Stacks.{Stacked, update_shows}
use Rattle.locality.proofs.Cases.{cases}

-- the generation that objects give a number, 0 if it has none
abbrev gen : ℕ → Objects → ℕ
gen n o = gen_of (nth n o.numbers)

set_grows : (n k : ℕ) (x : Shown) (xs : List Shown) → gen_of (nth k xs) ≤ gen_of (Some x) → gen_of (nth n xs) ≤ gen_of (nth n (set xs k x))
unfolding nth
set_grows n k x [] h = omega arith
set_grows zero zero x (y ∷ ys) h = h
set_grows zero (suc k) x (y ∷ ys) h = omega arith
set_grows (suc n) zero x (y ∷ ys) h = omega arith
set_grows (suc n) (suc k) x (y ∷ ys) h = set_grows n k x ys h

joined_grows : (n : ℕ) (xs ys : List Shown) → gen_of (nth n xs) ≤ gen_of (nth n (xs ++ ys))
unfolding nth gen_of
joined_grows n [] ys = omega arith
joined_grows zero (x ∷ xs) ys = omega arith
joined_grows (suc n) (x ∷ xs) ys = joined_grows n xs ys

set_same : (n : ℕ) (x : Shown) (xs : List Shown) → n < length xs → nth n (set xs n x) ≡ Some x
unfolding nth
set_same n x [] h = absurd (omega arith)
set_same zero x (y ∷ ys) h = refl
set_same (suc n) x (y ∷ ys) h = set_same n x ys (omega arith)

-- A change lowers no generation, and takes no number away.
record Grows (n : ℕ) (o p : Objects) : Type 0 where
  gens : gen n o ≤ gen n p
  long : length o.numbers ≤ length p.numbers

change_grows : (n k : ℕ) (c : Change) (o : Objects) → Grows n o (apply_change k c o)
unfolding apply_change gen_of
change_grows n k (body b) o =
    cases (ltb k o.size)
    (λ e.
    let l = length-set o.numbers k (in_use (gen_of (nth k o.numbers)) b) in
    rw (e, apply_change) (record { gens = set_grows n k (in_use (gen_of (nth k o.numbers)) b) o.numbers (omega arith); long = omega arith }))
    (λ e.
    cases (eqb k o.size)
    (λ d.
    let l = length-append o.numbers (in_use 0 b ∷ []) in
    rw (e, d, apply_change) (record { gens = joined_grows n o.numbers (in_use 0 b ∷ []); long = omega arith }))
    (λ d. rw (e, d, apply_change) (record { gens = omega arith; long = omega arith })))
change_grows n k removed o =
    let l = length-set o.numbers k (vacant (suc (gen_of (nth k o.numbers)))) in
    record { gens = set_grows n k (vacant (suc (gen_of (nth k o.numbers)))) o.numbers (omega arith); long = omega arith }

applied_grows : (n : ℕ) (u : Update) (o : Objects) → gen n o ≤ gen n (applied u o)
unfolding applied
applied_grows n [] o = omega arith
applied_grows n (r ∷ rs) o =
    let x = (change_grows n r.0 r.1 o).gens in
    let y = applied_grows n rs (apply_change r.0 r.1 o) in
    omega arith

all_grow : (n : ℕ) (us : List Update) (o : Objects) → gen n o ≤ gen n (applied_all us o)
unfolding applied_all
all_grow n [] o = omega arith
all_grow n (u ∷ us) o =
    let x = applied_grows n u o in
    let y = all_grow n us (applied u o) in
    omega arith

removed_rises : (n : ℕ) (o : Objects) → n < length o.numbers → gen n o < gen n (apply_change n removed o)
unfolding apply_change gen_of
removed_rises n o h =
    let e = ap gen_of (set_same n (vacant (suc (gen_of (nth n o.numbers)))) o.numbers h) in
    omega arith

-- where an update removes a number that is there, its generation rises
applied_rises : (n : ℕ) (u : Update) (o : Objects) → find n u ≡ Some removed → n < length o.numbers → gen n o < gen n (applied u o)
unfolding applied find
applied_rises n [] o f h = let z : ◌≡◌ {A = ℕ} 0 1 = cc in absurd (omega arith)
applied_rises n (r ∷ rs) o f h =
    cases (eqb n r.0)
    (λ d.
    let g : Some r.1 ≡ Some removed = rw (d, find) at f in
    let c : removed ≡ r.1 = cc in
    let m : n ≡ r.0 = eqb-true n r.0 d in
    let p : gen n (apply_change n removed o) ≡ gen n (apply_change r.0 r.1 o) = λ i. gen n (apply_change (m i) (c i) o) in
    let x = removed_rises n o h in
    let y = applied_grows n rs (apply_change r.0 r.1 o) in
    omega arith)
    (λ d.
    let x = change_grows n r.0 r.1 o in
    let a = x.gens in
    let b = x.long in
    let y = applied_rises n rs (apply_change r.0 r.1 o) (rw (d, find) at f) (omega arith) in
    omega arith)

-- a number that an acceptable update removes was in use
removed_used : (r : Revision) (size n : ℕ) (u : Update) → EachAllowed r size u → find n u ≡ Some removed → is_used (nth n r.states) ≡ true
unfolding find
removed_used r size n [] a f = let z : ◌≡◌ {A = ℕ} 0 1 = cc in absurd (omega arith)
removed_used r size n (c ∷ cs) a f =
    cases (eqb n c.0)
    (λ d.
    let g : Some c.1 ≡ Some removed = rw (d, find) at f in
    let q : c.1 ≡ removed = cc in
    let m : c.0 ≡ n = sym (eqb-true n c.0 d) in
    let x : Allowed r size n removed = subst (λ (k : ℕ). Allowed r size k removed) m (subst (λ (y : Change). Allowed r size c.0 y) q a.0) in
    x.0)
    (λ d. removed_used r size n cs a.1 (rw (d, find) at f))

used_some : (s : Option State) → is_used s ≡ true → is_some s ≡ true
unfolding is_used
used_some None e = never (sym e)
used_some (Some s) e = refl

shown_length : (ss : List State) → length (shown_all ss) ≡ length ss
unfolding shown_all
shown_length [] = refl
shown_length (s ∷ ss) = ap suc (shown_length ss)

removed_there : (r : Revision) (u : Update) (n : ℕ) → Acceptable r u → find n u ≡ Some removed → n < length (objects_of r).numbers
unfolding objects_of
removed_there r u n a f =
    let x = nth_within n r.states (used_some (nth n r.states) (removed_used r (new_size r u) n u a.allowed f)) in
    let y = shown_length r.states in
    omega arith

-- Behind an update that removes a number, each generation of it is above each one before.
pub stack_rises : UpdatesReadBack → (us : List Update) (file : Bytes) (o : Opened) → opens file ≡ Ok o → Stacked file us →
    (i j k n : ℕ) (u : Update) → nth j us ≡ Some u → find n u ≡ Some removed → i ≤ j → j < k → k ≤ length us →
    gen n (applied_all (take i us) (objects_of (newest file))) < gen n (applied_all (take k us) (objects_of (newest file)))
unfolding nth applied_all
stack_rises reads [] file o e s i j k n u q f a b c = let z : ◌≡◌ {A = ℕ} 0 1 = cc in absurd (omega arith)
stack_rises reads (v ∷ us) file o e s i j zero n u q f a b c = absurd (omega arith)
stack_rises reads (v ∷ us) file o e s (suc i) zero (suc k) n u q f a b c = absurd (omega arith)
stack_rises reads (v ∷ us) file o e s zero zero (suc k) n u q f a b c =
    let w : u ≡ v = cc in
    let g : find n v ≡ Some removed = ap (find n) (sym w) ∙ f in
    let x = applied_rises n v (objects_of (newest file)) g (removed_there (newest file) v n s.0 g) in
    let y = all_grow n (take k us) (applied v (objects_of (newest file))) in
    omega arith
stack_rises reads (v ∷ us) file o e s zero (suc j) (suc k) n u q f a b c =
    let m = reads file o v e s.0 s.1 in
    let h = stack_rises reads us (file ++ addition file v) (record { header = o.header; history = o.history ++ (m.0 ∷ []) }) m.1.accepted s.2 zero j k n u q f (omega arith) (omega arith) (omega arith) in
    let p = update_shows reads v file o e s.0 s.1 in
    let x : gen n (applied v (objects_of (newest file))) < gen n (applied_all (take k us) (applied v (objects_of (newest file)))) = rw p at h in
    let y = applied_grows n v (objects_of (newest file)) in
    omega arith
stack_rises reads (v ∷ us) file o e s (suc i) (suc j) (suc k) n u q f a b c =
    let m = reads file o v e s.0 s.1 in
    let h = stack_rises reads us (file ++ addition file v) (record { header = o.header; history = o.history ++ (m.0 ∷ []) }) m.1.accepted s.2 i j k n u q f (omega arith) (omega arith) (omega arith) in
    let p = update_shows reads v file o e s.0 s.1 in
    rw p at h

-- A number withdrawn returns with a higher generation.
pub withdrawn_return_higher : PrefixesOpen → UpdatesReadBack → WithdrawnNumbersReturnHigher
unfolding gen_of revisions_held
withdrawn_return_higher prefixes reads was space es m run i j k n u g b at f low before behind high shown =
    let x = after_run prefixes reads was space es m run in
    let o = x.opened in
    let e = x.accepted in
    let a = account_of was es in
    let s = x.kept.sound in
    let file = m.store.bytes in
    let here = shows_stack prefixes reads was o e a file s i low (omega arith) in
    let there = shows_stack prefixes reads was o e a file s k (omega arith) high in
    let rises = stack_rises reads a.held (front was a.kept) (record { header = o.header; history = take a.kept o.history })
    (front_opens prefixes reads was o e a.kept s.low s.high) s.stacked (i - a.kept) j (k - a.kept) n u at f (omega arith) (omega arith) (omega arith) in
    let p = ap (gen n) here in
    let q = ap (gen n) there in
    let r : gen n (objects_at file k) ≡ g = ap gen_of shown in
    omega arith
