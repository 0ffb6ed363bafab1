-- The entries that an update lists, one by one and run by run.
use Rattle.std.proofs.Common.{◌≡◌, ℕ, zero, suc, ◌+◌, ◌-◌, ◌<◌, ◌≤◌, true, false, eqb, List, [], ◌∷◌, map, length, get_or, drop, Some, None, Option, MatchOption, is_some, sym, refl, ap, ◌∙◌, add-one, add-zero, ltb, arith}
use Rattle.std.specs.List.{position, position_or_len}
use Rattle.std.specs.Option.{option_map, unwrap_or}
use Rattle.std.proofs.lemmas.List.{drop_more, drop_all, drop-drop}
use Rattle.std.proofs.lemmas.Bool.{eq-eqb, ne_eqb, ltb-true, ltb-false, lt-ltb, le-ltb}
use Rattle.entries.specs.declared.entry.Entry.{Entry}
use Rattle.entries.specs.Rows.{slot_of}
use Rattle.format.specs.Lines.{Slot}
use Rattle.format.specs.Writing.{next_free, entry_for, entries_for, free_slot, used_slot, Run, ahead, runs}
use Rattle.locality.proofs.Cases.{cases}
use Rattle.locality.proofs.Tests.{clash, equal}
use Rattle.writer.specs.declared.plan.Planned.{Planned}
use Rattle.writer.specs.declared.plan.Planned.TheVariants.{Kept, Vacant, Wrote, Freed}
use Rattle.writer.specs.Listing.{is_free, listed_from, listed_at, front}
use Rattle.writer.specs.Planned.{cell_of}

-- the first free number
abbrev pub next_in : List Planned → ℕ → ℕ
next_in plan n = next_free n (map cell_of (drop n plan))

free_first : (n : ℕ) (x : Planned) (ps : List Planned) → is_free x ≡ true → next_free n (map cell_of (x ∷ ps)) ≡ n
unfolding next_free
free_first n Kept ps e = clash (cc)
free_first n (Vacant g l) ps e = refl
free_first n (Wrote g p) ps e = clash (cc)
free_first n (Freed g) ps e = refl

free_later : (n : ℕ) (x : Planned) (ps : List Planned) → is_free x ≡ false → next_free n (map cell_of (x ∷ ps)) ≡ next_free (n + 1) (map cell_of ps)
unfolding next_free
free_later n Kept ps e = rw (add-one n) refl
free_later n (Vacant g l) ps e = clash (cc)
free_later n (Wrote g p) ps e = rw (add-one n) refl
free_later n (Freed g) ps e = clash (cc)

-- the first free number, by its place among those from a number on
pub next_first : (n : ℕ) (ps : List Planned) → unwrap_or (option_map (λ k. n + k) (position is_free ps)) 0 ≡ next_free n (map cell_of ps)
unfolding next_free
next_first n [] = refl
next_first n (x ∷ ps) =
    let h = next_first (n + 1) ps in
    cases (is_free x)
    (λ e.
    let z : ltb 0 (suc (length ps)) ≡ true = lt-ltb 0 (suc (length ps)) (omega arith) in
    rw (e, z) (add-zero n ∙ sym (free_first n x ps e)))
    (λ e.
    let l = free_later n x ps e in
    cases (ltb (position_or_len is_free ps) (length ps))
    (λ f.
    let q = ltb-true (position_or_len is_free ps) (length ps) f in
    let z : ltb (1 + position_or_len is_free ps) (suc (length ps)) ≡ true = lt-ltb (1 + position_or_len is_free ps) (suc (length ps)) (omega arith) in
    let g : n + 1 + position_or_len is_free ps ≡ next_free (n + 1) (map cell_of ps) = rw f at h in
    let m : n + (1 + position_or_len is_free ps) ≡ next_free n (map cell_of (x ∷ ps)) = omega (arith, g, l) in
    rw (e, z) m)
    (λ f.
    let q = ltb-false (position_or_len is_free ps) (length ps) f in
    let z : ltb (1 + position_or_len is_free ps) (suc (length ps)) ≡ false = le-ltb (1 + position_or_len is_free ps) (suc (length ps)) (omega arith) in
    let g : 0 ≡ next_free (n + 1) (map cell_of ps) = rw f at h in
    rw (e, z) (g ∙ sym l)))

-- the entry of a number and those behind it
pub listed_here : (plan : List Planned) (n : ℕ) (d : Planned) → n < length plan →
    listed_at plan n ≡ entry_for n (next_in plan (n + 1)) (cell_of (get_or plan n d)) ∷ listed_at plan (n + 1)
unfolding entries_for
listed_here plan n d h = ap (listed_from n) (drop_more plan n d h) ∙ rw (add-one n) refl

pub listed_end : (plan : List Planned) (n : ℕ) → length plan ≤ n → listed_at plan n ≡ []
unfolding entries_for
listed_end plan n h = ap (listed_from n) (drop_all n plan h)

-- a number that is listed, and one that is not
abbrev pub Listed : List Planned → ℕ → Type 0
Listed plan n = (s : Slot) × (listed_at plan n ≡ Some s ∷ listed_at plan (n + 1))

abbrev pub Passed : List Planned → ℕ → Type 0
Passed plan n = listed_at plan n ≡ None ∷ listed_at plan (n + 1)

pub entry_listed : (plan : List Planned) (n : ℕ) (o : Option Entry) → listed_at plan n ≡ option_map slot_of o ∷ listed_at plan (n + 1) → is_some o ≡ true → Listed plan n
entry_listed plan n None e f = clash (cc)
entry_listed plan n (Some x) e f = (slot_of x, e)

pub entry_passed : (plan : List Planned) (n : ℕ) (o : Option Entry) → listed_at plan n ≡ option_map slot_of o ∷ listed_at plan (n + 1) → is_some o ≡ false → Passed plan n
entry_passed plan n None e f = e
entry_passed plan n (Some x) e f = clash (cc)

-- the entry of each kind of number
pub kept_entry : (n l : ℕ) → entry_for n l (cell_of Kept) ≡ None
unfolding entry_for
kept_entry zero l = refl
kept_entry (suc n) l = refl

pub wrote_entry : (n l g p : ℕ) → entry_for n l (cell_of (Wrote g p)) ≡ Some (used_slot p g)
unfolding entry_for
wrote_entry zero l g p = refl
wrote_entry (suc n) l g p = refl

pub freed_entry : (n l g : ℕ) → entry_for n l (cell_of (Freed g)) ≡ Some (free_slot l g)
unfolding entry_for
freed_entry zero l g = refl
freed_entry (suc n) l g = refl

pub same_link : (n l g m : ℕ) → (n ≡ 0 → ⊥) → l ≡ m → None ≡ entry_for n l (cell_of (Vacant g m))
unfolding entry_for
same_link zero l g m h e = absurd (h refl)
same_link (suc n) l g m h e = let f : eqb l m ≡ true = eq-eqb l m e in rw (f, entry_for) refl

pub new_link : (n l g m : ℕ) → (l ≡ m → ⊥) → Some (free_slot l g) ≡ entry_for n l (cell_of (Vacant g m))
unfolding entry_for
new_link zero l g m e = refl
new_link (suc n) l g m e = let f : eqb l m ≡ false = ne_eqb l m e in rw (f, entry_for) refl

pub zero_link : (n l g m : ℕ) → n ≡ 0 → Some (free_slot l g) ≡ entry_for n l (cell_of (Vacant g m))
unfolding entry_for
zero_link zero l g m e = refl
zero_link (suc n) l g m e = absurd (omega arith)

-- the entries further on
later : (k n : ℕ) (ps : List Planned) → listed_from (n + k) (drop k ps) ≡ drop k (listed_from n ps)
unfolding entries_for
later zero n ps = let e : n + 0 ≡ n = omega arith in rw e refl
later (suc k) n [] = refl
later (suc k) n (p ∷ ps) = let e : n + suc k ≡ suc n + k = omega arith in rw e (later k (suc n) ps)

pub listed_later : (plan : List Planned) (n k : ℕ) → listed_at plan (n + k) ≡ drop k (listed_at plan n)
listed_later plan n k = ap (listed_from (n + k)) (sym (drop-drop k n plan)) ∙ later k n (drop n plan)

-- runs begin at or behind the number from which they are made
abbrev Starts : ℕ → List Run → Type 0
Starts m [] = Unit {0}
Starts m (r ∷ rs) = m ≤ r.0

lower : (m : ℕ) (rs : List Run) → Starts (suc m) rs → Starts m rs
lower m [] h = tt
lower m (r ∷ rs) h = omega arith

ahead_starts : (m : ℕ) (s : Slot) (rs : List Run) → Starts m (ahead m s rs)
unfolding ahead
ahead_starts m s [] = omega arith
ahead_starts m s (r ∷ rs) =
    cases (eqb r.0 (suc m))
    (λ e. rw (e, ahead) (omega arith))
    (λ e. rw (e, ahead) (omega arith))

runs_start : (m : ℕ) (ss : List (Option Slot)) → Starts m (runs m ss)
unfolding runs
runs_start m [] = tt
runs_start m (None ∷ ss) = lower m (runs (suc m) ss) (runs_start (suc m) ss)
runs_start m (Some s ∷ ss) = ahead_starts m s (runs (suc m) ss)

apart : (n : ℕ) (s : Slot) (rs : List Run) → Starts (suc (suc n)) rs → ahead n s rs ≡ (n, s ∷ []) ∷ rs
unfolding ahead
apart n s [] h = refl
apart n s (r ∷ rs) h = let e : eqb r.0 (suc n) ≡ false = ne_eqb r.0 (suc n) (λ q. omega arith) in rw (e, ahead) refl

joined : (n : ℕ) (s t : Slot) (es : List Slot) (rs : List Run) → ahead n s ((suc n, t ∷ es) ∷ rs) ≡ (n, s ∷ t ∷ es) ∷ rs
unfolding ahead
joined n s t es rs = let f : eqb (suc n) (suc n) ≡ true = equal (suc n) in rw (f, ahead) refl

-- a listed number begins a run, which ends before the first number that is not listed
run_first : (n : ℕ) (s : Slot) (ss : List (Option Slot)) →
    runs n (Some s ∷ ss) ≡ (n, s ∷ front ss) ∷ runs (suc n + length (front ss)) (drop (length (front ss)) ss)
unfolding runs ahead
run_first n s [] = refl
run_first n s (None ∷ ss) = let e : suc n + 0 ≡ suc n = omega arith in rw e (apart n s (runs (suc (suc n)) ss) (runs_start (suc (suc n)) ss))
run_first n s (Some t ∷ ss) =
    let e : suc n + suc (length (front ss)) ≡ suc (suc n) + length (front ss) = omega arith in
    ap (ahead n s) (run_first (suc n) t ss) ∙ joined n s t (front ss) (runs (suc (suc n) + length (front ss)) (drop (length (front ss)) ss)) ∙ ap (λ m. (n, s ∷ t ∷ front ss) ∷ runs m (drop (length (front ss)) ss)) (sym e)

-- the same at a number of the plan
pub run_at : (plan : List Planned) (n : ℕ) (s : Slot) (ss : List (Option Slot)) → listed_at plan n ≡ Some s ∷ ss →
    runs n (listed_at plan n) ≡ (n, front (listed_at plan n)) ∷ runs (n + length (front (listed_at plan n))) (listed_at plan (n + length (front (listed_at plan n))))
run_at plan n s ss e =
    let k = length (front ss) in
    let q : n + suc k ≡ suc n + k = omega arith in
    let l : listed_at plan (n + suc k) ≡ drop k ss = listed_later plan n (suc k) ∙ ap (drop (suc k)) e in
    let f : front (listed_at plan n) ≡ s ∷ front ss = ap front e in
    ap (runs n) e
    ∙ run_first n s ss
    ∙ ap (λ m. (n, s ∷ front ss) ∷ runs m (drop k ss)) (sym q)
    ∙ ap (λ xs. (n, s ∷ front ss) ∷ runs (n + suc k) xs) (sym l)
    ∙ ap (λ es. (n, es) ∷ runs (n + length es) (listed_at plan (n + length es))) (sym f)

-- a number that is not listed
pub run_none : (plan : List Planned) (n : ℕ) → listed_at plan n ≡ None ∷ listed_at plan (n + 1) → runs n (listed_at plan n) ≡ runs (n + 1) (listed_at plan (n + 1))
unfolding runs
run_none plan n e = ap (runs n) e ∙ rw (add-one n) refl

pub run_over : (plan : List Planned) (n : ℕ) → length plan ≤ n → runs n (listed_at plan n) ≡ []
unfolding runs
run_over plan n h = ap (runs n) (listed_end plan n h)

-- the numbers up to one that ends a run are as many as the run
reach : (plan : List Planned) (m n : ℕ) → ((k : ℕ) → n ≤ k → k < n + m → Listed plan k) → length (front (listed_at plan (n + m))) ≡ 0 → length (front (listed_at plan n)) ≡ m
reach plan zero n l e = let z : n ≡ n + 0 = omega arith in ap (λ k. length (front (listed_at plan k))) z ∙ e
reach plan (suc m) n l e =
    let z : n + 1 + m ≡ n + suc m = omega arith in
    ap (λ xs. length (front xs)) (l n (omega arith) (omega arith)).1
    ∙ ap suc (reach plan m (n + 1) (λ k a b. l k (omega arith) (omega arith)) (ap (λ k. length (front (listed_at plan k))) z ∙ e))

pub run_to : (plan : List Planned) (n i : ℕ) → n ≤ i → ((k : ℕ) → n ≤ k → k < i → Listed plan k) → length (front (listed_at plan i)) ≡ 0 → i ≡ n + length (front (listed_at plan n))
run_to plan n i h l e =
    let z : n + (i - n) ≡ i = omega arith in
    let r = reach plan (i - n) n (λ k a b. l k a (omega arith)) (ap (λ k. length (front (listed_at plan k))) z ∙ e) in
    omega arith

-- a run ends before the first number that is not listed, or where the plan does
pub run_found : (plan : List Planned) (n e r : ℕ) (o : Option ℕ) → n ≤ length plan → e ≡ length plan → r ≡ unwrap_or o e →
    MatchOption o ((k : ℕ) → n ≤ k → k < e → Listed plan k) (λ i. (n ≤ i) × (i < e) × Passed plan i × ((k : ℕ) → n ≤ k → k < i → Listed plan k)) →
    (r ≡ n + length (front (listed_at plan n))) × (r ≤ length plan)
run_found plan n e r None h s u m =
    (run_to plan n r (omega arith) (λ k a b. m k a (omega arith)) (ap (λ xs. length (front xs)) (listed_end plan r (omega arith))), omega arith)
run_found plan n e r (Some i) h s u m =
    (run_to plan n r (omega arith) (λ k a b. m.3 k a (omega arith)) (ap (λ k. length (front (listed_at plan k))) u ∙ ap (λ xs. length (front xs)) m.2), omega arith)

-- the entry of a number, by what is planned of it
pub entry_at : (plan ps : List Planned) (n : ℕ) (x : Planned) (e : Option Slot) → ps ≡ plan → n < length plan → get_or ps n Kept ≡ x → entry_for n (next_in plan (n + 1)) (cell_of x) ≡ e →
    listed_at plan n ≡ e ∷ listed_at plan (n + 1)
entry_at plan ps n x e s h f g =
    listed_here plan n Kept h ∙ ap (λ y. entry_for n (next_in plan (n + 1)) (cell_of y) ∷ listed_at plan (n + 1)) (ap (λ qs. get_or qs n Kept) (sym s) ∙ f) ∙ ap (λ o. o ∷ listed_at plan (n + 1)) g
