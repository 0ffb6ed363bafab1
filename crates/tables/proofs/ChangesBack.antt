-- The rows of an update tell the update. Assumes nothing.
use Rattle.std.proofs.Common.{◌≡◌, ℕ, suc, ◌≤◌, Bool, true, false, ◌&&◌, eqb, ◌⊎◌, List, [], ◌∷◌, Some, None, Ok, Option, sym, refl, ap, ◌∙◌, inl, inr, arith, eqb-true}
use borrow.Author.Tests.{eqb-false}
use Rattle.faults.specs.declared.reason.Reason.TheVariants.{ChainRule}
use Rattle.format.specs.Acceptable.{Acceptable, Ascends}
use Rattle.format.specs.Book.{is_used}
use Rattle.format.specs.Bytes.{Bytes, Got, ok, bad}
use Rattle.format.specs.Chain.{Answer, also}
use Rattle.format.specs.Failures.{chain_fault}
use Rattle.format.specs.Frames.{Framed}
use Rattle.format.specs.Lines.{Slot}
use Rattle.format.specs.Revisions.{State, used, free, Revision, find, nth, frame_in, framed_state, state_of, states_of}
use Rattle.format.specs.Sections.{Listed}
use Rattle.format.specs.Theorems.{put_by, change_by, changes_by}
use Rattle.format.specs.Updates.{Change, body, removed, Update}
use Rattle.format.specs.Writing.{used_slot, free_slot, new_size, cells_of}
use Rattle.sections.specs.Written.{listed_of}
use Rattle.tables.specs.Rows.{rows_of, states_by, state_by, change_told, changes_told}
use Rattle.tables.specs.Sound.{Sound}
use Rattle.tables.specs.Statements.{RowsTell}
use Rattle.tables.proofs.Finds.{some_none, find_here, find_past}
use Rattle.tables.proofs.Cells.{Known, Sheet, ends, stays, frees, writes, sheet}
use Rattle.tables.proofs.Counting.{known, Bounded, bounded, find_low}
use Rattle.tables.proofs.Applied.{written_state, freed_state}
use Rattle.tables.proofs.Answered.{err_ok, also_ok, must_ok}
use Rattle.locality.proofs.Cases.{cases}

-- the change of the lowest number, taken off an update
pub record Front (n : ℕ) (c : Change) (v : Update) : Type 0 where
  pub rest : Update
  pub is : v ≡ (n, c) ∷ rest
  pub ascends : Ascends (suc n) rest
  pub same : (m : ℕ) → suc n ≤ m → find m v ≡ find m rest

pub front : (n : ℕ) (c : Change) (v : Update) → Ascends n v → find n v ≡ Some c → Front n c v
unfolding find
front n c [] a e = some_none (sym e)
front n c (x ∷ xs) a e =
    cases (eqb n x.0)
    (λ q.
    let z : x.0 ≡ n = sym (eqb-true n x.0 q) in
    let f : find n (x ∷ xs) ≡ Some x.1 = find_here n x xs z in
    let w : x.1 ≡ c = cc in
    record {
      rest = xs;
      is = λ i. (z i, w i) ∷ xs;
      ascends = rw z at a.1;
      same = λ m h. find_past m x xs (λ y. absurd (omega arith));
    })
    (λ q.
    let f : find n (x ∷ xs) ≡ find n xs = find_past n x xs (eqb-false n x.0 q) in
    let h : n ≤ x.0 = a.0 in
    let g : find n xs ≡ None = find_low (suc x.0) n xs a.1 (omega arith) in
    some_none (sym e ∙ f ∙ g))

-- an update that does not change the lowest number starts above it
pub raise : (n : ℕ) (v : Update) → Ascends n v → find n v ≡ None → Ascends (suc n) v
raise n [] a e = tt
raise n (x ∷ xs) a e =
    cases (eqb n x.0)
    (λ q. some_none (sym (find_here n x xs (sym (eqb-true n x.0 q))) ∙ e))
    (λ q. let z = eqb-false n x.0 q in let h : n ≤ x.0 = a.0 in (omega arith, a.1))

free_told : (old : List State) (n g l : ℕ) (t : Bool) → is_used (nth n old) ≡ t → change_told old n (free g l) ≡ elim t [ true ↦ Some removed | false ↦ None ]
unfolding change_told
free_told old n g l t e = rw (e, change_told) refl

used_told : (old : List State) (n g : ℕ) (b : Bytes) → change_told old n (used g b) ≡ Some (body b)
unfolding change_told
used_told old n g b = refl

module _ (old : List State) (u : Update) (N : ℕ) where
  -- the rows from a number on tell the changes from that number on
  pub sheet_told : {n p : ℕ} {ls : List (Option Slot)} {ss : List State} {os : Bytes} → Sheet old u N n p ls ss os →
      (v : Update) → Ascends n v → Bounded N v → ((m : ℕ) → n ≤ m → find m v ≡ find m u) → changes_told old (states_by u (listed_of n ls)) ≡ v
  unfolding listed_of states_by changes_told
  sheet_told (ends e) [] a b h = refl
  sheet_told (ends e) (x ∷ xs) a b h = absurd (let k = a.0 in let j = b.0 in omega arith)
  sheet_told {n} (stays s i j c d e f t) v a b h =
      sheet_told t v (raise n v a (h n (omega arith) ∙ d)) b (λ m k. h m (omega arith))
  sheet_told {n} (frees {ls = ls} g l i c d e s f (inl o) t) v a b h =
      let x : change_told old n (free g l) ≡ None = free_told old n g l false (rw f o.1) in
      let y : state_by u n (free_slot l g) ≡ free g l = freed_state u n l g in
      rw y (rw x (sheet_told t v (raise n v a (h n (omega arith) ∙ o.0)) b (λ m k. h m (omega arith))))
  sheet_told {n} (frees {ls = ls} g l i c d e s f (inr o) t) v a b h =
      let x : change_told old n (free g l) ≡ Some removed = free_told old n g l true (rw f o.1) in
      let y : state_by u n (free_slot l g) ≡ free g l = freed_state u n l g in
      let w : Front n removed v = front n removed v a (h n (omega arith) ∙ o.0) in
      let b' : Bounded N ((n, removed) ∷ w.rest) = rw w.is at b in
      rw y
      (rw x
      (ap {B = Update} (λ z. (n, removed) ∷ z) (sheet_told t w.rest w.ascends b'.1 (λ m k. sym (w.same m k) ∙ h m (omega arith))) ∙ sym w.is))
  sheet_told {n} {p} (writes {ls = ls} g c i d e f t) v a b h =
      let x : change_told old n (used g c) ≡ Some (body c) = used_told old n g c in
      let y : state_by u n (used_slot p g) ≡ used g c = written_state u n p g c d in
      let w : Front n (body c) v = front n (body c) v a (h n (omega arith) ∙ d) in
      let b' : Bounded N ((n, body c) ∷ w.rest) = rw w.is at b in
      rw y
      (rw x
      (ap {B = Update} (λ z. (n, body c) ∷ z) (sheet_told t w.rest w.ascends b'.1 (λ m k. sym (w.same m k) ∙ h m (omega arith))) ∙ sym w.is))

-- The rows of an acceptable update of a sound table tell it.
pub rows_told : (r : Revision) (u : Update) (len : ℕ) → Sound r → Acceptable r u → changes_told r.states (states_by u (rows_of len r u)) ≡ u
unfolding cells_of
rows_told r u len S A =
    let K : Known r.states u (new_size r u) = known r u S A in
    let t = sheet r.states u (new_size r u) K (new_size r u) 0 len (omega arith) in
    sheet_told r.states u (new_size r u) t u A.ascends (bounded r u S A) (λ m h. refl)

-- what a state read from a row is: the body of the frame at its offset, or the link of a free number
pub framed_is : (off n : ℕ) (s : Slot) (x : Got Framed) (t : State) → framed_state off n s x ≡ Ok t →
    (b : Bytes) × (put_by x ≡ Some (body b)) × (t ≡ used s.gen b)
unfolding framed_state put_by
framed_is off n s (bad f) t e = err_ok e
framed_is off n s (ok r p rest) t e =
    let w = must_ok (eqb r.number n && eqb r.gen s.gen) (chain_fault ChainRule off n) (λ _. Ok (used s.gen r.body)) t e in
    let z : ◌≡◌ {A = Answer State} (Ok (used s.gen r.body)) (Ok t) = w.1 in
    let y : used s.gen r.body ≡ t = cc in
    (r.body, refl, sym y)

pub state_is : (file : Bytes) (off n : ℕ) (s : Slot) (t : State) → state_of file off n s ≡ Ok t →
    ((s.in_use ≡ true) × ((b : Bytes) × (put_by (frame_in file off s.field) ≡ Some (body b)) × (t ≡ used s.gen b)))
    ⊎ ((s.in_use ≡ false) × (t ≡ free s.gen s.field))
unfolding state_of
state_is file off n s t e =
    cases s.in_use
    (λ q. inl (q, framed_is off n s (frame_in file off s.field) t (rw (q, state_of) at e)))
    (λ q.
    let z : ◌≡◌ {A = Answer State} (Ok (free s.gen s.field)) (Ok t) = rw (q, state_of) at e in
    let y : free s.gen s.field ≡ t = cc in
    inr (q, sym y))

row_read : (file : Bytes) (off : ℕ) (old : List State) (n : ℕ) (s : Slot) (t : State) → state_of file off n s ≡ Ok t →
    change_by file off old n s ≡ change_told old n t
unfolding change_by change_told
row_read file off old n s t e = go (state_is file off n s t e)
  where
    go : ((s.in_use ≡ true) × ((b : Bytes) × (put_by (frame_in file off s.field) ≡ Some (body b)) × (t ≡ used s.gen b)))
        ⊎ ((s.in_use ≡ false) × (t ≡ free s.gen s.field)) → change_by file off old n s ≡ change_told old n t
    go (inl w) = rw (w.0, change_by) (rw w.1.2 w.1.1)
    go (inr w) = rw (w.0, change_by) (rw w.1 refl)

-- Reading changes off rows is reading them off the states that the rows make.
pub rows_read : (file : Bytes) (off : ℕ) (old : List State) (rows : Listed) (ts : List (ℕ × State)) →
    states_of file off rows ≡ Ok ts → changes_by file off old rows ≡ changes_told old ts
unfolding states_of changes_by changes_told
rows_read file off old [] ts e =
    let z : ◌≡◌ {A = Answer (List (ℕ × State))} (Ok []) (Ok ts) = e in
    let y : [] ≡ ts = cc in
    rw (← y) refl
rows_read file off old (r ∷ rs) ts e =
    let a = also_ok (state_of file off r.0 r.1) (λ t. also (states_of file off rs) (λ xs. Ok ((r.0, t) ∷ xs))) ts e in
    let b = also_ok (states_of file off rs) (λ xs. Ok ((r.0, a.0) ∷ xs)) ts a.2 in
    let z : ◌≡◌ {A = Answer (List (ℕ × State))} (Ok ((r.0, a.0) ∷ b.0)) (Ok ts) = b.2 in
    let y : (r.0, a.0) ∷ b.0 ≡ ts = cc in
    rw (← y)
    (rw (row_read file off old r.0 r.1 a.0 a.1) (rw (rows_read file off old rs b.0 b.1) refl))

pub rows_tell : RowsTell
rows_tell = record { read = rows_read; told = rows_told }
