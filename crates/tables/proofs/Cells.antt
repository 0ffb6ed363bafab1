-- The cells of an update, read number by number: what each number's entry is, what state it is left in, and the bytes of its object. Assumes nothing.
use Rattle.std.proofs.Common.{◌≡◌, ℕ, zero, suc, ◌+◌, ◌<◌, ◌≤◌, true, false, eqb, ◌⊎◌, List, [], ◌∷◌, ◌++◌, length, Some, None, Option, sym, refl, ap, ◌∙◌, inl, inr, add-zero, arith, eqb-true}
use borrow.Author.Tests.{eqb-false}
use Rattle.format.specs.Book.{is_used, is_worn_out}
use Rattle.format.specs.Bytes.{Bytes}
use Rattle.format.specs.Lines.{Slot}
use Rattle.format.specs.Revisions.{State, used, free, find, nth}
use Rattle.format.specs.Theorems.{first_free}
use Rattle.format.specs.Updates.{Change, body, removed, Update}
use Rattle.format.specs.Writing.{Cell, kept, wrote, freed, cell, cells, cell_bytes, entry_gen, object_bytes, framed_bytes, next_free, entry_for, entries_for, used_slot, free_slot}
use Rattle.tables.specs.Sound.{Fit}
use Rattle.tables.proofs.Finds.{true_false}
use Rattle.locality.proofs.Cases.{cases}

-- what is known of an update u on a table `old`, number by number, where N is the new Size
pub record Known (old : List State) (u : Update) (N : ℕ) : Type 0 where
  pub some : 1 ≤ N
  pub fits : (n : ℕ) (s : State) → nth n old ≡ Some s → Fit n s
  pub puts : (n : ℕ) (b : Bytes) → find n u ≡ Some (body b) → (1 ≤ n) × (n < N) × (is_worn_out (nth n old) ≡ false)
  pub takes : (n : ℕ) → find n u ≡ Some removed → is_used (nth n old) ≡ true
  pub all : (n : ℕ) → n < N → nth n old ≡ None → find n u ≡ None → ⊥

-- The numbers from n up to N: the entries listed, the states left, and the bytes of the objects put, the first of which stands at p.
pub data Sheet (old : List State) (u : Update) (N : ℕ) : ℕ → ℕ → List (Option Slot) → List State → Bytes → Type 0 where
  ends : {n p : ℕ} → n ≡ N → Sheet old u N n p [] [] []
  stays : {n p : ℕ} {ls : List (Option Slot)} {ss : List State} {os : Bytes} (s : State) →
      1 ≤ n → n < N → nth n old ≡ Some s → find n u ≡ None → Fit n s → (is_used (Some s) ≡ false → (g : ℕ) × (s ≡ free g (first_free (suc n) ss))) →
      Sheet old u N (suc n) p ls ss os → Sheet old u N n p (None ∷ ls) (s ∷ ss) os
  frees : {n p : ℕ} {ls : List (Option Slot)} {ss : List State} {os : Bytes} (g l : ℕ) →
      n < N → l ≡ first_free (suc n) ss → l < N → Fit n (free g l) → (s : State) → nth n old ≡ Some s →
      ((find n u ≡ None) × (is_used (Some s) ≡ false) × (entry_gen (Some s) ≡ g)) ⊎ ((find n u ≡ Some removed) × (is_used (Some s) ≡ true) × (suc (entry_gen (Some s)) ≡ g)) →
      Sheet old u N (suc n) p ls ss os → Sheet old u N n p (Some (free_slot l g) ∷ ls) (free g l ∷ ss) os
  writes : {n p : ℕ} {ls : List (Option Slot)} {ss : List State} {os : Bytes} (g : ℕ) (b : Bytes) →
      n < N → find n u ≡ Some (body b) → g ≡ entry_gen (nth n old) → Fit n (used g b) →
      Sheet old u N (suc n) (p + length (framed_bytes n g b)) ls ss os →
      Sheet old u N n p (Some (used_slot p g) ∷ ls) (used g b ∷ ss) (framed_bytes n g b ++ os)

-- the state that a cell leaves its number in, where l is the next free number
unfoldable pub left : ℕ → Cell → State
left l (kept (used g b)) = used g b
left l (kept (free g m)) = free g l
left l (wrote g p b) = used g b
left l (freed g) = free g l

-- the states that cells leave, from the number n on
unfoldable pub states_left : ℕ → List Cell → List State
states_left n [] = []
states_left n (c ∷ cs) = left (next_free (suc n) cs) c ∷ states_left (suc n) cs

-- the next free number by the cells is the first free one of the states left
pub next_first : (n : ℕ) (cs : List Cell) → next_free n cs ≡ first_free n (states_left n cs)
unfolding next_free states_left left first_free
next_first n [] = refl
next_first n (kept (used g b) ∷ cs) = next_first (suc n) cs
next_first n (kept (free g l) ∷ cs) = refl
next_first n (wrote g p b ∷ cs) = next_first (suc n) cs
next_first n (freed g ∷ cs) = refl

-- and it lies below the new Size
pub next_below : (n N : ℕ) (cs : List Cell) → 1 ≤ N → n + length cs ≤ N → next_free n cs < N
unfolding next_free
next_below n N [] h k = omega arith
next_below n N (kept (used g b) ∷ cs) h k = next_below (suc n) N cs h (omega arith)
next_below n N (kept (free g l) ∷ cs) h k = omega arith
next_below n N (wrote g p b ∷ cs) h k = next_below (suc n) N cs h (omega arith)
next_below n N (freed g ∷ cs) h k = omega arith

-- there are as many cells as asked for
pub cells_length : (k n p : ℕ) (old : List State) (u : Update) → length (cells k n p old u) ≡ k
unfolding cells
cells_length zero n p old u = refl
cells_length (suc k) n p old u = ap suc (cells_length k (suc n) (p + length (cell_bytes n (cell p (nth n old) (find n u)))) old u)

module _ (old : List State) (u : Update) (N : ℕ) (K : Known old u N) where
  -- a number that is not worn out has a generation for an object in use
  pub worn : (n : ℕ) (o : Option State) → nth n old ≡ o → is_worn_out o ≡ false → entry_gen o ≤ 65534
  unfolding is_worn_out entry_gen
  worn n None e w = omega arith
  worn n (Some (used g b)) e w = let f = K.fits n (used g b) e in omega arith
  worn n (Some (free g l)) e w = let f = K.fits n (free g l) e in let d = eqb-false g 65535 w in omega arith

  taken : (n : ℕ) (o : Option State) → nth n old ≡ o → is_used o ≡ true → (s : State) × (o ≡ Some s) × (entry_gen (Some s) ≤ 65534) × (1 ≤ n)
  unfolding is_used entry_gen
  taken n None e w = true_false (sym w)
  taken n (Some (used g b)) e w = let f = K.fits n (used g b) e in (used g b, refl, f.1, f.0)
  taken n (Some (free g l)) e w = true_false (sym w)

  step : (n p : ℕ) (o : Option State) (c : Option Change) (cs : List Cell) → nth n old ≡ o → find n u ≡ c → n < N → next_free (suc n) cs < N →
      Sheet old u N (suc n) (p + length (cell_bytes n (cell p o c))) (entries_for (suc n) cs) (states_left (suc n) cs) (object_bytes (suc n) cs) →
      Sheet old u N n p (entries_for n (cell p o c ∷ cs)) (states_left n (cell p o c ∷ cs)) (object_bytes n (cell p o c ∷ cs))
  unfolding cell cell_bytes entries_for entry_for states_left left object_bytes is_used
  step n p None None cs e f h l t = absurd (K.all n h e f)
  step n p (Some (used g b)) None cs e f h l t =
      let k = K.fits n (used g b) e in
      stays (used g b) k.0 h e f k (λ z. true_false z) (rw (add-zero p) at t)
  step zero p (Some (free g m)) None cs e f h l t =
      let k = K.fits zero (free g m) e in
      frees g (next_free 1 cs) h (next_first 1 cs) l (k.0, k.1) (free g m) e (inl (f, refl, unfold entry_gen in refl)) (rw (add-zero p) at t)
  step (suc n) p (Some (free g m)) None cs e f h l t =
      let k = K.fits (suc n) (free g m) e in
      let one : 1 ≤ suc n = omega arith in
      cases (eqb (next_free (suc (suc n)) cs) m)
      (λ q.
      let y : next_free (suc (suc n)) cs ≡ m = eqb-true (next_free (suc (suc n)) cs) m q in
      rw (q, entry_for)
      (stays (free g (next_free (suc (suc n)) cs)) one h (cc) f (k.0, k.1)
      (λ z. (g, ap {B = State} (λ v. free g v) (next_first (suc (suc n)) cs))) (rw (add-zero p) at t)))
      (λ q.
      rw (q, entry_for)
      (frees g (next_free (suc (suc n)) cs) h (next_first (suc (suc n)) cs) l (k.0, k.1) (free g m) e (inl (f, refl, unfold entry_gen in refl)) (rw (add-zero p) at t)))
  step n p o (Some (body b)) cs e f h l t =
      let k = K.puts n b f in
      let w = worn n o e (rw e at k.2) in
      writes (entry_gen o) b h f (ap entry_gen (sym e)) (k.0, w) t
  step n p o (Some removed) cs e f h l t =
      let k = K.takes n f in
      let i : is_used o ≡ true = rw e at k in
      let w = taken n o e i in
      let same : entry_gen o ≡ entry_gen (Some w.0) = ap entry_gen w.1 in
      let low : entry_gen (Some w.0) ≤ 65534 = w.2 in
      let one : 1 ≤ n = w.3 in
      let few : suc (entry_gen o) ≤ 65535 = omega arith in
      let no_zero : n ≡ 0 → suc (entry_gen o) ≡ 65535 = λ z. absurd (omega arith) in
      frees (suc (entry_gen o)) (next_free (suc n) cs) h (next_first (suc n) cs) l (few, no_zero) w.0 (e ∙ w.1)
      (inr (f, ap is_used (sym w.1) ∙ i, ap suc (sym same))) (rw (add-zero p) at t)

  -- the cells of an update make a sheet
  pub sheet : (k n p : ℕ) → n + k ≡ N → Sheet old u N n p (entries_for n (cells k n p old u)) (states_left n (cells k n p old u)) (object_bytes n (cells k n p old u))
  unfolding cells entries_for states_left object_bytes
  sheet zero n p e = ends (omega arith)
  sheet (suc k) n p e =
      let q : ℕ = p + length (cell_bytes n (cell p (nth n old) (find n u))) in
      let b : length (cells k (suc n) q old u) ≡ k = cells_length k (suc n) q old u in
      step n p (nth n old) (find n u) (cells k (suc n) q old u) refl refl (omega arith) (next_below (suc n) N (cells k (suc n) q old u) K.some (omega arith)) (sheet k (suc n) q (omega arith))
