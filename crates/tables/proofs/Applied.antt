-- What applying an update leaves, number by number, is what opening computes from the rows of the update. Assumes nothing.
use Rattle.std.proofs.Common.{◌≡◌, ℕ, zero, suc, ◌+◌, ◌<◌, ◌≤◌, false, eqb, List, [], ◌∷◌, ◌++◌, length, drop, set, Some, None, Option, sym, refl, ap, ◌∙◌, subst, inl, inr, arith, length-append, length-set, drop_of_length-le, le-ltb, lt-ltb, eq-eqb, eqb-true}
use borrow.Author.Tests.{eqb-false}
use Rattle.format.specs.Acceptable.{Acceptable, Ascends}
use Rattle.format.specs.Book.{is_used}
use Rattle.format.specs.Bytes.{Bytes}
use Rattle.format.specs.Lines.{Slot}
use Rattle.format.specs.Revisions.{State, used, free, Revision, find, nth, either, overlaid}
use Rattle.format.specs.Sections.{Listed}
use Rattle.format.specs.Theorems.{first_free, FreeListAscends}
use Rattle.format.specs.Updates.{Change, body, removed, Update, Shown, in_use, vacant, Objects, shown_of, shown_all, objects_of, gen_of, apply_change, applied}
use Rattle.format.specs.Writing.{entry_gen, used_slot, free_slot, new_size, cells, cells_of}
use Rattle.sections.specs.Written.{listed_of}
use Rattle.tables.specs.Rows.{RowsAscend, body_in, state_by, states_by}
use Rattle.tables.specs.Sound.{Fit, Sound}
use Rattle.tables.specs.Statements.{table_after, LeavesSaid}
use Rattle.tables.proofs.Finds.{some_none, true_false, find_here, find_past, nth_below, nth_past, nth_within, nth_set, nth_set_other, nth_push, nth_push_other, drop_nth}
use Rattle.tables.proofs.Cells.{Known, Sheet, ends, stays, frees, writes, sheet, states_left}
use Rattle.tables.proofs.Counting.{known, size_grows, allowed_find, find_low, Follow, follows}
use Rattle.tables.proofs.Offsets.{sheet_ascends}
use Rattle.tables.proofs.Rules.{not_freed, used_gen}
use Rattle.locality.proofs.Cases.{cases, cases_o}

-- what a change makes of what is shown of a number
unfoldable pub effect : Option Shown → Option Change → Option Shown
effect o None = o
effect o (Some (body b)) = Some (in_use (gen_of o) b)
effect None (Some removed) = None
effect (Some s) (Some removed) = Some (vacant (suc (gen_of (Some s))))

-- the objects o' are o with one change of the number n, and have that size
pub record Turned (o : Objects) (n : ℕ) (c : Change) (size : ℕ) (o' : Objects) : Type 0 where
  pub sized : o'.size ≡ size
  pub long : length o'.numbers ≡ size
  pub here : nth n o'.numbers ≡ effect (nth n o.numbers) (Some c)
  pub other : (m : ℕ) → (m ≡ n → ⊥) → nth m o'.numbers ≡ nth m o.numbers

removed_effect : (o : Objects) (n : ℕ) → n < length o.numbers → nth n (set o.numbers n (vacant (suc (gen_of (nth n o.numbers))))) ≡ effect (nth n o.numbers) (Some removed)
unfolding effect
removed_effect o n h =
    nth_set n o.numbers (vacant (suc (gen_of (nth n o.numbers)))) h ∙ go (nth n o.numbers) (λ e. some_none (sym w.1 ∙ e))
  where
    w : (x : Shown) × (nth n o.numbers ≡ Some x)
    w = nth_within n o.numbers h

    go : (x : Option Shown) → (x ≡ None → ⊥) → Some (vacant (suc (gen_of x))) ≡ effect x (Some removed)
    go None k = absurd (k refl)
    go (Some x) k = refl

apply_old_body : (n : ℕ) (b : Bytes) (o : Objects) → n < o.size →
    apply_change n (body b) o ≡ record { size = o.size; numbers = set o.numbers n (in_use (gen_of (nth n o.numbers)) b) }
unfolding apply_change
apply_old_body n b o h = rw (lt-ltb n o.size h, apply_change) refl

apply_new_body : (n : ℕ) (b : Bytes) (o : Objects) → n ≡ o.size →
    apply_change n (body b) o ≡ record { size = suc o.size; numbers = o.numbers ++ (in_use 0 b ∷ []) }
unfolding apply_change
apply_new_body n b o h = rw (le-ltb n o.size (omega arith), apply_change) (rw (eq-eqb n o.size h) refl)

-- a change of a number below the size
pub apply_old : (n : ℕ) (c : Change) (o : Objects) → length o.numbers ≡ o.size → n < o.size → Turned o n c o.size (apply_change n c o)
unfolding apply_change effect
apply_old n (body b) o l h =
    rw (apply_old_body n b o h)
    (record {
      sized = refl;
      long = length-set o.numbers n (in_use (gen_of (nth n o.numbers)) b) ∙ l;
      here = nth_set n o.numbers (in_use (gen_of (nth n o.numbers)) b) (omega arith);
      other = λ m k. nth_set_other m n o.numbers (in_use (gen_of (nth n o.numbers)) b) k;
    })
apply_old n removed o l h = record {
  sized = refl;
  long = length-set o.numbers n (vacant (suc (gen_of (nth n o.numbers)))) ∙ l;
  here = removed_effect o n (omega arith);
  other = λ m k. nth_set_other m n o.numbers (vacant (suc (gen_of (nth n o.numbers)))) k;
}

-- a body put at the next number
pub apply_new : (n : ℕ) (b : Bytes) (o : Objects) → length o.numbers ≡ o.size → n ≡ o.size → Turned o n (body b) (suc o.size) (apply_change n (body b) o)
unfolding effect gen_of
apply_new n b o l h =
    let q : n ≡ length o.numbers = h ∙ sym l in
    let p : nth n o.numbers ≡ None = nth_past n o.numbers (omega arith) in
    rw (apply_new_body n b o h)
    (record {
      sized = refl;
      long = length-append o.numbers (in_use 0 b ∷ []) ∙ omega arith;
      here = rw p (rw q (nth_push o.numbers (in_use 0 b)));
      other = λ m k. nth_push_other m o.numbers (in_use 0 b) (λ e. k (e ∙ sym q));
    })

-- what the changes u leave of o, whose size becomes N
pub record Applied (u : Update) (o : Objects) (N : ℕ) : Type 0 where
  pub sized : (applied u o).size ≡ N
  pub long : length (applied u o).numbers ≡ N
  pub at : (m : ℕ) → nth m (applied u o).numbers ≡ effect (nth m o.numbers) (find m u)

applied_more : (low : ℕ) (x : ℕ × Change) (xs : Update) (o : Objects) (size N : ℕ) → Ascends low (x ∷ xs) →
    Turned o x.0 x.1 size (apply_change x.0 x.1 o) → Applied xs (apply_change x.0 x.1 o) N → Applied (x ∷ xs) o N
unfolding applied effect
applied_more low x xs o size N a t k = record {
  sized = k.sized;
  long = k.long;
  at = λ m.
      cases (eqb m x.0)
      (λ q.
      let z : x.0 ≡ m = sym (eqb-true m x.0 q) in
      let f : find m (x ∷ xs) ≡ Some x.1 = find_here m x xs z in
      let g : find m xs ≡ None = find_low (suc x.0) m xs a.1 (omega arith) in
      let h : nth m (apply_change x.0 x.1 o).numbers ≡ effect (nth m o.numbers) (Some x.1) =
      subst (λ (j : ℕ). nth j (apply_change x.0 x.1 o).numbers ≡ effect (nth j o.numbers) (Some x.1)) z t.here in
      rw f (k.at m ∙ rw g h))
      (λ q.
      let z : m ≡ x.0 → ⊥ = eqb-false m x.0 q in
      let f : find m (x ∷ xs) ≡ find m xs = find_past m x xs z in
      let h : nth m (apply_change x.0 x.1 o).numbers ≡ nth m o.numbers = t.other m z in
      rw f (k.at m ∙ rw h refl));
}

-- Number by number, an update leaves its change of what was shown.
pub applied_at : (low size N : ℕ) (u : Update) (o : Objects) → Ascends low u → Follow size u N → length o.numbers ≡ size → o.size ≡ size → Applied u o N
unfolding applied effect find
applied_at low size N [] o a f l s = record { sized = s ∙ f; long = l ∙ f; at = λ m. refl }
applied_at low size N (x ∷ xs) o a (inl f) l s =
    let h : x.0 < o.size = (let d = f.0 in omega arith) in
    let t : Turned o x.0 x.1 o.size (apply_change x.0 x.1 o) = apply_old x.0 x.1 o (l ∙ sym s) h in
    applied_more low x xs o o.size N a t
    (applied_at (suc x.0) size N xs (apply_change x.0 x.1 o) a.1 f.1 (t.long ∙ s) (t.sized ∙ s))
applied_at low size N (x ∷ xs) o a (inr f) l s =
    let b : Bytes = f.1.0 in
    let e : x.1 ≡ body f.1.0 = f.1.1 in
    let z : x.0 ≡ o.size = (let d = f.0 in omega arith) in
    let t' : Turned o x.0 (body f.1.0) (suc o.size) (apply_change x.0 (body f.1.0) o) = apply_new x.0 f.1.0 o (l ∙ sym s) z in
    let t : Turned o x.0 x.1 (suc o.size) (apply_change x.0 x.1 o) = rw e t' in
    applied_more low x xs o (suc o.size) N a t
    (applied_at (suc x.0) (suc size) N xs (apply_change x.0 x.1 o) a.1 f.2 (t.long ∙ ap suc s) (t.sized ∙ ap suc s))

-- what a table shows of a number
pub nth_shown : (n : ℕ) (ss : List State) (s : State) → nth n ss ≡ Some s → nth n (shown_all ss) ≡ Some (shown_of s)
unfolding nth shown_all
nth_shown zero [] s e = some_none (sym e)
nth_shown (suc n) [] s e = some_none (sym e)
nth_shown zero (x ∷ ss) s e = let q : x ≡ s = cc in ap {B = Option Shown} (λ y. Some (shown_of y)) q
nth_shown (suc n) (x ∷ ss) s e = nth_shown n ss s e

pub gen_shown : (n : ℕ) (ss : List State) → gen_of (nth n (shown_all ss)) ≡ entry_gen (nth n ss)
unfolding nth shown_all gen_of entry_gen shown_of
gen_shown zero [] = refl
gen_shown (suc n) [] = refl
gen_shown zero (used g b ∷ ss) = refl
gen_shown zero (free g l ∷ ss) = refl
gen_shown (suc n) (x ∷ ss) = gen_shown n ss

pub shown_length : (ss : List State) → length (shown_all ss) ≡ length ss
unfolding shown_all
shown_length [] = refl
shown_length (x ∷ ss) = ap suc (shown_length ss)

free_shown : (s : State) → is_used (Some s) ≡ false → shown_of s ≡ vacant (entry_gen (Some s))
unfolding is_used shown_of entry_gen
free_shown (used g b) e = true_false e
free_shown (free g l) e = refl

gen_one : (s : State) → gen_of (Some (shown_of s)) ≡ entry_gen (Some s)
unfolding gen_of shown_of entry_gen
gen_one (used g b) = refl
gen_one (free g l) = refl

-- a number that is listed or stood before has its state in the table; at any other the table stops
pub overlaid_step : (k n : ℕ) (ts : List (ℕ × State)) (old : List State) (s : State) → either (find n ts) (nth n old) ≡ Some s →
    overlaid (suc k) n ts old ≡ s ∷ overlaid k (suc n) ts old
unfolding overlaid
overlaid_step k n ts old s e = rw (e, overlaid) refl

overlaid_stop : (k n : ℕ) (ts : List (ℕ × State)) (old : List State) → either (find n ts) (nth n old) ≡ None → overlaid (suc k) n ts old ≡ []
unfolding overlaid
overlaid_stop k n ts old e = rw (e, overlaid) refl

-- rows of lower numbers do not matter to the table
overlaid_past : (k n : ℕ) (t : ℕ × State) (ts : List (ℕ × State)) (old : List State) → t.0 < n → overlaid k n (t ∷ ts) old ≡ overlaid k n ts old
unfolding overlaid
overlaid_past zero n t ts old h = refl
overlaid_past (suc k) n t ts old h =
    let w : find n (t ∷ ts) ≡ find n ts = find_past n t ts (λ e. absurd (omega arith)) in
    let r : overlaid k (suc n) (t ∷ ts) old ≡ overlaid k (suc n) ts old = overlaid_past k (suc n) t ts old (omega arith) in
    cases_o (either (find n ts) (nth n old))
    (λ e. overlaid_stop k n (t ∷ ts) old (rw w e) ∙ sym (overlaid_stop k n ts old e))
    (λ s e.
    overlaid_step k n (t ∷ ts) old s (rw w e) ∙ ap {B = List State} (λ y. s ∷ y) r ∙ sym (overlaid_step k n ts old s e))

states_find : (u : Update) (low high n : ℕ) (rows : Listed) → RowsAscend low high rows → n < low → find n (states_by u rows) ≡ None
unfolding states_by find
states_find u low high n [] a h = refl
states_find u low high n (r ∷ rs) a h =
    let k : low ≤ r.0 = a.0 in
    find_past n (r.0, state_by u r.0 r.1) (states_by u rs) (λ e. absurd (omega arith)) ∙ states_find u (suc r.0) high n rs a.2 (omega arith)

-- the states that the rows of an update make
pub written_state : (u : Update) (n p g : ℕ) (b : Bytes) → find n u ≡ Some (body b) → state_by u n (used_slot p g) ≡ used g b
unfolding state_by body_in
written_state u n p g b e = rw e refl

pub freed_state : (u : Update) (n l g : ℕ) → state_by u n (free_slot l g) ≡ free g l
unfolding state_by
freed_state u n l g = refl

module _ (old : List State) (u : Update) (N : ℕ) where
  -- the table that opening computes is the one that the cells leave
  pub sheet_overlaid : {n p : ℕ} {ls : List (Option Slot)} {ss : List State} {os : Bytes} → Sheet old u N n p ls ss os →
      (k : ℕ) → n + k ≡ N → overlaid k n (states_by u (listed_of n ls)) old ≡ ss
  unfolding listed_of states_by
  sheet_overlaid (ends e) zero q = unfold overlaid in refl
  sheet_overlaid (ends e) (suc k) q = absurd (omega arith)
  sheet_overlaid (stays s a b c d e f t) zero q = absurd (omega arith)
  sheet_overlaid {n} (stays {ls = ls} s a b c d e f t) (suc k) q =
      let w : find n (states_by u (listed_of (suc n) ls)) ≡ None = states_find u (suc n) N n (listed_of (suc n) ls) (sheet_ascends old u N t) (omega arith) in
      overlaid_step k n (states_by u (listed_of (suc n) ls)) old s (rw w c) ∙ ap {B = List State} (λ y. s ∷ y) (sheet_overlaid t k (omega arith))
  sheet_overlaid (frees g l b c d e s f o t) zero q = absurd (omega arith)
  sheet_overlaid {n} (frees {ls = ls} g l b c d e s f o t) (suc k) q =
      let x : state_by u n (free_slot l g) ≡ free g l = freed_state u n l g in
      rw x
      (let w : find n ((n, free g l) ∷ states_by u (listed_of (suc n) ls)) ≡ Some (free g l) = find_here n (n, free g l) (states_by u (listed_of (suc n) ls)) refl in
      overlaid_step k n ((n, free g l) ∷ states_by u (listed_of (suc n) ls)) old (free g l) (rw w refl)
      ∙ ap {B = List State} (λ y. free g l ∷ y) (overlaid_past k (suc n) (n, free g l) (states_by u (listed_of (suc n) ls)) old (omega arith) ∙ sheet_overlaid t k (omega arith)))
  sheet_overlaid (writes g b c d e f t) zero q = absurd (omega arith)
  sheet_overlaid {n} {p} (writes {ls = ls} g b c d e f t) (suc k) q =
      let x : state_by u n (used_slot p g) ≡ used g b = written_state u n p g b d in
      rw x
      (let w : find n ((n, used g b) ∷ states_by u (listed_of (suc n) ls)) ≡ Some (used g b) = find_here n (n, used g b) (states_by u (listed_of (suc n) ls)) refl in
      overlaid_step k n ((n, used g b) ∷ states_by u (listed_of (suc n) ls)) old (used g b) (rw w refl)
      ∙ ap {B = List State} (λ y. used g b ∷ y) (overlaid_past k (suc n) (n, used g b) (states_by u (listed_of (suc n) ls)) old (omega arith) ∙ sheet_overlaid t k (omega arith)))

  -- it has a state for each number
  pub sheet_length : {n p : ℕ} {ls : List (Option Slot)} {ss : List State} {os : Bytes} → Sheet old u N n p ls ss os → n + length ss ≡ N
  sheet_length (ends e) = omega arith
  sheet_length (stays s a b c d e f t) = let w = sheet_length t in omega arith
  sheet_length (frees g l b c d e s f o t) = let w = sheet_length t in omega arith
  sheet_length (writes g b c d e f t) = let w = sheet_length t in omega arith

  -- its free list ascends
  pub sheet_links : {n p : ℕ} {ls : List (Option Slot)} {ss : List State} {os : Bytes} → Sheet old u N n p ls ss os → FreeListAscends n ss
  unfolding is_used
  sheet_links (ends e) = tt
  sheet_links (stays (used g m) a b c d e f t) = sheet_links t
  sheet_links {n} (stays {ss = ss} (free g l) a b c d e f t) =
      let w = f refl in
      let x : free g l ≡ free w.0 (first_free (suc n) ss) = w.1 in
      let y : l ≡ first_free (suc n) ss = cc in
      (y, sheet_links t)
  sheet_links (frees g l b c d e s f o t) = (c, sheet_links t)
  sheet_links (writes g b c d e f t) = sheet_links t

  -- each state fits its number
  pub sheet_states : {n p : ℕ} {ls : List (Option Slot)} {ss : List State} {os : Bytes} → Sheet old u N n p ls ss os →
      (i m : ℕ) (x : State) → n + i ≡ m → nth i ss ≡ Some x → Fit m x
  unfolding nth
  sheet_states (ends e) i m x q z = absurd (let w = nth_below i [] x z in omega arith)
  sheet_states {n} (stays s a b c d e f t) zero m x q z = let y : s ≡ x = cc in let v : n ≡ m = omega arith in rw (← y, ← v) e
  sheet_states (stays s a b c d e f t) (suc i) m x q z = sheet_states t i m x (omega arith) z
  sheet_states {n} (frees g l b c d e s f o t) zero m x q z = let y : free g l ≡ x = cc in let v : n ≡ m = omega arith in rw (← y, ← v) e
  sheet_states (frees g l b c d e s f o t) (suc i) m x q z = sheet_states t i m x (omega arith) z
  sheet_states {n} (writes g b c d e f t) zero m x q z = let y : used g b ≡ x = cc in let v : n ≡ m = omega arith in rw (← y, ← v) f
  sheet_states (writes g b c d e f t) (suc i) m x q z = sheet_states t i m x (omega arith) z

  -- a number in use that is not removed stays in use with its generation
  pub sheet_keeps : {n p : ℕ} {ls : List (Option Slot)} {ss : List State} {os : Bytes} → Sheet old u N n p ls ss os →
      (i root gen : ℕ) (b : Bytes) → n + i ≡ root → root < N → nth root old ≡ Some (used gen b) → (find root u ≡ Some removed → ⊥) →
      (c : Bytes) × (nth i ss ≡ Some (used gen c))
  unfolding nth
  sheet_keeps (ends e) i root gen b q h o x = absurd (omega arith)
  sheet_keeps {n} (stays s a k c d e f t) zero root gen b q h o x =
      let v : root ≡ n = omega arith in
      let y : nth n old ≡ Some (used gen b) = rw v at o in
      (b, sym c ∙ y)
  sheet_keeps (stays s a k c d e f t) (suc i) root gen b q h o x = sheet_keeps t i root gen b (omega arith) h o x
  sheet_keeps {n} (frees g l k c d e s f w t) zero root gen b q h o x =
      let v : root ≡ n = omega arith in absurd (not_freed old u N n g root gen b s o x v f w)
  sheet_keeps (frees g l k c d e s f w t) (suc i) root gen b q h o x = sheet_keeps t i root gen b (omega arith) h o x
  sheet_keeps {n} (writes g k c d e f t) zero root gen b q h o x =
      let v : root ≡ n = omega arith in
      let y : nth n old ≡ Some (used gen b) = rw v at o in
      let z : g ≡ gen = e ∙ used_gen (nth n old) gen b y in
      (k, ap {B = Option State} (λ j. Some (used j k)) z)
  sheet_keeps (writes g k c d e f t) (suc i) root gen b q h o x = sheet_keeps t i root gen b (omega arith) h o x

  -- it shows, number by number, what the changes leave of what the old table shows
  pub sheet_shows : (xs : List Shown) → length xs ≡ N → ((m : ℕ) → nth m xs ≡ effect (nth m (shown_all old)) (find m u)) →
      {n p : ℕ} {ls : List (Option Slot)} {ss : List State} {os : Bytes} → Sheet old u N n p ls ss os → shown_all ss ≡ drop n xs
  unfolding shown_all effect shown_of
  sheet_shows xs l h {n} (ends e) = sym (drop_of_length-le xs {i = n} (omega arith))
  sheet_shows xs l h {n} (stays {ss = ss} s a b c d e f t) =
      let w : nth n (shown_all old) ≡ Some (shown_of s) = nth_shown n old s c in
      let y : nth n xs ≡ effect (nth n (shown_all old)) (find n u) = h n in
      let z : nth n xs ≡ Some (shown_of s) = rw (w, d) at y in
      ap {B = List Shown} (λ v. shown_of s ∷ v) (sheet_shows xs l h t) ∙ sym (drop_nth n xs (shown_of s) z)
  sheet_shows xs l h {n} (frees {ss = ss} g k b c d e s f (inl o) t) =
      let w : nth n (shown_all old) ≡ Some (shown_of s) = nth_shown n old s f in
      let y : nth n xs ≡ effect (nth n (shown_all old)) (find n u) = h n in
      let z : nth n xs ≡ Some (shown_of s) = rw (w, o.0) at y in
      let v : shown_of s ≡ vacant g = free_shown s o.1 ∙ ap {B = Shown} (λ j. vacant j) o.2 in
      ap {B = List Shown} (λ v. vacant g ∷ v) (sheet_shows xs l h t) ∙ sym (drop_nth n xs (vacant g) (z ∙ ap {B = Option Shown} (λ j. Some j) v))
  sheet_shows xs l h {n} (frees {ss = ss} g k b c d e s f (inr o) t) =
      let w : nth n (shown_all old) ≡ Some (shown_of s) = nth_shown n old s f in
      let y : nth n xs ≡ effect (nth n (shown_all old)) (find n u) = h n in
      let z : nth n xs ≡ Some (vacant (suc (gen_of (Some (shown_of s))))) = rw (w, o.0) at y in
      let v : suc (gen_of (Some (shown_of s))) ≡ g = ap suc (gen_one s) ∙ o.2 in
      ap {B = List Shown} (λ v. vacant g ∷ v) (sheet_shows xs l h t) ∙ sym (drop_nth n xs (vacant g) (z ∙ ap {B = Option Shown} (λ j. Some (vacant j)) v))
  sheet_shows xs l h {n} (writes {ss = ss} g b c d e f t) =
      let y : nth n xs ≡ effect (nth n (shown_all old)) (find n u) = h n in
      let z : nth n xs ≡ Some (in_use (gen_of (nth n (shown_all old))) b) = rw d at y in
      let v : gen_of (nth n (shown_all old)) ≡ g = gen_shown n old ∙ sym e in
      ap {B = List Shown} (λ v. in_use g b ∷ v) (sheet_shows xs l h t) ∙ sym (drop_nth n xs (in_use g b) (z ∙ ap {B = Option Shown} (λ j. Some (in_use j b)) v))

-- An acceptable update of a sound table leaves what it says.
pub leaves_said : (r : Revision) (u : Update) (len : ℕ) → Sound r → Acceptable r u → LeavesSaid r u len
unfolding cells_of objects_of
leaves_said r u len S A =
    let K : Known r.states u (new_size r u) = known r u S A in
    let t = sheet r.states u (new_size r u) K (new_size r u) 0 len (omega arith) in
    let ss : List State = states_left 0 (cells (new_size r u) 0 len r.states u) in
    let is : table_after len r u ≡ ss = sheet_overlaid r.states u (new_size r u) t (new_size r u) (omega arith) in
    let l : 0 + length ss ≡ new_size r u = sheet_length r.states u (new_size r u) t in
    let p : Applied u (objects_of r) (new_size r u) =
    applied_at 0 r.size (new_size r u) u (objects_of r) A.ascends (follows r u S A) (shown_length r.states ∙ S.long) refl in
    let g = size_grows r u S A in
    let w = S.root in
    let v : r.root < length r.states = nth_below r.root r.states (used r.root_gen w.0) w.1 in
    let long = S.long in
    let k = sheet_keeps r.states u (new_size r u) t r.root r.root r.root_gen w.0 (omega arith) (omega arith) w.1
    (λ e. (allowed_find r (new_size r u) r.root removed u A.allowed e).1 refl) in
    record {
      long = ap length is ∙ omega arith;
      shows = ap shown_all is ∙ sheet_shows r.states u (new_size r u) (applied u (objects_of r)).numbers p.long p.at t;
      size = p.sized;
      links = rw is (sheet_links r.states u (new_size r u) t);
      sound = λ z a b c d. record {
        long = ap length (a ∙ is) ∙ omega arith;
        some = let o = K.some in omega arith;
        fits = λ n s e. sheet_states r.states u (new_size r u) t n n s (omega arith) (rw (a ∙ is) at e);
        root = (k.0, rw (a ∙ is, c, d) k.1);
      };
    }
