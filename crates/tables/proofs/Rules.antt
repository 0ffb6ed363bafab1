-- The rules that opening asks of a section's entries hold of what an update lists. Assumes nothing.
use Rattle.std.proofs.Common.{◌≡◌, ℕ, zero, suc, ◌+◌, ◌<◌, ◌≤◌, Bool, true, false, ◌&&◌, eqb, ltb, ◌⊎◌, List, [], ◌∷◌, ◌++◌, length, pos, Some, None, Ok, Option, sym, refl, ap, ◌∙◌, inl, inr, arith, length-append, ltb-false, ltb-true, lt-ltb, eq-eqb, eqb-true, le-leb}
use native.Mathlib.Nat.{max-eq_left, max-eq_right}
use borrow.Author.Tests.{eqb-false}
use Rattle.format.specs.Acceptable.{Acceptable}
use Rattle.format.specs.Book.{is_used}
use Rattle.format.specs.Bytes.{Bytes}
use Rattle.format.specs.Chain.{in_bound}
use Rattle.format.specs.Lines.{Slot}
use Rattle.format.specs.Revisions.{State, used, free, Revision, find, nth, highest, under_size, slot_fits, slots_fit, covered, used_with, root_fits}
use Rattle.format.specs.Sections.{Listed}
use Rattle.format.specs.Updates.{removed, Update}
use Rattle.format.specs.Writing.{Cell, framed_bytes, entry_gen, used_slot, free_slot, new_size, entries_for, cells_of, update_objects}
use Rattle.sections.specs.Written.{listed_of, EachSmall}
use Rattle.tables.specs.Rows.{RowsAscend, Written}
use Rattle.tables.specs.Sound.{Fit, Sound}
use Rattle.tables.specs.Statements.{MeetsRules}
use Rattle.tables.proofs.Finds.{true_false, find_here, find_past, nth_below}
use Rattle.tables.proofs.Cells.{Known, Sheet, ends, stays, frees, writes, sheet, cells_length}
use Rattle.tables.proofs.Counting.{known, size_grows, allowed_find}
use Rattle.tables.proofs.Puts.{puttable}
use Rattle.tables.proofs.Offsets.{sheet_ascends, sheet_first, sheet_written, ascend_find}
use Rattle.locality.proofs.Cases.{cases, cases_o}

both : {a b : Bool} → a ≡ true → b ≡ true → a && b ≡ true
both {a} {b} e f = λ i. e i && f i

-- an object as written has at least one byte
pub framed_some : (n g : ℕ) (b : Bytes) → 1 ≤ length (framed_bytes n g b)
unfolding framed_bytes
framed_some n g b = rw length-append (omega arith)

free_fits : (off N n l g : ℕ) → l < N → Fit n (free g l) → slot_fits off (pos N) n (free_slot l g) ≡ true
unfolding slot_fits under_size
free_fits off N zero l g h f = both (eq-eqb g 65535 (f.1 refl)) (lt-ltb l N h)
free_fits off N (suc n) l g h f = both (le-leb g 65535 f.0) (lt-ltb l N h)

used_fits : (off N n p g : ℕ) (b : Bytes) → p < off → Fit n (used g b) → slot_fits off (pos N) n (used_slot p g) ≡ true
unfolding slot_fits
used_fits off N zero p g b h f = absurd (let k = f.0 in omega arith)
used_fits off N (suc n) p g b h f = both (le-leb g 65534 f.1) (lt-ltb p off h)

-- a number listed, or in the table before, does not break the cover
covered_old : (k n : ℕ) (rows : Listed) (m : ℕ) → n < m → covered (suc k) n rows m ≡ covered k (suc n) rows m
unfolding covered
covered_old k n rows m h = rw (lt-ltb n m h, covered) refl

covered_listed : (k n : ℕ) (rows : Listed) (m : ℕ) (s : Slot) → find n rows ≡ Some s → covered (suc k) n rows m ≡ covered k (suc n) rows m
unfolding covered
covered_listed k n rows m s e =
    cases (ltb n m) (λ q. rw (q, covered) refl) (λ q. rw (q, covered) (rw e refl))

-- rows of lower numbers do not matter
covered_past : (k n : ℕ) (r : ℕ × Slot) (rows : Listed) (m : ℕ) → r.0 < n → covered k n (r ∷ rows) m ≡ covered k n rows m
unfolding covered
covered_past zero n r rows m h = refl
covered_past (suc k) n r rows m h =
    let w : find n (r ∷ rows) ≡ find n rows = find_past n r rows (λ e. absurd (omega arith)) in
    let t : covered k (suc n) (r ∷ rows) m ≡ covered k (suc n) rows m = covered_past k (suc n) r rows m (omega arith) in
    cases (ltb n m)
    (λ q. let l : n < m = ltb-true n m q in covered_old k n (r ∷ rows) m l ∙ t ∙ sym (covered_old k n rows m l))
    (λ q.
    cases_o (find n rows)
    (λ e. let v : find n (r ∷ rows) ≡ None = w ∙ e in rw (q, covered) (rw (v, e) refl))
    (λ s e. covered_listed k n (r ∷ rows) m s (w ∙ e) ∙ t ∙ sym (covered_listed k n rows m s e)))

-- a row that is not above what is known already, and one that is the next
highest_old : (m : ℕ) (r : ℕ × Slot) (rs : Listed) → suc r.0 ≤ m → highest m (r ∷ rs) ≡ highest m rs
unfolding highest
highest_old m r rs h = ap (λ (x : ℕ). highest x rs) (max-eq_left h)

highest_new : (m : ℕ) (r : ℕ × Slot) (rs : Listed) → m ≤ suc r.0 → highest m (r ∷ rs) ≡ highest (suc r.0) rs
unfolding highest
highest_new m r rs h = ap (λ (x : ℕ). highest x rs) (max-eq_right h)

-- the generation of a number in use
pub used_gen : (o : Option State) (g : ℕ) (b : Bytes) → o ≡ Some (used g b) → entry_gen o ≡ g
unfolding entry_gen
used_gen o g b e = rw e refl

used_is : (o : Option State) (g : ℕ) (b : Bytes) → o ≡ Some (used g b) → is_used o ≡ true
unfolding is_used
used_is o g b e = rw e refl

module _ (old : List State) (u : Update) (N : ℕ) where
  -- every entry fits its place in the table
  pub sheet_fits : {n p : ℕ} {ls : List (Option Slot)} {ss : List State} {os : Bytes} → Sheet old u N n p ls ss os →
      (off : ℕ) → p + length os ≤ off → slots_fit off (pos N) (listed_of n ls) ≡ Ok tt
  unfolding listed_of slots_fit
  sheet_fits (ends e) off h = refl
  sheet_fits (stays s a b c d e f t) off h = sheet_fits t off h
  sheet_fits {n} (frees g l b c d e s f k t) off h = rw (free_fits off N n l g d e) (sheet_fits t off h)
  sheet_fits {n} {p} (writes {os = os} g c b d e f t) off h =
      let w : length (framed_bytes n g c ++ os) ≡ length (framed_bytes n g c) + length os = length-append (framed_bytes n g c) os in
      let v : 1 ≤ length (framed_bytes n g c) = framed_some n g c in
      let x : p + length (framed_bytes n g c ++ os) ≤ off = h in
      rw (used_fits off N n p g c (omega arith) f) (sheet_fits t off (omega arith))

  -- the highest number listed or there before is the last one below the new Size
  pub sheet_highest : {n p : ℕ} {ls : List (Option Slot)} {ss : List State} {os : Bytes} → Sheet old u N n p ls ss os → length old ≤ N →
      (m : ℕ) → (n ≤ length old → m ≡ length old) → (length old ≤ n → m ≡ n) → highest m (listed_of n ls) ≡ N
  unfolding listed_of highest
  sheet_highest {n} (ends e) h m a b = b (omega arith) ∙ e
  sheet_highest {n} (stays s k l c d e f t) h m a b =
      let w = nth_below n old s c in sheet_highest t h m (λ z. a (omega arith)) (λ z. let q = a (omega arith) in omega arith)
  sheet_highest {n} (frees {ls = ls} g l k c d e s f o t) h m a b =
      let w = nth_below n old s f in
      let q : m ≡ length old = a (omega arith) in
      highest_old m (n, free_slot l g) (listed_of (suc n) ls) (omega arith) ∙ sheet_highest t h m (λ z. q) (λ z. omega arith)
  sheet_highest {n} {p} (writes {ls = ls} g c l d e f t) h m a b =
      cases (ltb n (length old))
      (λ x.
      let y = ltb-true n (length old) x in
      let q : m ≡ length old = a (omega arith) in
      highest_old m (n, used_slot p g) (listed_of (suc n) ls) (omega arith) ∙ sheet_highest t h m (λ z. q) (λ z. omega arith))
      (λ x.
      let y = ltb-false n (length old) x in
      let q : m ≡ n = b (omega arith) in
      highest_new m (n, used_slot p g) (listed_of (suc n) ls) (omega arith) ∙ sheet_highest t h (suc n) (λ z. absurd (omega arith)) (λ z. refl))

  -- every number below the new Size is listed or stood in the table before
  pub sheet_covers : {n p : ℕ} {ls : List (Option Slot)} {ss : List State} {os : Bytes} → Sheet old u N n p ls ss os →
      (k : ℕ) → n + k ≡ N → covered k n (listed_of n ls) (length old) ≡ true
  unfolding listed_of
  sheet_covers (ends e) zero q = unfold covered in refl
  sheet_covers (ends e) (suc k) q = absurd (omega arith)
  sheet_covers (stays s a b c d e f t) zero q = absurd (omega arith)
  sheet_covers {n} (stays {ls = ls} s a b c d e f t) (suc k) q =
      covered_old k n (listed_of (suc n) ls) (length old) (nth_below n old s c) ∙ sheet_covers t k (omega arith)
  sheet_covers (frees g l b c d e s f o t) zero q = absurd (omega arith)
  sheet_covers {n} (frees {ls = ls} g l b c d e s f o t) (suc k) q =
      covered_old k n ((n, free_slot l g) ∷ listed_of (suc n) ls) (length old) (nth_below n old s f)
      ∙ covered_past k (suc n) (n, free_slot l g) (listed_of (suc n) ls) (length old) (omega arith) ∙ sheet_covers t k (omega arith)
  sheet_covers (writes g c b d e f t) zero q = absurd (omega arith)
  sheet_covers {n} {p} (writes {ls = ls} g c b d e f t) (suc k) q =
      covered_listed k n ((n, used_slot p g) ∷ listed_of (suc n) ls) (length old) (used_slot p g) (find_here n (n, used_slot p g) (listed_of (suc n) ls) refl)
      ∙ covered_past k (suc n) (n, used_slot p g) (listed_of (suc n) ls) (length old) (omega arith) ∙ sheet_covers t k (omega arith)

  -- a number in use that is not removed is not freed
  pub not_freed : (n g root gen : ℕ) (b : Bytes) (s : State) → nth root old ≡ Some (used gen b) → (find root u ≡ Some removed → ⊥) → root ≡ n → nth n old ≡ Some s →
      ((find n u ≡ None) × (is_used (Some s) ≡ false) × (entry_gen (Some s) ≡ g)) ⊎ ((find n u ≡ Some removed) × (is_used (Some s) ≡ true) × (suc (entry_gen (Some s)) ≡ g)) → ⊥
  not_freed n g root gen b s o x z f (inl w) =
      let y : nth n old ≡ Some (used gen b) = rw z at o in
      true_false (sym (used_is (Some s) gen b (sym f ∙ y)) ∙ w.1)
  not_freed n g root gen b s o x z f (inr w) = x (rw z w.0)

  -- a number in use that is not removed is not listed, or is listed in use with its generation
  pub sheet_root : {n p : ℕ} {ls : List (Option Slot)} {ss : List State} {os : Bytes} → Sheet old u N n p ls ss os →
      (root gen : ℕ) (b : Bytes) → nth root old ≡ Some (used gen b) → (find root u ≡ Some removed → ⊥) → n ≤ root → root < N →
      (find root (listed_of n ls) ≡ None) ⊎ ((s : Slot) × (find root (listed_of n ls) ≡ Some s) × (s.in_use ≡ true) × (s.gen ≡ gen))
  unfolding listed_of
  sheet_root (ends e) root gen b o x h k = absurd (omega arith)
  sheet_root {n} (stays {ls = ls} s a i c d e f t) root gen b o x h k =
      cases (eqb root n)
      (λ q. let z = eqb-true root n q in inl (ascend_find (suc n) N root (listed_of (suc n) ls) (sheet_ascends old u N t) (omega arith)))
      (λ q. let z = eqb-false root n q in sheet_root t root gen b o x (omega arith) k)
  sheet_root {n} (frees {ls = ls} g l i c d e s f w t) root gen b o x h k =
      cases (eqb root n)
      (λ q. let z : root ≡ n = eqb-true root n q in absurd (not_freed n g root gen b s o x z f w))
      (λ q.
      let z = eqb-false root n q in
      rw (find_past root (n, free_slot l g) (listed_of (suc n) ls) z) (sheet_root t root gen b o x (omega arith) k))
  sheet_root {n} {p} (writes {ls = ls} g c i d e f t) root gen b o x h k =
      cases (eqb root n)
      (λ q.
      let z : root ≡ n = eqb-true root n q in
      let y : nth n old ≡ Some (used gen b) = rw z at o in
      inr (used_slot p g, find_here root (n, used_slot p g) (listed_of (suc n) ls) (sym z), refl, e ∙ used_gen (nth n old) gen b y))
      (λ q.
      let z = eqb-false root n q in
      rw (find_past root (n, used_slot p g) (listed_of (suc n) ls) z) (sheet_root t root gen b o x (omega arith) k))

  -- every entry is small enough for its digits
  pub sheet_small : {n p : ℕ} {ls : List (Option Slot)} {ss : List State} {os : Bytes} → Sheet old u N n p ls ss os →
      N ≤ 1000 → p + length os ≤ 9999999 → EachSmall ls
  sheet_small (ends e) h k = tt
  sheet_small (stays s a b c d e f t) h k = sheet_small t h k
  sheet_small (frees g l b c d e s f o t) h k = ((omega arith, let w = e.0 in omega arith), sheet_small t h k)
  sheet_small {n} {p} (writes {os = os} g c b d e f t) h k =
      let w : length (framed_bytes n g c ++ os) ≡ length (framed_bytes n g c) + length os = length-append (framed_bytes n g c) os in
      let x : p + length (framed_bytes n g c ++ os) ≤ 9999999 = k in
      ((omega arith, let v = f.1 in omega arith), sheet_small t h (omega arith))

-- rows below 1000 are within the bound
pub rows_in_bound : (low high : ℕ) (rows : Listed) → high ≤ 1000 → RowsAscend low high rows → in_bound rows ≡ true
unfolding in_bound
rows_in_bound low high [] h a = refl
rows_in_bound low high (r ∷ rs) h a =
    let k : r.0 < high = a.1 in
    both (le-leb r.0 999 (omega arith)) (rows_in_bound (suc r.0) high rs h a.2)

pub root_by : (root gen : ℕ) (b : Bytes) (rows : Listed) (old : List State) → nth root old ≡ Some (used gen b) →
    (find root rows ≡ None) ⊎ ((s : Slot) × (find root rows ≡ Some s) × (s.in_use ≡ true) × (s.gen ≡ gen)) → root_fits root gen rows old ≡ true
unfolding root_fits used_with
root_by root gen b rows old e (inl f) = rw (f, root_fits) (rw e (eq-eqb gen gen refl))
root_by root gen b rows old e (inr f) = rw (f.1, root_fits) (both f.2 (eq-eqb f.0.gen gen f.3))

-- an object that a row tells of starts before the end of the objects
pub written_below : (old : List State) (u : Update) (at : ℕ) (objects : Bytes) (n : ℕ) (s : Slot) → Written old u at objects n s → s.field < at + length objects
written_below old u at objects n s w =
    let p = w.place in
    let a : length objects ≡ length w.before + length (framed_bytes n s.gen w.content ++ w.behind) = ap length w.bytes ∙ length-append w.before (framed_bytes n s.gen w.content ++ w.behind) in
    let b = length-append (framed_bytes n s.gen w.content) w.behind in
    let c = framed_some n s.gen w.content in
    omega arith

-- there is a cell for each number below the new Size
pub cells_of_length : (len : ℕ) (r : Revision) (u : Update) → length (cells_of len r u) ≡ new_size r u
unfolding cells_of
cells_of_length len r u = cells_length (new_size r u) 0 len r.states u

entries_length : (n : ℕ) (cs : List Cell) → length (entries_for n cs) ≡ length cs
unfolding entries_for
entries_length n [] = refl
entries_length n (c ∷ cs) = ap suc (entries_length (suc n) cs)

-- there is an entry, or none listed, for each number below the new Size
pub entries_of_length : (len : ℕ) (r : Revision) (u : Update) → length (entries_for 0 (cells_of len r u)) ≡ new_size r u
entries_of_length len r u = entries_length 0 (cells_of len r u) ∙ cells_of_length len r u

-- What an acceptable update of a sound table lists meets the rules.
pub rules_met : (r : Revision) (u : Update) (len : ℕ) → Sound r → Acceptable r u → new_size r u ≤ 1000 → MeetsRules r u len
unfolding cells_of update_objects
rules_met r u len S A h =
    let N : ℕ = new_size r u in
    let old : List State = r.states in
    let K : Known r.states u (new_size r u) = known r u S A in
    let t = sheet r.states u (new_size r u) K (new_size r u) 0 len (omega arith) in
    let l = S.long in
    let g = size_grows r u S A in
    let a = sheet_ascends r.states u (new_size r u) t in
    let root = S.root in
    let b = nth_below r.root r.states (used r.root_gen root.0) root.1 in
    record {
      first = sheet_first r.states u (new_size r u) t K.some refl;
      ascend = a;
      written = sheet_written r.states u (new_size r u) t len (update_objects len r u) [] refl (omega arith);
      fit = sheet_fits r.states u (new_size r u) t (len + length (update_objects len r u)) (omega arith);
      size = sheet_highest r.states u (new_size r u) t (omega arith) (length r.states) (λ z. refl) (λ z. omega arith);
      covers = sheet_covers r.states u (new_size r u) t (new_size r u) (omega arith);
      root = root_by r.root r.root_gen root.0 (listed_of 0 (entries_for 0 (cells_of len r u))) r.states root.1
          (sheet_root r.states u (new_size r u) t r.root r.root_gen root.0 root.1 (λ e. (allowed_find r (new_size r u) r.root removed u A.allowed e).1 refl) (omega arith) (omega arith));
      bound = rows_in_bound 0 (new_size r u) (listed_of 0 (entries_for 0 (cells_of len r u))) h a;
      puts = λ n b e. puttable r u n b S A e;
      small = λ k. sheet_small r.states u (new_size r u) t h k;
    }
