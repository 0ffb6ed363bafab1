-- Every table that opening leaves is sound. Assumes nothing.
use Rattle.std.proofs.Common.{◌≡◌, ℕ, zero, suc, ◌+◌, ◌<◌, ◌≤◌, max, Bool, true, false, ◌&&◌, eqb, ltb, leb, ◌⊎◌, List, [], ◌∷◌, length, take, ℤ, Some, None, Ok, Err, Option, sym, refl, ap, ◌∙◌, subst, inl, inr, arith, le-ltb, eqb-true, leb-true}
use native.Mathlib.Nat.{le-max_left, le-max_right}
use borrow.Author.Tests.{eqb-false}
use Rattle.std.proofs.lemmas.Bool.{and_parts}
use Rattle.faults.specs.declared.fault.Fault.{Fault}
use Rattle.faults.specs.declared.reason.Reason.TheVariants.{NoHeader, ChainRule, FileBound}
use Rattle.format.specs.Book.{history_in, history, blank, newest_or, newest}
use Rattle.format.specs.Bytes.{Bytes}
use Rattle.format.specs.Chain.{Answer, also, must, Link, link, walk}
use Rattle.format.specs.Failures.{chain_fault}
use Rattle.format.specs.Lines.{Slot}
use Rattle.format.specs.Revisions.{State, used, free, Revision, find, nth, either, highest, size_is, under_size, slot_fits, slots_fit, state_of, states_of, covered, overlaid, one_from_zero, used_with, root_fits, revision, revisions, header_fits, file_bytes, most_revisions, Opened, opens_from, opens}
use Rattle.format.specs.Sections.{Listed, listed, last_offset}
use Rattle.tables.specs.Sound.{Fit, Sound}
use Rattle.tables.specs.Statements.{OpenedSound}
use Rattle.tables.proofs.Finds.{some_none, true_false, find_here, find_past, nth_below, nth_none, nth_within}
use Rattle.tables.proofs.Applied.{overlaid_step}
use Rattle.tables.proofs.Answered.{err_ok, also_ok, must_ok}
use Rattle.tables.proofs.ChangesBack.{state_is}
use Rattle.locality.proofs.Cases.{cases, cases_o}

-- every state of a table fits its number
abbrev pub Fits : List State → Type 0
Fits old = (n : ℕ) (s : State) → nth n old ≡ Some s → Fit n s

-- a row that is found fits
pub slots_find : (off : ℕ) (size : ℤ) (rows : Listed) (v : Unit {0}) → slots_fit off size rows ≡ Ok v → (n : ℕ) (s : Slot) → find n rows ≡ Some s → slot_fits off size n s ≡ true
unfolding slots_fit find
slots_find off size [] v e n s f = some_none (sym f)
slots_find off size (r ∷ rs) v e n s f =
    let a = must_ok (slot_fits off size r.0 r.1) (chain_fault ChainRule off r.0) (λ _. slots_fit off size rs) v e in
    cases (eqb n r.0)
    (λ q.
    let z : r.0 ≡ n = sym (eqb-true n r.0 q) in
    let g : find n (r ∷ rs) ≡ Some r.1 = find_here n r rs z in
    let w : r.1 ≡ s = cc in
    rw (← z, ← w) a.0)
    (λ q. slots_find off size rs v a.1 n s (sym (find_past n r rs (eqb-false n r.0 q)) ∙ f))

-- a state read from a row that fits, fits its number
fit_free : (off : ℕ) (size : ℤ) (n : ℕ) (s : Slot) → s.in_use ≡ false → slot_fits off size n s ≡ true → Fit n (free s.gen s.field)
unfolding slot_fits
fit_free off size zero s q e =
    let w = and_parts (eqb s.gen 65535) (under_size s.field size) (rw (q, slot_fits) at e) in
    let z = eqb-true s.gen 65535 w.0 in
    (omega arith, λ _. z)
fit_free off size (suc n) s q e =
    let w = and_parts (leb s.gen 65535) (under_size s.field size) (rw (q, slot_fits) at e) in
    (leb-true s.gen 65535 w.0, λ z. absurd (omega arith))

fit_used : (off : ℕ) (size : ℤ) (n : ℕ) (s : Slot) (b : Bytes) → s.in_use ≡ true → slot_fits off size n s ≡ true → Fit n (used s.gen b)
unfolding slot_fits
fit_used off size zero s b q e = true_false (sym (rw (q, slot_fits) at e))
fit_used off size (suc n) s b q e =
    let w = and_parts (leb s.gen 65534) (ltb s.field off) (rw (q, slot_fits) at e) in
    (omega arith, leb-true s.gen 65534 w.0)

pub state_fits : (file : Bytes) (off : ℕ) (size : ℤ) (n : ℕ) (s : Slot) (t : State) → slot_fits off size n s ≡ true → state_of file off n s ≡ Ok t → Fit n t
state_fits file off size n s t h e =
    elim (state_is file off n s t e) [
      | inl w ↦ rw w.1.2 (fit_used off size n s w.1.0 w.0 h)
      | inr w ↦ rw w.1 (fit_free off size n s w.0 h)
    ]

-- the states read from rows: one for each row
pub record Paired (file : Bytes) (off n : ℕ) (rows : Listed) (ts : List (ℕ × State)) : Type 0 where
  pub none : find n rows ≡ None → find n ts ≡ None
  pub some : (s : Slot) → find n rows ≡ Some s → (t : State) × (find n ts ≡ Some t) × (state_of file off n s ≡ Ok t)

pub states_paired : (file : Bytes) (off n : ℕ) (rows : Listed) (ts : List (ℕ × State)) → states_of file off rows ≡ Ok ts → Paired file off n rows ts
unfolding states_of find
states_paired file off n [] ts e =
    let z : ◌≡◌ {A = Answer (List (ℕ × State))} (Ok []) (Ok ts) = e in
    let y : [] ≡ ts = cc in
    record { none = λ q. rw (← y) refl; some = λ s q. some_none (sym q) }
states_paired file off n (r ∷ rs) ts e =
    let a = also_ok (state_of file off r.0 r.1) (λ t. also (states_of file off rs) (λ xs. Ok ((r.0, t) ∷ xs))) ts e in
    let b = also_ok (states_of file off rs) (λ xs. Ok ((r.0, a.0) ∷ xs)) ts a.2 in
    let z : ◌≡◌ {A = Answer (List (ℕ × State))} (Ok ((r.0, a.0) ∷ b.0)) (Ok ts) = b.2 in
    let y : (r.0, a.0) ∷ b.0 ≡ ts = cc in
    let p : Paired file off n rs b.0 = states_paired file off n rs b.0 b.1 in
    rw (← y)
    (cases (eqb n r.0)
    (λ q.
    let h : r.0 ≡ n = sym (eqb-true n r.0 q) in
    let f : find n (r ∷ rs) ≡ Some r.1 = find_here n r rs h in
    let g : find n ((r.0, a.0) ∷ b.0) ≡ Some a.0 = find_here n (r.0, a.0) b.0 h in
    record {
      none = λ k. some_none (sym f ∙ k);
      some = λ s k. (let w : r.1 ≡ s = cc in (a.0, g, rw (← h, ← w) a.1));
    })
    (λ q.
    let h = eqb-false n r.0 q in
    let f : find n (r ∷ rs) ≡ find n rs = find_past n r rs h in
    let g : find n ((r.0, a.0) ∷ b.0) ≡ find n b.0 = find_past n (r.0, a.0) b.0 h in
    record {
      none = λ k. g ∙ p.none (sym f ∙ k);
      some = λ s k. (let w = p.some s (sym f ∙ k) in (w.0, g ∙ w.1, w.2));
    }))

-- a covered range is covered from the next number on
covered_rest : (k n : ℕ) (rows : Listed) (m : ℕ) → covered (suc k) n rows m ≡ true → covered k (suc n) rows m ≡ true
unfolding covered
covered_rest k n rows m e =
    cases (ltb n m)
    (λ q. rw (q, covered) at e)
    (λ q.
    cases_o (find n rows)
    (λ f. true_false (sym (rw f at (rw (q, covered) at e))))
    (λ s f. rw f at (rw (q, covered) at e)))

covered_first : (k n : ℕ) (rows : Listed) (m : ℕ) → covered (suc k) n rows m ≡ true → m ≤ n → find n rows ≡ None → ⊥
unfolding covered
covered_first k n rows m e h f = true_false (sym (rw f at (rw (le-ltb n m h, covered) at e)))

-- every number of a covered range is listed, or stood before
pub covered_at : (k n : ℕ) (rows : Listed) (m : ℕ) → covered k n rows m ≡ true → (j : ℕ) → n ≤ j → j < n + k → m ≤ j → find j rows ≡ None → ⊥
covered_at zero n rows m e j a b h f = omega arith
covered_at (suc k) n rows m e j a b h f =
    cases (eqb j n)
    (λ q. let z : j ≡ n = eqb-true j n q in covered_first k n rows m e (omega arith) (rw z at f))
    (λ q. let z = eqb-false j n q in covered_at k (suc n) rows m (covered_rest k n rows m e) j (omega arith) (omega arith) h f)

-- a table with a state for each number: its length, and what stands at each place
pub overlaid_length : (k n : ℕ) (ts : List (ℕ × State)) (old : List State) → ((j : ℕ) → n ≤ j → j < n + k → either (find j ts) (nth j old) ≡ None → ⊥) → length (overlaid k n ts old) ≡ k
unfolding overlaid
overlaid_length zero n ts old h = refl
overlaid_length (suc k) n ts old h =
    cases_o (either (find n ts) (nth n old))
    (λ e. absurd (h n (omega arith) (omega arith) e))
    (λ s e. ap length (overlaid_step k n ts old s e) ∙ ap suc (overlaid_length k (suc n) ts old (λ j a b. h j (omega arith) (omega arith))))

pub overlaid_nth : (k n : ℕ) (ts : List (ℕ × State)) (old : List State) → ((j : ℕ) → n ≤ j → j < n + k → either (find j ts) (nth j old) ≡ None → ⊥) →
    (i m : ℕ) → n + i ≡ m → i < k → nth i (overlaid k n ts old) ≡ either (find m ts) (nth m old)
unfolding nth
overlaid_nth zero n ts old h i m q l = absurd (omega arith)
overlaid_nth (suc k) n ts old h zero m q l =
    let z : n ≡ m = omega arith in
    cases_o (either (find n ts) (nth n old))
    (λ e. absurd (h n (omega arith) (omega arith) e))
    (λ s e. rw (overlaid_step k n ts old s e) (sym e ∙ ap (λ (j : ℕ). either (find j ts) (nth j old)) z))
overlaid_nth (suc k) n ts old h (suc i) m q l =
    cases_o (either (find n ts) (nth n old))
    (λ e. absurd (h n (omega arith) (omega arith) e))
    (λ s e. rw (overlaid_step k n ts old s e) (overlaid_nth k (suc n) ts old (λ j a b. h j (omega arith) (omega arith)) i m (omega arith) (omega arith)))

-- the highest number is none below
pub highest_least : (m : ℕ) (rows : Listed) → m ≤ highest m rows
unfolding highest
highest_least m [] = omega arith
highest_least m (r ∷ rs) = let a = le-max_left m (suc r.0) in let b = highest_least (max m (suc r.0)) rs in omega arith

pub highest_row : (m : ℕ) (rows : Listed) (n : ℕ) (s : Slot) → find n rows ≡ Some s → n < highest m rows
unfolding highest find
highest_row m [] n s e = some_none (sym e)
highest_row m (r ∷ rs) n s e =
    cases (eqb n r.0)
    (λ q.
    let z : n ≡ r.0 = eqb-true n r.0 q in
    let a = le-max_right m (suc r.0) in
    let b = highest_least (max m (suc r.0)) rs in
    omega arith)
    (λ q. highest_row (max m (suc r.0)) rs n s (sym (find_past n r rs (eqb-false n r.0 q)) ∙ e))

-- Root is listed in use with its generation, or is not listed and was in use with it
used_with_fact : (g : ℕ) (t : State) → used_with g t ≡ true → (b : Bytes) × (t ≡ used g b)
unfolding used_with
used_with_fact g (used h b) e = (b, ap {B = State} (λ j. used j b) (eqb-true h g e))
used_with_fact g (free h l) e = true_false (sym e)

pub root_found : (n g : ℕ) (rows : Listed) (old : List State) → root_fits n g rows old ≡ true →
    ((s : Slot) × (find n rows ≡ Some s) × (s.in_use ≡ true) × (s.gen ≡ g)) ⊎ ((find n rows ≡ None) × ((b : Bytes) × (nth n old ≡ Some (used g b))))
unfolding root_fits
root_found n g rows old e =
    cases_o (find n rows)
    (λ f.
    cases_o (nth n old)
    (λ h. true_false (sym (rw h at (rw (f, root_fits) at e))))
    (λ t h.
    let w = used_with_fact g t (rw h at (rw (f, root_fits) at e)) in
    inr (f, (w.0, h ∙ ap {B = Option State} (λ j. Some j) w.1))))
    (λ s f. let w = and_parts s.in_use (eqb s.gen g) (rw (f, root_fits) at e) in inl (s, f, w.0, eqb-true s.gen g w.1))

-- the rules that an accepted revision has met
pub record Accepted (file : Bytes) (old : List State) (l : Link) (r : Revision) : Type 0 where
  pub fit : slots_fit l.sec.offset l.says.size (listed l.sec.subsections) ≡ Ok tt
  pub covers : covered (highest (length old) (listed l.sec.subsections)) 0 (listed l.sec.subsections) (length old) ≡ true
  pub root : root_fits l.says.root l.says.root_gen (listed l.sec.subsections) old ≡ true
  pub read : List (ℕ × State)
  pub reads : states_of file l.sec.offset (listed l.sec.subsections) ≡ Ok read
  pub is : r ≡ record { offset = l.sec.offset; end = l.sec.end; size = highest (length old) (listed l.sec.subsections); root = l.says.root; root_gen = l.says.root_gen; trailer = l.sec.trailer; states = overlaid (highest (length old) (listed l.sec.subsections)) 0 read old }

unpack : {X : Type 0} (b₁ : Bool) (f₁ : Fault) (x₂ : Answer (Unit {0})) (b₃ : Bool) (f₃ : Fault) (b₄ : Bool) (f₄ : Fault) (x₅ : Answer X) (k : X → Revision) (r : Revision) →
    must b₁ f₁ (λ _. also x₂ (λ _. must b₃ f₃ (λ _. must b₄ f₄ (λ _. also x₅ (λ ts. Ok (k ts)))))) ≡ Ok r →
    (v : Unit {0}) × (x₂ ≡ Ok v) × (b₃ ≡ true) × (b₄ ≡ true) × (ts : X) × (x₅ ≡ Ok ts) × (r ≡ k ts)
unpack true f₁ (Ok v) true f₃ true f₄ (Ok ts) k r e =
    let z : k ts ≡ r = cc in (v, refl, refl, refl, ts, refl, sym z)
unpack true f₁ (Ok v) true f₃ true f₄ (Err f) k r e = err_ok e
unpack true f₁ (Ok v) true f₃ false f₄ x₅ k r e = err_ok e
unpack true f₁ (Ok v) false f₃ b₄ f₄ x₅ k r e = err_ok e
unpack true f₁ (Err f) b₃ f₃ b₄ f₄ x₅ k r e = err_ok e
unpack false f₁ x₂ b₃ f₃ b₄ f₄ x₅ k r e = err_ok e

pub accepted : (file : Bytes) (oldest : Bool) (old : List State) (l : Link) (r : Revision) → revision file oldest old l ≡ Ok r → Accepted file old l r
unfolding revision
accepted file oldest old l r e =
    let new : Listed = listed l.sec.subsections in
    let w =
    unpack {X = List (ℕ × State)} (elim oldest [ true ↦ one_from_zero l.sec.subsections | false ↦ true ]) (chain_fault ChainRule l.sec.offset 0)
    (slots_fit l.sec.offset l.says.size new)
    (size_is l.says.size (highest (length old) new) && covered (highest (length old) new) 0 new (length old))
    (chain_fault ChainRule l.sec.offset 0)
    (root_fits l.says.root l.says.root_gen new old)
    (chain_fault ChainRule l.sec.offset l.says.root)
    (states_of file l.sec.offset new)
    (λ ts. record { offset = l.sec.offset; end = l.sec.end; size = highest (length old) new; root = l.says.root; root_gen = l.says.root_gen; trailer = l.sec.trailer; states = overlaid (highest (length old) new) 0 ts old })
    r e in
    record {
      fit = w.1;
      covers = (and_parts (size_is l.says.size (highest (length old) new)) (covered (highest (length old) new) 0 new (length old)) w.2).1;
      root = w.3;
      read = w.4;
      reads = w.5;
      is = w.6;
    }

module _ (file : Bytes) (old : List State) (l : Link) (r : Revision) (F : Fits old) (a : Accepted file old l r) where
  size : ℕ
  size = highest (length old) (listed l.sec.subsections)

  -- every number below Size has a state
  has_state : (j : ℕ) → 0 ≤ j → j < 0 + size → either (find j a.read) (nth j old) ≡ None → ⊥
  unfolding size
  has_state j h k e =
      let p : Paired file l.sec.offset j (listed l.sec.subsections) a.read = states_paired file l.sec.offset j (listed l.sec.subsections) a.read a.reads in
      cases_o (find j (listed l.sec.subsections))
      (λ f.
      let g : find j a.read ≡ None = p.none f in
      let n : nth j old ≡ None = rw g at e in
      covered_at (highest (length old) (listed l.sec.subsections)) 0 (listed l.sec.subsections) (length old) a.covers j h k (nth_none j old n) f)
      (λ s f.
      let w = p.some s f in
      let z : ◌≡◌ {A = Option State} (Some w.0) None = rw w.1 at e in
      some_none z)

  at_place : (j : ℕ) → j < size → nth j (overlaid size 0 a.read old) ≡ either (find j a.read) (nth j old)
  at_place j h = overlaid_nth size 0 a.read old has_state j j (omega arith) h

  fits_all : (n : ℕ) (s : State) → nth n (overlaid size 0 a.read old) ≡ Some s → Fit n s
  fits_all n s e =
      let k : n < length (overlaid size 0 a.read old) = nth_below n (overlaid size 0 a.read old) s e in
      let m : length (overlaid size 0 a.read old) ≡ size = overlaid_length size 0 a.read old has_state in
      let z : either (find n a.read) (nth n old) ≡ Some s = sym (at_place n (omega arith)) ∙ e in
      let p : Paired file l.sec.offset n (listed l.sec.subsections) a.read = states_paired file l.sec.offset n (listed l.sec.subsections) a.read a.reads in
      cases_o (find n (listed l.sec.subsections))
      (λ f. let g : find n a.read ≡ None = p.none f in F n s (rw g at z))
      (λ x f.
      let w = p.some x f in
      let y : ◌≡◌ {A = Option State} (Some w.0) (Some s) = rw w.1 at z in
      let v : w.0 ≡ s = cc in
      rw (← v)
      (state_fits file l.sec.offset l.says.size n x w.0 (slots_find l.sec.offset l.says.size (listed l.sec.subsections) tt a.fit n x f) w.2))

  root_in : (l.says.root < size) × ((b : Bytes) × (nth l.says.root (overlaid size 0 a.read old) ≡ Some (used l.says.root_gen b)))
  unfolding size
  root_in =
      let n : ℕ = l.says.root in
      let p : Paired file l.sec.offset n (listed l.sec.subsections) a.read = states_paired file l.sec.offset n (listed l.sec.subsections) a.read a.reads in
      go p (root_found n l.says.root_gen (listed l.sec.subsections) old a.root)
    where
      go : Paired file l.sec.offset l.says.root (listed l.sec.subsections) a.read →
          ((s : Slot) × (find l.says.root (listed l.sec.subsections) ≡ Some s) × (s.in_use ≡ true) × (s.gen ≡ l.says.root_gen))
          ⊎ ((find l.says.root (listed l.sec.subsections) ≡ None) × ((b : Bytes) × (nth l.says.root old ≡ Some (used l.says.root_gen b)))) →
          (l.says.root < size) × ((b : Bytes) × (nth l.says.root (overlaid size 0 a.read old) ≡ Some (used l.says.root_gen b)))
      go p (inl w) =
          let h : l.says.root < size = highest_row (length old) (listed l.sec.subsections) l.says.root w.0 w.1 in
          let x = p.some w.0 w.1 in
          let y : either (find l.says.root a.read) (nth l.says.root old) ≡ Some x.0 = rw x.1 refl in
          elim (state_is file l.sec.offset l.says.root w.0 x.0 x.2) [
            | inl s ↦ (h, (s.1.0, at_place l.says.root h ∙ y ∙ ap {B = Option State} (λ j. Some j) s.1.2 ∙ ap {B = Option State} (λ j. Some (used j s.1.0)) w.3))
            | inr s ↦ true_false (sym w.2 ∙ s.0)
          ]
      go p (inr w) =
          let k : l.says.root < length old = nth_below l.says.root old (used l.says.root_gen w.1.0) w.1.1 in
          let m : length old ≤ size = highest_least (length old) (listed l.sec.subsections) in
          let h : l.says.root < size = omega arith in
          let g : find l.says.root a.read ≡ None = p.none w.0 in
          (h, (w.1.0, at_place l.says.root h ∙ rw g w.1.1))

  -- A revision accepted on a table whose states fit is sound.
  pub accepted_sound : Sound r
  unfolding size
  accepted_sound =
      rw a.is
      (record {
        long = overlaid_length size 0 a.read old has_state;
        some = let h = root_in.0 in omega arith;
        fits = fits_all;
        root = root_in.1;
      })

-- A revision read behind fitting states is sound: behind none at all, and behind those of a sound revision.
pub revision_sound : (file : Bytes) (oldest : Bool) (old : List State) (l : Link) (r : Revision) → Fits old → revision file oldest old l ≡ Ok r → Sound r
revision_sound file oldest old l r F e = accepted_sound file old l r F (accepted file oldest old l r e)

-- no states, no misfit
pub nil_fits : Fits []
unfolding nth
nil_fits zero s e = some_none (sym e)
nil_fits (suc n) s e = some_none (sym e)

-- what revisions amount to: as many as links, each sound
pub record AllSound (ls : List Link) (rs : List Revision) : Type 0 where
  pub long : length rs ≡ length ls
  pub each : (k : ℕ) (r : Revision) → nth k rs ≡ Some r → Sound r

pub revisions_sound : (file : Bytes) (oldest : Bool) (old : List State) (ls : List Link) (rs : List Revision) → Fits old → revisions file oldest old ls ≡ Ok rs → AllSound ls rs
unfolding revisions nth
revisions_sound file oldest old [] rs F e =
    let z : ◌≡◌ {A = Answer (List Revision)} (Ok []) (Ok rs) = e in
    let y : [] ≡ rs = cc in
    rw (← y) (record { long = refl; each = none })
  where
    none : (k : ℕ) (r : Revision) → nth k [] ≡ Some r → Sound r
    none zero r f = some_none (sym f)
    none (suc k) r f = some_none (sym f)
revisions_sound file oldest old (l ∷ ls) rs F e =
    let a = also_ok (revision file oldest old l) (λ r. also (revisions file false r.states ls) (λ xs. Ok (r ∷ xs))) rs e in
    let b = also_ok (revisions file false a.0.states ls) (λ xs. Ok (a.0 ∷ xs)) rs a.2 in
    let z : ◌≡◌ {A = Answer (List Revision)} (Ok (a.0 ∷ b.0)) (Ok rs) = b.2 in
    let y : a.0 ∷ b.0 ≡ rs = cc in
    let S : Sound a.0 = revision_sound file oldest old l a.0 F a.1 in
    rw (← y) (more a.0 b.0 S (revisions_sound file false a.0.states ls b.0 S.fits b.1))
  where
    more : (x : Revision) (xs : List Revision) → Sound x → AllSound ls xs → AllSound (l ∷ ls) (x ∷ xs)
    more x xs S R = record { long = ap suc R.long; each = at }
      where
        at : (k : ℕ) (r : Revision) → nth k (x ∷ xs) ≡ Some r → Sound r
        at zero r f = let w : x ≡ r = cc in rw (← w) S
        at (suc k) r f = R.each k r f

-- a walk finds one section at least
pub walk_some : (n : ℕ) (file : Bytes) (off : ℕ) (fits : ℕ → Bool) (newer ls : List Link) → walk n file off fits newer ≡ Ok ls → 1 ≤ length ls
unfolding walk
walk_some zero file off fits newer ls e = err_ok e
walk_some (suc n) file off fits newer ls e =
    let a =
    also_ok {A = Link × Option ℕ} {B = List Link} (link file off fits)
    (λ l.
    elim l.1 [
      | None ↦ Ok (l.0 ∷ newer)
      | Some b ↦ walk n file b (λ x. leb x off) (l.0 ∷ newer)
    ]) ls e in
    go a.0.0 (λ b f. walk_some n file b (λ y. leb y off) (a.0.0 ∷ newer) ls f) a.0.1 a.2
  where
    go : (x : Link) → ((b : ℕ) → walk n file b (λ y. leb y off) (x ∷ newer) ≡ Ok ls → 1 ≤ length ls) →
        (o : Option ℕ) → ◌≡◌ {A = Answer (List Link)} (elim o [ None ↦ Ok (x ∷ newer) | Some b ↦ walk n file b (λ y. leb y off) (x ∷ newer) ]) (Ok ls) → 1 ≤ length ls
    go x again None f =
        let z : ◌≡◌ {A = Answer (List Link)} (Ok (x ∷ newer)) (Ok ls) = f in
        let y : x ∷ newer ≡ ls = cc in
        rw (← y) (omega arith)
    go x again (Some b) f = again b f

-- the newest revision is one of them
pub newest_in : (d : Revision) (rs : List Revision) → 1 ≤ length rs → (k : ℕ) × (nth k rs ≡ Some (newest_or d rs))
unfolding newest_or nth
newest_in d [] h = absurd (omega arith)
newest_in d (s ∷ []) h = (0, refl)
newest_in d (s ∷ t ∷ rs) h = let w = newest_in s (t ∷ rs) (omega arith) in (suc w.0, w.1)

opens_from_fact : (file : Bytes) (t : Option ℕ) (o : Opened) → opens_from file t ≡ Ok o → (1 ≤ length o.history) × ((k : ℕ) (r : Revision) → nth k o.history ≡ Some r → Sound r)
unfolding opens_from
opens_from_fact file None o e = err_ok e
opens_from_fact file (Some off) o e =
    let a =
    also_ok (walk most_revisions file off (λ x. eqb x (length file)) [])
    (λ ls. also (revisions file true [] ls) (λ rs. Ok (record { header = take 8 file; history = rs }))) o e in
    let b = also_ok (revisions file true [] a.0) (λ rs. Ok (record { header = take 8 file; history = rs })) o a.2 in
    let z : ◌≡◌ {A = Answer Opened} (Ok (record { header = take 8 file; history = b.0 })) (Ok o) = b.2 in
    let y : record { header = take 8 file; history = b.0 } ≡ o = cc in
    let R : AllSound a.0 b.0 = revisions_sound file true [] a.0 b.0 nil_fits b.1 in
    let w = walk_some most_revisions file off (λ x. eqb x (length file)) [] a.0 a.1 in
    let l = R.long in
    rw (← y) (omega arith, R.each)

-- Every table of a file that opens is sound.
pub opened_sound : (file : Bytes) (o : Opened) → opens file ≡ Ok o → OpenedSound file o
unfolding opens newest history history_in
opened_sound file o e =
    let a = must_ok (leb (length file) file_bytes) (chain_fault FileBound 0 0) (λ _. must (header_fits file) (chain_fault NoHeader 0 0) (λ _. opens_from file (last_offset file))) o e in
    let b = must_ok (header_fits file) (chain_fault NoHeader 0 0) (λ _. opens_from file (last_offset file)) o a.1 in
    let c = opens_from_fact file (last_offset file) o b.1 in
    let w = newest_in blank o.history c.0 in
    record {
      some = c.0;
      each = c.1;
      newest = subst (λ (x : Answer Opened). Sound (newest_or blank (history_in x))) (sym e) (c.1 w.0 (newest_or blank o.history) w.1);
    }

-- of a sound table, Root lies below Size
pub root_below : (r : Revision) → Sound r → r.root < r.size
root_below r S =
    let w = S.root in
    let l = S.long in
    let k = nth_below r.root r.states (used r.root_gen w.0) w.1 in
    omega arith

-- and number 0 is free with 65535
pub first_free_fact : (r : Revision) → Sound r → (l : ℕ) × (nth 0 r.states ≡ Some (free 65535 l))
first_free_fact r S = go w.0 w.1 (S.fits 0 w.0 w.1)
  where
    w : (s : State) × (nth 0 r.states ≡ Some s)
    w = nth_within 0 r.states (let l = S.long in let h = S.some in omega arith)

    go : (s : State) → nth 0 r.states ≡ Some s → Fit 0 s → (l : ℕ) × (nth 0 r.states ≡ Some (free 65535 l))
    go (used g b) e f = absurd (let k = f.0 in omega arith)
    go (free g l) e f = (l, e ∙ ap {B = Option State} (λ j. Some (free j l)) (f.1 refl))
