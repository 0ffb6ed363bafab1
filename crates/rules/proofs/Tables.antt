-- The table after the first sections: what the definition asks of Size and Root is what the rules say, and the next section makes the next table.
use Rattle.std.proofs.Common.{◌≡◌, ℕ, zero, suc, ◌+◌, ◌<◌, ◌≤◌, max, true, ◌&&◌, eqb, ltb, ◌⊎◌, List, [], ◌∷◌, length, ℤ, pos, negsuc, Some, None, Ok, sym, refl, ap, ◌∙◌, inl, inr, ⊎_elim, arith}
use Rattle.std.proofs.lemmas.Bool.{and_parts, and_from, eqb-true, eq-eqb, ltb-false, cases_lt}
use Rattle.format.specs.Bytes.{Bytes}
use Rattle.format.specs.Chain.{Link}
use Rattle.format.specs.Lines.{Slot}
use Rattle.format.specs.Revisions.{State, used, free, find, nth, either, highest, size_is, states_of, covered, overlaid, used_with, root_fits}
use Rattle.format.specs.Sections.{Listed}
use Rattle.locality.proofs.Cases.{cases, cases_o, casesℕ}
use Rattle.tables.proofs.Finds.{some_none, true_false, nth_below, nth_none, nth_within}
use Rattle.tables.proofs.SoundTables.{Paired, states_paired, covered_at, overlaid_length, overlaid_nth, highest_least, highest_row, root_found}
use Rattle.rules.specs.Sections.{rows, Lists}
use Rattle.rules.specs.Tables.{Stands, Known, Newest, SizeFits, RootFits, NewestGives}
use Rattle.rules.proofs.Lists.{same_place, no_place}
use Rattle.rules.proofs.Newest.{Neat, Unlisted, lists_found, unfound, by_listed, known_more, known_here, known_cases, newest_known, newest_here, newest_more, newest_cases, newest_once}
use Rattle.rules.proofs.Objects.{state_given}
use Rattle.rules.proofs.Rows.{found_listed, unlisted_unfound}

-- the table after the first k sections has a state for each known number, and for no other: what its newest entry gives
pub record Table (file : Bytes) (links : List Link) (k : ℕ) (old : List State) : Type 0 where
  pub known : (n : ℕ) → n < length old → Known links k n
  pub within : (n : ℕ) → Known links k n → n < length old
  pub states : (n : ℕ) (t : State) → nth n old ≡ Some t → NewestGives file links k n t

-- before the first section there is none
pub no_table : (file : Bytes) (links : List Link) → Table file links 0 []
no_table file links = record {
  known = λ n h. absurd (omega arith);
  within = λ n a. absurd (let h = a.early in omega arith);
  states = λ n t e. no_place n e;
}

-- no number listed reaches what is above all of them
highest_most : (m : ℕ) (rs : Listed) (z : ℕ) → m ≤ z → ((n : ℕ) (e : Slot) → (i : ℕ) × (nth i rs ≡ Some (n, e)) → n < z) → highest m rs ≤ z
unfolding highest nth
highest_most m [] z h f = h
highest_most m (r ∷ rs) z h f =
    let k = f r.0 r.1 (0, refl) in
    highest_most (max m (suc r.0)) rs z (omega arith) (λ n e w. f n e (suc w.0, w.1))

covered_from : (k n : ℕ) (rs : Listed) (m : ℕ) → ((j : ℕ) → n ≤ j → j < n + k → m ≤ j → find j rs ≡ None → ⊥) → covered k n rs m ≡ true
unfolding covered
covered_from zero n rs m f = refl
covered_from (suc k) n rs m f =
    cases (ltb n m)
    (λ q. rw (q, covered) (covered_from k (suc n) rs m (λ j a b. f j (omega arith) (omega arith))))
    (λ q.
    cases_o (find n rs)
    (λ g. absurd (f n (omega arith) (omega arith) (ltb-false n m q) g))
    (λ s g. rw (q, covered) (rw g (covered_from k (suc n) rs m (λ j a b. f j (omega arith) (omega arith))))))

pub size_is_fact : (z : ℤ) (m : ℕ) → size_is z m ≡ true → z ≡ pos m
unfolding size_is
size_is_fact (pos n) m h = ap pos (eqb-true n m h)
size_is_fact (negsuc n) m h = true_false (sym h)

is_size : (z : ℤ) (m : ℕ) → z ≡ pos m → size_is z m ≡ true
unfolding size_is
is_size z m e = rw e (eq-eqb m m refl)

module _ (file : Bytes) (links : List Link) (neat : Neat links) (k : ℕ) (old : List State) (table : Table file links k old) (l : Link) (stands : Stands links k l) where
  known_under : (n : ℕ) → Known links (suc k) n → n < highest (length old) (rows l.sec)
  known_under n a =
      ⊎_elim
      (λ (b : Known links k n). let h = table.within n b in let m = highest_least (length old) (rows l.sec) in omega arith)
      (λ (b : (e : Slot) × Lists l.sec n e). highest_row (length old) (rows l.sec) n b.0 (lists_found l n b.0 (neat k l stands) b.1))
      (known_cases links k n l stands a)

  under_known : covered (highest (length old) (rows l.sec)) 0 (rows l.sec) (length old) ≡ true → (n : ℕ) → n < highest (length old) (rows l.sec) → Known links (suc k) n
  under_known c n h =
      ⊎_elim
      (λ (q : n < length old). known_more links k n (table.known n q))
      (λ (q : length old ≤ n).
      by_listed l n
      (λ e f w. known_here links k n l e stands w)
      (λ f u. absurd (covered_at (highest (length old) (rows l.sec)) 0 (rows l.sec) (length old) c n (omega arith) (omega arith) q f)))
      (cases_lt n (length old))

  pub size_fits : size_is l.says.size (highest (length old) (rows l.sec)) && covered (highest (length old) (rows l.sec)) 0 (rows l.sec) (length old) ≡ true → SizeFits links k l
  size_fits h =
      let w = and_parts (size_is l.says.size (highest (length old) (rows l.sec))) (covered (highest (length old) (rows l.sec)) 0 (rows l.sec) (length old)) h in
      record {
        size = highest (length old) (rows l.sec);
        is = size_is_fact l.says.size (highest (length old) (rows l.sec)) w.0;
        highest = known_under;
        every = under_known w.1;
      }

  size_top : (f : SizeFits links k l) → f.size ≡ highest (length old) (rows l.sec)
  size_top f =
      let a : length old ≤ f.size = casesℕ (length old) (λ q. omega arith) (λ m q. let u = f.highest m (known_more links k m (table.known m (omega arith))) in omega arith) in
      let b : highest (length old) (rows l.sec) ≤ f.size = highest_most (length old) (rows l.sec) f.size a (λ n e w. f.highest n (known_here links k n l e stands w)) in
      let c : f.size ≤ highest (length old) (rows l.sec) = casesℕ f.size (λ q. omega arith) (λ m q. let u = known_under m (f.every m (omega arith)) in omega arith) in
      omega arith

  pub fits_size : SizeFits links k l → size_is l.says.size (highest (length old) (rows l.sec)) && covered (highest (length old) (rows l.sec)) 0 (rows l.sec) (length old) ≡ true
  fits_size f =
      let q : f.size ≡ highest (length old) (rows l.sec) = size_top f in
      and_from (size_is l.says.size (highest (length old) (rows l.sec))) (covered (highest (length old) (rows l.sec)) 0 (rows l.sec) (length old))
      (is_size l.says.size (highest (length old) (rows l.sec)) (f.is ∙ ap pos q))
      (covered_from (highest (length old) (rows l.sec)) 0 (rows l.sec) (length old)
      (λ j a b c g.
      ⊎_elim
      (λ (x : Known links k j). let u = table.within j x in omega arith)
      (λ (x : (e : Slot) × Lists l.sec j e). unfound l j g x.0 x.1)
      (known_cases links k j l stands (f.every j (omega arith)))))

  pub root_fits_fact : root_fits l.says.root l.says.root_gen (rows l.sec) old ≡ true → RootFits links k l
  root_fits_fact h = go (root_found l.says.root l.says.root_gen (rows l.sec) old h)
    where
      go : ((s : Slot) × (find l.says.root (rows l.sec) ≡ Some s) × (s.in_use ≡ true) × (s.gen ≡ l.says.root_gen))
          ⊎ ((find l.says.root (rows l.sec) ≡ None) × ((b : Bytes) × (nth l.says.root old ≡ Some (used l.says.root_gen b)))) → RootFits links k l
      go (inl w) = record {
        link = l;
        entry = w.0;
        newest = newest_here links k l.says.root l w.0 stands (found_listed (rows l.sec) l.says.root w.0 w.1);
        in_use = w.2;
        gen = w.3;
      }
      go (inr w) =
          let g = table.states l.says.root (used l.says.root_gen w.1.0) w.1.1 in
          record {
            link = g.link;
            entry = g.entry;
            newest = newest_more links k l.says.root l g.link g.entry stands (unfound l l.says.root w.0) g.newest;
            in_use = g.gives.0;
            gen = sym g.gives.1;
          }

  root_state : (t : State) → nth l.says.root old ≡ Some t → (e : Slot) → (m : Link) → Newest links k l.says.root m e → e.in_use ≡ true → e.gen ≡ l.says.root_gen → used_with l.says.root_gen t ≡ true
  unfolding used_with
  root_state (used g b) h e m a u q =
      let s = table.states l.says.root (used g b) h in
      let w = newest_once links k l.says.root neat s.link m s.entry e s.newest a in
      eq-eqb g l.says.root_gen (s.gives.1 ∙ ap (λ (x : Slot). x.gen) w.1 ∙ q)
  root_state (free g x) h e m a u q =
      let s = table.states l.says.root (free g x) h in
      let w = newest_once links k l.says.root neat s.link m s.entry e s.newest a in
      true_false (sym u ∙ sym (ap (λ (y : Slot). y.in_use) w.1) ∙ s.gives.0)

  pub fits_root : RootFits links k l → root_fits l.says.root l.says.root_gen (rows l.sec) old ≡ true
  unfolding root_fits
  fits_root f = go (newest_cases links k l.says.root l f.link f.entry stands f.newest)
    where
      go : ((f.link ≡ l) × Lists l.sec l.says.root f.entry) ⊎ (Unlisted l l.says.root × Newest links k l.says.root f.link f.entry) →
          root_fits l.says.root l.says.root_gen (rows l.sec) old ≡ true
      go (inl w) =
          rw (lists_found l l.says.root f.entry (neat k l stands) w.1, root_fits)
          (and_from f.entry.in_use (eqb f.entry.gen l.says.root_gen) f.in_use (eq-eqb f.entry.gen l.says.root_gen f.gen))
      go (inr w) =
          let n = unlisted_unfound (rows l.sec) l.says.root (λ i e q. w.0 e (i, q)) in
          let t = nth_within l.says.root old (table.within l.says.root (newest_known links k l.says.root f.link f.entry w.1)) in
          rw (n, root_fits) (rw t.1 (root_state t.0 t.1 f.entry f.link w.1 f.in_use f.gen))

  -- the next section makes the next table
  module _ (covers : covered (highest (length old) (rows l.sec)) 0 (rows l.sec) (length old) ≡ true) (ts : List (ℕ × State)) (reads : states_of file l.sec.offset (rows l.sec) ≡ Ok ts) where
    paired : (n : ℕ) → Paired file l.sec.offset n (rows l.sec) ts
    paired n = states_paired file l.sec.offset n (rows l.sec) ts reads

    has_state : (j : ℕ) → 0 ≤ j → j < 0 + highest (length old) (rows l.sec) → either (find j ts) (nth j old) ≡ None → ⊥
    has_state j a h e =
        by_listed l j
        (λ s f w. let p = (paired j).some s f in some_none (rw p.1 at e))
        (λ f w.
        let n : nth j old ≡ None = rw ((paired j).none f) at e in
        covered_at (highest (length old) (rows l.sec)) 0 (rows l.sec) (length old) covers j a h (nth_none j old n) f)

    pub table_long : length (overlaid (highest (length old) (rows l.sec)) 0 ts old) ≡ highest (length old) (rows l.sec)
    table_long = overlaid_length (highest (length old) (rows l.sec)) 0 ts old has_state

    gives : (n : ℕ) (t : State) → nth n (overlaid (highest (length old) (rows l.sec)) 0 ts old) ≡ Some t → NewestGives file links (suc k) n t
    gives n t e =
        let a : n < length (overlaid (highest (length old) (rows l.sec)) 0 ts old) = nth_below n (overlaid (highest (length old) (rows l.sec)) 0 ts old) t e in
        let b = table_long in
        let c : either (find n ts) (nth n old) ≡ Some t = sym (overlaid_nth (highest (length old) (rows l.sec)) 0 ts old has_state n n (omega arith) (omega arith)) ∙ e in
        by_listed l n
        (λ s f w.
        let p = (paired n).some s f in
        let q : p.0 ≡ t = same_place (rw p.1 at c) in
        record { link = l; entry = s; newest = newest_here links k n l s stands w; gives = state_given file l n s t (p.2 ∙ ap Ok q) })
        (λ f w.
        let g = table.states n t (rw ((paired n).none f) at c) in
        record { link = g.link; entry = g.entry; newest = newest_more links k n l g.link g.entry stands w g.newest; gives = g.gives })

    pub next_table : Table file links (suc k) (overlaid (highest (length old) (rows l.sec)) 0 ts old)
    next_table = record {
      known = λ n h. under_known covers n (rw table_long at h);
      within = λ n a. rw table_long (known_under n a);
      states = gives;
    }
