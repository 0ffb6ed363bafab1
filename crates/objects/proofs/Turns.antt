-- Arrays, dictionaries and walks over entries, at a place inside them.
use Rattle.std.proofs.Common.{◌≡◌, ℕ, zero, suc, ◌+◌, ◌<◌, ◌≤◌, Bool, true, false, ◌&&◌, length, drop, is_some, Some, None, Option, sym, refl, ap, ◌∙◌, arith}
use Rattle.faults.specs.declared.fault.Fault.{Fault}
use Rattle.faults.specs.declared.reason.Reason.TheVariants.{KeyAgain}
use Rattle.format.specs.Bytes.{Bytes, Got, ok, bad, then, up_to, same}
use Rattle.format.specs.Failures.{object_fault}
use Rattle.format.specs.Space.{skip}
use Rattle.format.specs.Strings.{turns}
use Rattle.format.specs.Objects.{Obj, more_objs, Entries, more_entries, Reader, closes_array, items, holds, closes, key, fails, valued}
use Rattle.objects.specs.declared.shape.Shape.{Shape}
use Rattle.objects.specs.declared.shape.Value.{Value}
use Rattle.objects.specs.Shapes.{shape_of, shaped}
use Rattle.objects.specs.Extents.{keyed_by, entry_at_by, entries_by, read_by, reached, value_at, beyond, passing, value_behind, find_at, find}
use Rattle.objects.specs.Steps.{bare, token_in, next_in, EndsAt}
use Rattle.objects.proofs.Cases.{cases}
use Rattle.objects.proofs.Extents.{read_above}
use Rattle.objects.proofs.Walks.{Road, road_above, walk_meets}

-- an object that was read, from what is seen of it
pub shaped_ok : (r : Got Obj) (s : Shape) (q : ℕ) (ys : Bytes) → ok s q ys ≡ shaped r → (o : Obj) × (r ≡ ok o q ys) × (s ≡ shape_of o)
shaped_ok (ok o p xs) s q ys e = (o, cc, cc)
shaped_ok (bad f) s q ys e = absurd (let z : ◌≡◌ {A = ℕ} 0 1 = cc in omega arith)

-- a fault, from what is seen of it
pub shaped_bad : (r : Got Obj) (f : Fault) → bad f ≡ shaped r → r ≡ bad f
shaped_bad (ok o p xs) f e = absurd (let z : ◌≡◌ {A = ℕ} 0 1 = cc in omega arith)
shaped_bad (bad g) f e = cc

bare_then : {A B : Type 0} (r : Got A) (f : A → B) → bare (then r (λ a q ys. ok (f a) q ys)) ≡ bare r
bare_then (ok a q ys) f = refl
bare_then (bad g) f = refl

module _ (elem : Reader) (src : Bytes) where
  -- what is to be read of an array from p on comes to z, with turns enough
  abbrev pub Elements : ℕ → Got Unit → Type 0
  Elements p z = (n : ℕ) × (length src < n + p) × (bare (items elem n p (drop p src)) ≡ z)

  module _ (p : ℕ) (z : Got Unit) (h : p ≤ length src) where
    -- at the mark that closes it
    pub elements_close : (q : ℕ) → closes_array (token_in src p).kind ≡ true → EndsAt src p q → Elements p z → ok tt q (drop q src) ≡ z
    unfolding items
    elements_close q c t (zero, l, e) = absurd (omega arith)
    elements_close q c t (suc n, l, e) = let a = t.to in let b = t.rest in ap (λ x. ok tt x (drop q src)) (sym a) ∙ ap (λ x. ok tt (token_in src p).to x) (sym b) ∙ (rw (c, items) at e)

    -- behind one more element
    pub elements_more : (s : Shape) (q : ℕ) → closes_array (token_in src p).kind ≡ false → ok s q (drop q src) ≡ shaped (elem p (drop p src)) → p < q → Elements p z → Elements q z
    unfolding items
    elements_more s q c f lt (zero, l, e) = absurd (omega arith)
    elements_more s q c f lt (suc n, l, e) = go (shaped_ok (elem p (drop p src)) s q (drop q src) f)
      where
        go : ((o : Obj) × (elem p (drop p src) ≡ ok o q (drop q src)) × (s ≡ shape_of o)) → Elements q z
        go (o, g, _) = (n, omega arith, sym (bare_then (items elem n q (drop q src)) (more_objs o)) ∙ (rw (c, items, g) at e))

    -- at an element that is refused
    pub elements_fail : (f : Fault) → closes_array (token_in src p).kind ≡ false → bad f ≡ shaped (elem p (drop p src)) → Elements p z → bad f ≡ z
    unfolding items
    elements_fail f c g (zero, l, e) = absurd (omega arith)
    elements_fail f c g (suc n, l, e) = let w = shaped_bad (elem p (drop p src)) f g in rw (c, items, w) at e

module _ (c : Bool) (d : ℕ) (src : Bytes) (first : ℕ) where
  -- what is to be read of a dictionary from p on comes to z, with turns enough
  abbrev pub Entered : ℕ → Got Unit → Type 0
  Entered p z = (n : ℕ) × (es : Entries) × (length src < n + p) × Road (read_by c d) src first es p × (bare (entries_by c (read_by c d) n es p (drop p src)) ≡ z)

  -- no walk met the key k before p, or none was asked for
  abbrev pub Fresh : ℕ → Bytes → Type 0
  Fresh p k = c ≡ true → is_some (find (read_by false d) turns k (Some p) first (drop first src)) ≡ false

  module _ (p : ℕ) (z : Got Unit) (h : p ≤ length src) where
    -- at the mark that closes it
    pub entered_close : (q : ℕ) → next_in src p ≡ closes → EndsAt src p q → Entered p z → ok tt q (drop q src) ≡ z
    unfolding entries_by entry_at_by
    entered_close q w t (zero, es, l, r, e) = absurd (omega arith)
    entered_close q w t (suc n, es, l, r, e) = ap (λ x. ok tt x (drop q src)) (sym t.to) ∙ ap (λ x. ok tt (token_in src p).to x) (sym t.rest) ∙ (rw (w, entries_by, entry_at_by) at e)

    -- at what is no key
    pub entered_refuse : (f : Fault) → next_in src p ≡ fails f → Entered p z → bad f ≡ z
    unfolding entries_by entry_at_by
    entered_refuse f w (zero, es, l, r, e) = absurd (omega arith)
    entered_refuse f w (suc n, es, l, r, e) = rw (w, entries_by, entry_at_by) at e

    module _ (k : Bytes) (w : next_in src p ≡ key k) where
      -- a key that a walk met before
      pub entered_again : length src < turns → c ≡ true → is_some (find (read_by false d) turns k (Some p) first (drop first src)) ≡ true → Entered p z →
          bad (object_fault KeyAgain (token_in src p).from) ≡ z
      unfolding entries_by entry_at_by keyed_by
      entered_again m t u (zero, es, l, r, e) = absurd (omega arith)
      entered_again m t u (suc n, es, l, r, e) =
          let met : holds k es ≡ true = sym (walk_meets (read_by false d) src turns k first es p (road_above (read_by c d) (read_by false d) (read_above c d) src first es p r) (omega arith)) ∙ u in
          let both : c && holds k es ≡ true = rw (t, met) refl in
          rw (w, entries_by, entry_at_by, both, keyed_by) at e

      fresh : length src < turns → Fresh p k → (es : Entries) → Road (read_by c d) src first es p → c && holds k es ≡ false
      fresh m f es r =
          cases c
          (λ t.
          let met : holds k es ≡ false = sym (walk_meets (read_by false d) src turns k first es p (road_above (read_by c d) (read_by false d) (read_above c d) src first es p r) (omega arith)) ∙ f t in
          rw (t, met) refl)
          (λ t. rw t refl)

      module _ (m : length src < turns) (f : Fresh p k) (v : ℕ) (at : skip false (token_in src p).to (token_in src p).rest ≡ (v, drop v src)) where
        -- a value that is refused
        pub entered_fail : (g : Fault) → bad g ≡ shaped (read_by c d v (drop v src)) → Entered p z → bad g ≡ z
        unfolding entries_by entry_at_by keyed_by valued
        entered_fail g u (zero, es, l, r, e) = absurd (omega arith)
        entered_fail g u (suc n, es, l, r, e) =
            let b = fresh m f es r in
            let x = shaped_bad (read_by c d v (drop v src)) g u in
            rw (w, entries_by, entry_at_by, b, keyed_by, at, x) at e

        -- behind one more entry
        pub entered_more : (s : Shape) (q : ℕ) → ok s q (drop q src) ≡ shaped (read_by c d v (drop v src)) → p < q → Entered p z → Entered q z
        unfolding entries_by entry_at_by keyed_by valued
        entered_more s q u lt (zero, es, l, r, e) = absurd (omega arith)
        entered_more s q u lt (suc n, es, l, r, e) = go (shaped_ok (read_by c d v (drop v src)) s q (drop q src) u)
          where
            go : ((o : Obj) × (read_by c d v (drop v src) ≡ ok o q (drop q src)) × (s ≡ shape_of o)) → Entered q z
            go (o, g, _) =
                let b = fresh m f es r in
                let t = token_in src p in
                let kb = up_to t.from t.bytes t.to in
                let vb = up_to v (drop v src) q in (
                  n,
                  more_entries k kb vb o es,
                  omega arith,
                  (p, r, lt, w, rw at g),
                  sym (bare_then (entries_by c (read_by c d) n (more_entries k kb vb o es) q (drop q src)) (λ es'. more_entries k kb vb o es')) ∙ (rw (w, entries_by, entry_at_by, b, keyed_by, at, g) at e),
                )

module _ (elem : Reader) (src k : Bytes) (stop : Option ℕ) where
  -- what a walk from p on finds is z, with turns enough
  abbrev pub Walking : ℕ → Option Value → Type 0
  Walking p z = (n : ℕ) × (length src < n + p) × (find elem n k stop p (drop p src) ≡ z)

  module _ (p : ℕ) (z : Option Value) (h : p ≤ length src) where
    -- where it has to stop
    pub walking_stops : reached stop p ≡ true → Walking p z → None ≡ z
    unfolding find
    walking_stops r (zero, l, e) = absurd (omega arith)
    walking_stops r (suc n, l, e) = rw (r, find) at e

    module _ (r : reached stop p ≡ false) where
      -- at what is no key
      pub walking_closes : next_in src p ≡ closes → Walking p z → None ≡ z
      unfolding find find_at
      walking_closes w (zero, l, e) = absurd (omega arith)
      walking_closes w (suc n, l, e) = rw (r, find, w) at e

      pub walking_refuses : (f : Fault) → next_in src p ≡ fails f → Walking p z → None ≡ z
      unfolding find find_at
      walking_refuses f w (zero, l, e) = absurd (omega arith)
      walking_refuses f w (suc n, l, e) = rw (r, find, w) at e

      module _ (j : Bytes) (w : next_in src p ≡ key j) (v : ℕ) (at : skip false (token_in src p).to (token_in src p).rest ≡ (v, drop v src)) where
        valued_at : (n : ℕ) → find elem (suc n) k stop p (drop p src) ≡ passing (find elem n k stop) (same k j) v (elem v (drop v src))
        unfolding find find_at value_behind
        valued_at n = rw (r, find, w, at) refl

        -- at a value that is refused
        pub walking_fails : (f : Fault) → bad f ≡ shaped (elem v (drop v src)) → Walking p z → None ≡ z
        unfolding passing value_at beyond
        walking_fails f u (zero, l, e) = absurd (omega arith)
        walking_fails f u (suc n, l, e) =
            let x = shaped_bad (elem v (drop v src)) f u in
            let y : passing (find elem n k stop) (same k j) v (bad f) ≡ z = rw x at (sym (valued_at n) ∙ e) in
            cases (same k j) (λ b. rw (b, passing) at y) (λ b. rw (b, passing) at y)

        -- at the value that is looked for
        pub walking_finds : (s : Shape) (q : ℕ) → same k j ≡ true → ok s q (drop q src) ≡ shaped (elem v (drop v src)) → Walking p z → Some (record { start = v; end = q; shape = s }) ≡ z
        unfolding passing value_at beyond
        walking_finds s q b u (zero, l, e) = absurd (omega arith)
        walking_finds s q b u (suc n, l, e) = go (shaped_ok (elem v (drop v src)) s q (drop q src) u)
          where
            go : ((o : Obj) × (elem v (drop v src) ≡ ok o q (drop q src)) × (s ≡ shape_of o)) → Some (record { start = v; end = q; shape = s }) ≡ z
            go (o, g, i) = rw i (rw (b, g, passing) at (sym (valued_at n) ∙ e))

        -- behind another value
        pub walking_more : (s : Shape) (q : ℕ) → same k j ≡ false → ok s q (drop q src) ≡ shaped (elem v (drop v src)) → p < q → Walking p z → Walking q z
        unfolding passing value_at beyond
        walking_more s q b u lt (zero, l, e) = absurd (omega arith)
        walking_more s q b u lt (suc n, l, e) = go (shaped_ok (elem v (drop v src)) s q (drop q src) u)
          where
            go : ((o : Obj) × (elem v (drop v src) ≡ ok o q (drop q src)) × (s ≡ shape_of o)) → Walking q z
            go (o, g, i) = (n, omega arith, rw (b, g, passing) at (sym (valued_at n) ∙ e))
