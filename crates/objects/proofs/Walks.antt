-- A walk over the entries of a dictionary meets the keys that stood before, and finds the value of a key.
use Rattle.std.proofs.Common.{◌≡◌, ℕ, zero, suc, ◌+◌, ◌-◌, ◌<◌, ◌≤◌, Bool, true, false, ◌&&◌, ◌||◌, leb, drop, is_some, Some, None, Option, sym, refl, ap, ◌∙◌, arith, le-leb}
use borrow.Author.Tests.{lt-leb}
use Rattle.format.specs.Bytes.{Bytes, Got, ok, then, up_to, same}
use Rattle.format.specs.Space.{skip}
use Rattle.format.specs.Strings.{turns}
use Rattle.format.specs.Tokens.{token_at}
use Rattle.format.specs.Objects.{Obj, Entries, no_entries, more_entries, Reader, holds, Next, closes, key, fails, next, valued, value_of, object_by}
use Rattle.objects.specs.declared.shape.Value.{Value}
use Rattle.objects.specs.Shapes.{shaped_maybe, shape_in}
use Rattle.objects.specs.Theorems.{Finds}
use Rattle.objects.specs.Extents.{keyed_by, entry_at_by, entries_by, reached, value_at, beyond, passing, value_behind, find_at, find, read_by}
use Rattle.objects.specs.Steps.{token_in, next_in}
use Rattle.objects.proofs.Cases.{cases, never, then_ok}
use Rattle.objects.proofs.Extents.{Above, entries_checked, skips}

-- the value behind the key at a place of the bytes
abbrev pub value_in : Reader → Bytes → ℕ → Got Obj
value_in elem src p = elem (skip false (token_in src p).to (token_in src p).rest).0 (skip false (token_in src p).to (token_in src p).rest).1

-- from the place `first` on, the entries es, the last first, stand up to the place `at`
abbrev pub Road : Reader → Bytes → ℕ → Entries → ℕ → Type 0
Road elem src first no_entries at = first ≡ at
Road elem src first (more_entries k kb vb o es) at =
    (p : ℕ) × Road elem src first es p × (p < at) × (next_in src p ≡ key k) × (value_in elem src p ≡ ok o at (drop at src))

abbrev pub count : Entries → ℕ
count no_entries = 0
count (more_entries k kb vb o es) = suc (count es)

-- each entry takes a byte
pub road_long : (elem : Reader) (src : Bytes) (first : ℕ) (es : Entries) (at : ℕ) → Road elem src first es at → first + count es ≤ at
road_long elem src first no_entries at r = omega arith
road_long elem src first (more_entries k kb vb o es) at (p, r, l, e, f) = let h = road_long elem src first es p r in omega arith

-- with another reader that answers the same
pub road_above : (r s : Reader) → Above r s → (src : Bytes) (first : ℕ) (es : Entries) (at : ℕ) → Road r src first es at → Road s src first es at
road_above r s up src first no_entries at h = h
road_above r s up src first (more_entries k kb vb o es) at (p, h, l, e, f) = (p, road_above r s up src first es p h, l, e, up _ _ o at (drop at src) f)

or_turned : (a b c : Bool) → (a || b) || c ≡ b || (a || c)
or_turned true true c = refl
or_turned true false c = refl
or_turned false true c = refl
or_turned false false c = refl

or_false : (a : Bool) → a || false ≡ a
or_false true = refl
or_false false = refl

-- one entry of a walk
walk_one : (elem : Reader) (src : Bytes) (n : ℕ) (k j : Bytes) (o : Obj) (stop p at : ℕ) → leb stop p ≡ false → next_in src p ≡ key j → value_in elem src p ≡ ok o at (drop at src) →
    is_some (find elem (suc n) k (Some stop) p (drop p src)) ≡ same k j || is_some (find elem n k (Some stop) at (drop at src))
unfolding find reached find_at value_behind passing value_at beyond
walk_one elem src n k j o stop p at l e f =
    cases (same k j) (λ b. rw (l, e, b, f, find, passing) refl) (λ b. rw (l, e, b, f, find, passing) refl)

-- a walk along a road, and on
walk_on : (elem : Reader) (src : Bytes) (n : ℕ) (k : Bytes) (stop first : ℕ) (es : Entries) (at : ℕ) → Road elem src first es at → at ≤ stop →
    is_some (find elem (n + count es) k (Some stop) first (drop first src)) ≡ holds k es || is_some (find elem n k (Some stop) at (drop at src))
unfolding holds
walk_on elem src n k stop first no_entries at r l = let e : n + 0 ≡ n = omega arith in rw (e, r) refl
walk_on elem src n k stop first (more_entries j kb vb o es) at (p, r, h, e, f) l =
    let m : n + suc (count es) ≡ suc n + count es = omega arith in
    let b : leb stop p ≡ false = lt-leb stop p (omega arith) in
    rw m
    (walk_on elem src (suc n) k stop first es p r (omega arith)
    ∙ ap (λ x. holds k es || x) (walk_one elem src n k j o stop p at b e f)
    ∙ sym (or_turned (same k j) (holds k es) _))

at_stop : (elem : Reader) (src : Bytes) (n : ℕ) (k : Bytes) (at : ℕ) → is_some (find elem n k (Some at) at (drop at src)) ≡ false
unfolding find reached
at_stop elem src zero k at = refl
at_stop elem src (suc n) k at = let b : leb at at ≡ true = le-leb at at (omega arith) in rw (b, find) refl

-- a walk up to a place meets the keys that stand before it
pub walk_meets : (elem : Reader) (src : Bytes) (m : ℕ) (k : Bytes) (first : ℕ) (es : Entries) (at : ℕ) → Road elem src first es at → at ≤ m →
    is_some (find elem m k (Some at) first (drop first src)) ≡ holds k es
walk_meets elem src m k first es at r l =
    let c = road_long elem src first es at r in
    let e : m ≡ (m - count es) + count es = omega arith in
    rw e (walk_on elem src (m - count es) k at first es at r (omega arith) ∙ ap (λ x. holds k es || x) (at_stop elem src (m - count es) k at) ∙ or_false (holds k es))

-- what entries that were read have next
module _ (c : Bool) (r s : Reader) (up : Above r s) (k : Bytes) where
  -- what the walk has found is what the tree has
  abbrev Same : Option Value → Entries → Type 0
  Same v es = shape_in v ≡ shaped_maybe (value_of k es)

  find_valued : (n : ℕ) (seen : Entries) (j kb : Bytes) (z : ℕ × Bytes) (es : Entries) (q : ℕ) (ys : Bytes) →
      ((seen : Entries) (p : ℕ) (xs : Bytes) (es : Entries) (q : ℕ) (ys : Bytes) → entries_by c r n seen p xs ≡ ok es q ys → Same (find s n k None p xs) es) →
      valued r (entries_by c r n) seen j kb z ≡ ok es q ys → Same (value_behind s (find s n k None) (same k j) z) es
  unfolding valued value_behind passing value_at beyond value_of
  find_valued n seen j kb z es q ys ih v = go (then_ok (r z.0 z.1) _ es q ys v)
    where
      go : ((o : Obj) × (p : ℕ) × (zs : Bytes) × (r z.0 z.1 ≡ ok o p zs)
          × (then (entries_by c r n (more_entries j kb (up_to z.0 z.1 p) o seen) p zs) (λ es' a ws. ok (more_entries j kb (up_to z.0 z.1 p) o es') a ws) ≡ ok es q ys)) →
          Same (value_behind s (find s n k None) (same k j) z) es
      go (o, p, zs, e, f) = at (then_ok (entries_by c r n (more_entries j kb (up_to z.0 z.1 p) o seen) p zs) _ es q ys f)
        where
          at : ((es' : Entries) × (a : ℕ) × (ws : Bytes) × (entries_by c r n (more_entries j kb (up_to z.0 z.1 p) o seen) p zs ≡ ok es' a ws)
              × (◌≡◌ {A = Got Entries} (ok (more_entries j kb (up_to z.0 z.1 p) o es') a ws) (ok es q ys))) →
              Same (value_behind s (find s n k None) (same k j) z) es
          at (es', a, ws, g, h) =
              let y : more_entries j kb (up_to z.0 z.1 p) o es' ≡ es = cc in
              let m = up z.0 z.1 o p zs e in
              let i = ih _ p zs es' a ws g in
              rw (← y) (cases (same k j) (λ b. rw (b, m, passing) (rw (b, value_of) refl)) (λ b. rw (b, m, passing) (rw (b, value_of) i)))

  find_entry : (n : ℕ) (seen : Entries) (p : ℕ) (xs : Bytes) →
      ((seen : Entries) (p : ℕ) (xs : Bytes) (es : Entries) (q : ℕ) (ys : Bytes) → entries_by c r n seen p xs ≡ ok es q ys → Same (find s n k None p xs) es) →
      (w : Next) → next (token_at p xs).from (token_at p xs).kind ≡ w → (es : Entries) (q : ℕ) (ys : Bytes) →
      entry_at_by c r (entries_by c r n) seen (token_at p xs) ≡ ok es q ys → Same (find_at s (find s n k None) k (token_at p xs) w) es
  unfolding entry_at_by keyed_by valued find_at value_behind passing value_at beyond value_of
  find_entry n seen p xs ih (fails f) e es q ys h = never (rw (e, entry_at_by) at h)
  find_entry n seen p xs ih closes e es q ys h =
      let z : ◌≡◌ {A = Got Entries} (ok no_entries (token_at p xs).to (token_at p xs).rest) (ok es q ys) = rw (e, entry_at_by) at h in
      let y : no_entries ≡ es = cc in rw (← y) refl
  find_entry n seen p xs ih (key j) e es q ys h =
      cases (c && holds j seen) (λ b. never (rw (e, entry_at_by, b, keyed_by) at h)) (λ b. find_valued n seen j _ _ es q ys ih (rw (e, entry_at_by, b, keyed_by) at h))

  find_read : (n : ℕ) (seen : Entries) (p : ℕ) (xs : Bytes) (es : Entries) (q : ℕ) (ys : Bytes) → entries_by c r n seen p xs ≡ ok es q ys → Same (find s n k None p xs) es
  unfolding entries_by find reached
  find_read zero seen p xs es q ys e = never e
  find_read (suc n) seen p xs es q ys e = find_entry n seen p xs (λ seen p xs es q ys h. find_read n seen p xs es q ys h) _ refl es q ys e

-- in a dictionary that is accepted, a walk finds the value of each key
pub finds : Finds
finds d p xs es q ys k e =
    let checked : entries_by true (object_by d) turns no_entries p xs ≡ ok es q ys = entries_checked (object_by d) turns no_entries p xs ∙ e in
    find_read true (object_by d) (read_by false d) (skips d) k turns no_entries p xs es q ys checked
