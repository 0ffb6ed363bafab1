-- The entries of a dictionary that was accepted, one by one, are those of its tree.
use Rattle.std.proofs.Common.{◌≡◌, ℕ, zero, suc, ◌-◌, ◌<◌, ◌≤◌, false, leb, length, take, drop, sym, refl, ap, ◌∙◌, arith, leb-false, leb-true}
use Rattle.format.specs.Bytes.{Bytes, Got, ok, then, up_to}
use Rattle.format.specs.Space.{skip}
use Rattle.format.specs.Strings.{turns}
use Rattle.format.specs.Objects.{Obj, Entries, no_entries, more_entries, object_by, holds, Next, closes, key, fails, valued, keyed, entry_at, entries}
use Rattle.objects.specs.EntryByEntry.{EntryStands, EntriesFrom}
use Rattle.objects.specs.Extents.{read_by, value_at}
use Rattle.objects.specs.Nexts.{entry_of, entry_from}
use Rattle.objects.specs.Shapes.{shape_of}
use Rattle.objects.specs.Steps.{bare, token_in, next_in}
use Rattle.objects.specs.Theorems.{Lists}
use Rattle.objects.proofs.Cases.{cases, never, then_ok}
use Rattle.objects.proofs.Ends.{entries_past}
use Rattle.objects.proofs.Extents.{skips}
use Rattle.objects.proofs.Nexts.{entry_closes}
use Rattle.objects.proofs.Places.{At, Past, at_drop, skip_past}
use Rattle.objects.proofs.PlacesOfTokens.{TokenIn, token_in_fact}
use Rattle.objects.proofs.PlacesOfObjects.{NextIn, next_at, object_in}

module _ (src : Bytes) where
  -- the entries of the tree behind the place q
  abbrev Rest : ℕ → Type 0
  Rest n = (seen : Entries) (p : ℕ) (es : Entries) (q : ℕ) (ys : Bytes) → p ≤ length src → entries (object_by 31) n seen p (drop p src) ≡ ok es q ys → EntriesFrom src p es

  -- where an accepted value ends
  value_at_fact : (s : ℕ) (zs : Bytes) (o : Obj) (q : ℕ) (ys : Bytes) → At src s zs → object_by 31 s zs ≡ ok o q ys → (s < q) × At src q ys
  value_at_fact s zs o q ys a e = let w = object_in src 31 s zs a in rw e at w

  module _ (p : ℕ) (i : TokenIn src p (token_in src p)) (k : Bytes) (e : next_in src p ≡ key k) (x : NextIn src (token_in src p).from (token_in src p).to (key k)) where
    abbrev gap : ℕ × Bytes
    gap = skip false (token_in src p).to (token_in src p).rest

    abbrev spelling : Bytes
    spelling = up_to (token_in src p).from (token_in src p).bytes (token_in src p).to

    gap_at : Past src (token_in src p).to gap.0 gap.1
    gap_at = skip_past src false (token_in src p).to (token_in src p).rest i.ends.at

    -- one entry
    stands : (o : Obj) (q : ℕ) (ys : Bytes) → object_by 31 gap.0 gap.1 ≡ ok o q ys →
        EntryStands src p k spelling (up_to gap.0 gap.1 q) o
        (record { key = (token_in src p).from; behind = (token_in src p).to; value = record { start = gap.0; end = q; shape = shape_of o } })
    unfolding up_to value_at
    stands o q ys v =
        let w = value_at_fact gap.0 gap.1 o q ys gap_at.at v in
        let c = w.1.count in
        record {
          found = ap (entry_from (read_by false 31) (token_in src p)) e ∙ ap (λ z. entry_of (token_in src p) (value_at gap.0 z)) (skips 31 gap.0 gap.1 o q ys v);
          name = x.1;
          key_bytes = ap (take ((token_in src p).to - (token_in src p).from)) (sym i.bytes.there);
          value_bytes = ap (take (q - gap.0)) (sym gap_at.at.there);
          shape = refl;
          reads = ap (object_by 31 gap.0) gap_at.at.there ∙ v ∙ ap (ok o q) (sym w.1.there);
          starts = i.starts;
          named = x.0;
          apart = gap_at.low;
          valued = w.0;
          ends = omega arith;
        }

    -- an entry and those behind it
    more : (n : ℕ) (seen es : Entries) (q : ℕ) (ys : Bytes) → Rest n →
        valued (object_by 31) (entries (object_by 31) n) seen k spelling gap ≡ ok es q ys → EntriesFrom src p es
    unfolding valued
    more n seen es q ys ih v = go (then_ok (object_by 31 gap.0 gap.1) _ es q ys v)
      where
        go : ((o : Obj) × (r : ℕ) × (zs : Bytes) × (object_by 31 gap.0 gap.1 ≡ ok o r zs)
            × (then (entries (object_by 31) n (more_entries k spelling (up_to gap.0 gap.1 r) o seen) r zs)
            (λ fs a ws. ok (more_entries k spelling (up_to gap.0 gap.1 r) o fs) a ws) ≡ ok es q ys)) → EntriesFrom src p es
        go (o, r, zs, f, g) = at (then_ok (entries (object_by 31) n (more_entries k spelling (up_to gap.0 gap.1 r) o seen) r zs) _ es q ys g)
          where
            at : ((fs : Entries) × (a : ℕ) × (ws : Bytes)
                × (entries (object_by 31) n (more_entries k spelling (up_to gap.0 gap.1 r) o seen) r zs ≡ ok fs a ws)
                × (◌≡◌ {A = Got Entries} (ok (more_entries k spelling (up_to gap.0 gap.1 r) o fs) a ws) (ok es q ys))) → EntriesFrom src p es
            at (fs, a, ws, m, h) =
                let y : more_entries k spelling (up_to gap.0 gap.1 r) o fs ≡ es = cc in
                let w = value_at_fact gap.0 gap.1 o r zs gap_at.at f in
                let c = w.1.count in
                let d = w.1.there in
                rw (← y)
                (record { key = (token_in src p).from; behind = (token_in src p).to; value = record { start = gap.0; end = r; shape = shape_of o } }, stands o r zs f, ih (more_entries k spelling (up_to gap.0 gap.1 r) o seen) r fs a ws (omega arith) (rw d m))

  rest : (n : ℕ) → Rest n
  unfolding entries entry_at keyed
  rest zero seen p es q ys h e = never e
  rest (suc n) seen p es q ys h e = go (rest n) (next_in src p) refl (next_at src p (token_in src p) i)
    where
      i : TokenIn src p (token_in src p)
      i = token_in_fact src p (drop p src) (at_drop src p h)

      go : Rest n → (w : Next) → next_in src p ≡ w → NextIn src (token_in src p).from (token_in src p).to w → EntriesFrom src p es
      go ih closes f x =
          let z : ◌≡◌ {A = Got Entries} (ok no_entries (token_in src p).to (token_in src p).rest) (ok es q ys) = rw (f, entry_at) at e in
          let y : no_entries ≡ es = cc in rw (← y) (sym (entry_closes src p f))
      go ih (fails g) f x = never (rw (f, entry_at) at e)
      go ih (key k) f x =
          cases (holds k seen)
          (λ b. never (rw (f, entry_at, b, keyed) at e))
          (λ b. more p i k f x n seen es q ys ih (rw (f, entry_at, b, keyed) at e))

-- in a dictionary that was accepted, the entries one by one are those of its tree
pub lists : Lists
lists src p es q ys e =
    cases (leb p (length src))
    (λ b. rest src turns no_entries p es q ys (leb-true p (length src) b) e)
    (λ b. never (entries_past src p (let h = leb-false p (length src) b in omega arith) ∙ ap bare e))
