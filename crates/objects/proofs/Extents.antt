-- What is read with the check for keys that stood before is read without it.
use Rattle.std.proofs.Common.{◌≡◌, ℕ, zero, suc, Bool, true, false, ◌&&◌, refl, ap, ◌∙◌}
use Rattle.format.specs.Bytes.{Bytes, Got, ok, bad, then, up_to}
use Rattle.format.specs.Strings.{turns}
use Rattle.format.specs.Tokens.{open_array, close_array, open_dict, close_dict, Kind, int, real, name, text, hex, mark, word, ended, flawed, Token, token_at}
use Rattle.format.specs.Objects.{Obj, dict, Objs, Entries, no_entries, more_entries, Reader, More, mark_obj, of_token, closes_array, items, holds, Next, closes, key, fails, next, valued, keyed, entry_at, entries, one, in_array, in_dict, object_by}
use Rattle.objects.specs.Extents.{keyed_by, entry_at_by, entries_by, in_dict_by, read_by}
use Rattle.objects.specs.Theorems.{Skips}
use Rattle.objects.proofs.Cases.{cases, never}

-- with the check, the entries are those of the definition
pub entries_checked : (elem : Reader) (n : ℕ) (seen : Entries) (p : ℕ) (xs : Bytes) → entries_by true elem n seen p xs ≡ entries elem n seen p xs
unfolding entries_by entries entry_at_by entry_at keyed_by keyed
entries_checked elem zero seen p xs = refl
entries_checked elem (suc n) seen p xs = let m : entries_by true elem n ≡ entries elem n = λ i s q ys. entries_checked elem n s q ys i in ap (λ (f : More). entry_at elem f seen (token_at p xs)) m

-- with the check, an object is that of the definition
pub read_checked : (d p : ℕ) (xs : Bytes) → read_by true d p xs ≡ object_by d p xs
unfolding read_by object_by in_dict_by in_dict
read_checked zero p xs = refl
read_checked (suc d) p xs =
    let e : read_by true d ≡ object_by d = λ i q ys. read_checked d q ys i in
    let f : in_dict_by true (read_by true d) ≡ in_dict (object_by d) = ap (λ (r : Reader). in_dict_by true r) e ∙ (λ i s q ys. then (entries_checked (object_by d) turns no_entries q ys i) (λ es r zs. ok (dict es) r zs)) in
    ap (λ (r : Reader). one (in_array r) (in_dict_by true (read_by true d)) p xs) e ∙ ap (λ (r : ℕ → Reader). one (in_array (object_by d)) r p xs) f

-- what the first reader answers, the second answers too
abbrev pub Above : Reader → Reader → Type 0
Above r s = (p : ℕ) (xs : Bytes) (o : Obj) (q : ℕ) (ys : Bytes) → r p xs ≡ ok o q ys → s p xs ≡ ok o q ys

-- one reader after another
above_then : {A B : Type 0} (r s : Got A) (k l : A → ℕ → Bytes → Got B) (b : B) (q : ℕ) (rest : Bytes) →
    ((a : A) (p : ℕ) (ys : Bytes) → r ≡ ok a p ys → s ≡ ok a p ys) →
    ((a : A) (p : ℕ) (ys : Bytes) → k a p ys ≡ ok b q rest → l a p ys ≡ ok b q rest) → then r k ≡ ok b q rest → then s l ≡ ok b q rest
above_then (bad f) s k l b q rest h g e = never e
above_then (ok a p ys) s k l b q rest h g e = rw (h a p ys refl) (g a p ys e)

module _ (r s : Reader) (up : Above r s) where
  pub items_above : (n p : ℕ) (xs : Bytes) (os : Objs) (q : ℕ) (ys : Bytes) → items r n p xs ≡ ok os q ys → items s n p xs ≡ ok os q ys
  unfolding items
  items_above zero p xs os q ys e = never e
  items_above (suc n) p xs os q ys e =
      cases (closes_array (token_at p xs).kind)
      (λ b. rw (b, items) (rw (b, items) at e))
      (λ b. rw (b, items)
      (above_then (r p xs) (s p xs) _ _ os q ys (λ a u zs h. up p xs a u zs h)
      (λ a u zs h. above_then (items r n u zs) (items s n u zs) _ _ os q ys (λ c v ws g. items_above n u zs c v ws g) (λ c v ws g. g) h)
      (rw (b, items) at e)))

  valued_above : (m l : More) → ((seen : Entries) (p : ℕ) (xs : Bytes) (es : Entries) (q : ℕ) (ys : Bytes) → m seen p xs ≡ ok es q ys → l seen p xs ≡ ok es q ys) →
      (seen : Entries) (k kb : Bytes) (z : ℕ × Bytes) (es : Entries) (q : ℕ) (ys : Bytes) → valued r m seen k kb z ≡ ok es q ys → valued s l seen k kb z ≡ ok es q ys
  unfolding valued
  valued_above m l f seen k kb z es q ys e =
      above_then (r z.0 z.1) (s z.0 z.1) _ _ es q ys (λ a u zs h. up z.0 z.1 a u zs h)
      (λ a u zs h. above_then (m (more_entries k kb (up_to z.0 z.1 u) a seen) u zs) (l (more_entries k kb (up_to z.0 z.1 u) a seen) u zs) _ _ es q ys (λ c v ws g. f _ u zs c v ws g) (λ c v ws g. g) h)
      e

  keyed_above : (c : Bool) (m l : More) → ((seen : Entries) (p : ℕ) (xs : Bytes) (es : Entries) (q : ℕ) (ys : Bytes) → m seen p xs ≡ ok es q ys → l seen p xs ≡ ok es q ys) →
      (seen : Entries) (k : Bytes) (t : Token) (es : Entries) (q : ℕ) (ys : Bytes) → keyed_by c r m seen k t ≡ ok es q ys → keyed_by false s l seen k t ≡ ok es q ys
  unfolding keyed_by
  keyed_above c m l f seen k t es q ys e =
      cases (c && holds k seen) (λ b. never (rw (b, keyed_by) at e)) (λ b. valued_above m l f seen k _ _ es q ys (rw (b, keyed_by) at e))

  entry_above : (c : Bool) (m l : More) → ((seen : Entries) (p : ℕ) (xs : Bytes) (es : Entries) (q : ℕ) (ys : Bytes) → m seen p xs ≡ ok es q ys → l seen p xs ≡ ok es q ys) →
      (seen : Entries) (t : Token) (w : Next) → next t.from t.kind ≡ w → (es : Entries) (q : ℕ) (ys : Bytes) → entry_at_by c r m seen t ≡ ok es q ys → entry_at_by false s l seen t ≡ ok es q ys
  unfolding entry_at_by
  entry_above c m l f seen t closes w es q ys e = rw (w, entry_at_by) (rw (w, entry_at_by) at e)
  entry_above c m l f seen t (key k) w es q ys e = rw (w, entry_at_by) (keyed_above c m l f seen k t es q ys (rw (w, entry_at_by) at e))
  entry_above c m l f seen t (fails g) w es q ys e = never (rw (w, entry_at_by) at e)

  -- entries that are read are read without the check
  pub entries_above : (c : Bool) (n : ℕ) (seen : Entries) (p : ℕ) (xs : Bytes) (es : Entries) (q : ℕ) (ys : Bytes) → entries_by c r n seen p xs ≡ ok es q ys → entries_by false s n seen p xs ≡ ok es q ys
  unfolding entries_by
  entries_above c zero seen p xs es q ys e = never e
  entries_above c (suc n) seen p xs es q ys e =
      entry_above c (entries_by c r n) (entries_by false s n) (λ seen p xs es q ys h. entries_above c n seen p xs es q ys h) seen (token_at p xs) _ refl es q ys e

one_above : (A B C D : ℕ → Reader) → ((z : ℕ) → Above (A z) (C z)) → ((z : ℕ) → Above (B z) (D z)) → Above (one A B) (one C D)
unfolding one of_token mark_obj
one_above A B C D f g p xs o q ys e = go (token_at p xs).kind e
  where
    go : (k : Kind) → of_token (A (token_at p xs).from) (B (token_at p xs).from) k (token_at p xs) ≡ ok o q ys → of_token (C (token_at p xs).from) (D (token_at p xs).from) k (token_at p xs) ≡ ok o q ys
    go (int u v) h = h
    go (real w) h = h
    go (name d) h = h
    go (text w) h = h
    go (hex w) h = h
    go (word w) h = h
    go (mark open_array) h = f (token_at p xs).from _ _ o q ys h
    go (mark open_dict) h = g (token_at p xs).from _ _ o q ys h
    go (mark close_array) h = h
    go (mark close_dict) h = h
    go ended h = h
    go (flawed v) h = h

-- what is read with or without the check is read without it
pub read_above : (c : Bool) (d : ℕ) → Above (read_by c d) (read_by false d)
unfolding read_by in_array in_dict_by
read_above c zero p xs o q ys e = e
read_above c (suc d) p₀ xs₀ o₀ q₀ ys₀ e₀ =
    one_above _ _ _ _
    (λ z p xs o q ys e. above_then (items (read_by c d) turns p xs) (items (read_by false d) turns p xs) _ _ o q ys (λ a u zs h. items_above _ _ (read_above c d) turns p xs a u zs h) (λ a u zs h. h) e)
    (λ z p xs o q ys e. above_then (entries_by c (read_by c d) turns no_entries p xs) (entries_by false (read_by false d) turns no_entries p xs) _ _ o q ys (λ a u zs h. entries_above _ _ (read_above c d) c turns no_entries p xs a u zs h) (λ a u zs h. h) e)
    p₀ xs₀ o₀ q₀ ys₀ e₀

-- what the definition reads is read without the check
pub skips : Skips
skips d p xs o q ys e = read_above true d p xs o q ys (read_checked d p xs ∙ e)
