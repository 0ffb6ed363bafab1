-- An object and a frame are the same where every place is later by as much.
use Rattle.std.proofs.Common.{◌≡◌, ℕ, zero, suc, ◌+◌, Bool, true, false, ◌&&◌, leb, ℤ, pos, negsuc, Some, None, codes, Option, refl, ap, ◌∙◌}
use Rattle.format.specs.Bytes.{Bytes, Got, ok, bad, then, up_to, same}
use Rattle.format.specs.Space.{skip}
use Rattle.format.specs.Strings.{turns}
use Rattle.format.specs.Tokens.{open_array, close_array, open_dict, close_dict, Kind, int, real, name, text, hex, mark, word, ended, flawed, Token, token_at}
use Rattle.format.specs.Objects.{Obj, Entries, no_entries, more_entries, Reader, More, plain_int, plain_word, is_word, ref_mark, ref_rest, tried, trial, word_obj, mark_obj, of_token, closes_array, items, holds, Next, closes, key, fails, next, valued, keyed, entry_at, entries, one, too_deep, in_array, in_dict, object_by}
use Rattle.objects.specs.Shifts.{later_fault, later, later_kind, later_token}
use Rattle.objects.proofs.Cases.{cases, cases_o}
use Rattle.objects.proofs.ShiftedTokens.{up_to_later, skip_later, token_later, flaw_later}

module _ (b : ℕ) where
  -- a reader that answers the same where every place is later by b
  abbrev pub Moves : {A : Type 0} → (ℕ → Bytes → Got A) → Type 0
  Moves r = (p : ℕ) (xs : Bytes) → r (b + p) xs ≡ later b (r p xs)

  -- one reader after another
  pub then_later : {A B : Type 0} (r : Got A) (k l : A → ℕ → Bytes → Got B) → ((a : A) (q : ℕ) (ys : Bytes) → k a (b + q) ys ≡ later b (l a q ys)) →
      then (later b r) k ≡ later b (then r l)
  then_later (ok a q ys) k l h = h a q ys
  then_later (bad f) k l h = refl

  pub plain_int_later : (k : Kind) → plain_int (later_kind b k) ≡ plain_int k
  unfolding plain_int
  plain_int_later (int true (pos n)) = refl
  plain_int_later (int true (negsuc n)) = refl
  plain_int_later (int false z) = refl
  plain_int_later (real w) = refl
  plain_int_later (name d) = refl
  plain_int_later (text w) = refl
  plain_int_later (hex w) = refl
  plain_int_later (mark m) = refl
  plain_int_later (word w) = refl
  plain_int_later ended = refl
  plain_int_later (flawed f) = refl

  plain_word_later : (k : Kind) → plain_word (later_kind b k) ≡ plain_word k
  unfolding plain_word
  plain_word_later (int u z) = refl
  plain_word_later (real w) = refl
  plain_word_later (name d) = refl
  plain_word_later (text w) = refl
  plain_word_later (hex w) = refl
  plain_word_later (mark m) = refl
  plain_word_later (word w) = refl
  plain_word_later ended = refl
  plain_word_later (flawed f) = refl

  pub is_word_later : (w : Bytes) (k : Kind) → is_word w (later_kind b k) ≡ is_word w k
  unfolding is_word
  is_word_later w k = rw (plain_word_later k, is_word) refl

  abbrev later_found : Option (Obj × ℕ × Bytes) → Option (Obj × ℕ × Bytes)
  later_found (Some r) = Some (r.0, b + r.1, r.2)
  later_found None = None

  ref_mark_later : (n g : ℕ) (t : Token) → ref_mark n g (later_token b t) ≡ later_found (ref_mark n g t)
  unfolding ref_mark
  ref_mark_later n g t =
      let w = is_word_later (codes "R") t.kind in
      cases (is_word (codes "R") t.kind) (λ e. let f : is_word (codes "R") (later_kind b t.kind) ≡ true = w ∙ e in rw (e, f, ref_mark) refl)
      (λ e. let f : is_word (codes "R") (later_kind b t.kind) ≡ false = w ∙ e in rw (e, f, ref_mark) refl)

  ref_rest_later : (n : ℕ) (t : Token) → ref_rest n (later_token b t) ≡ later_found (ref_rest n t)
  unfolding ref_rest
  ref_rest_later n t =
      let w = plain_int_later t.kind in
      cases_o (plain_int t.kind) (λ e. let f : plain_int (later_kind b t.kind) ≡ None = w ∙ e in rw (e, f, ref_rest) refl)
      (λ g e.
      let f : plain_int (later_kind b t.kind) ≡ Some g = w ∙ e in
      cases (leb 1 n && leb g 65535)
      (λ h. rw (e, f, h, ref_rest, token_later b t.to t.rest) (ref_mark_later n g (token_at t.to t.rest)))
      (λ h. rw (e, f, h, ref_rest) refl))

  tried_later : (z : ℤ) (t : Token) (r : Option (Obj × ℕ × Bytes)) → tried z (later_token b t) (later_found r) ≡ later b (tried z t r)
  unfolding tried
  tried_later z t None = refl
  tried_later z t (Some r) = refl

  trial_later : (u : Bool) (z : ℤ) (t : Token) → trial u z (later_token b t) ≡ later b (trial u z t)
  unfolding trial
  trial_later true (pos n) t =
      rw (token_later b t.to t.rest, ref_rest_later n (token_at t.to t.rest)) (tried_later (pos n) t (ref_rest n (token_at t.to t.rest)))
  trial_later true (negsuc n) t = refl
  trial_later false z t = refl

  word_later : (w : Bytes) (t : Token) → word_obj w (later_token b t) ≡ later b (word_obj w t)
  unfolding word_obj
  word_later w t =
      cases (same w (codes "true")) (λ e. rw (e, word_obj) refl)
      (λ e. cases (same w (codes "false")) (λ f. rw (e, f, word_obj) refl)
      (λ f. cases (same w (codes "null")) (λ g. rw (e, f, g, word_obj) refl) (λ g. rw (e, f, g, word_obj) refl)))

  of_token_later : (A D C E : Reader) → ((p : ℕ) (xs : Bytes) → A (b + p) xs ≡ later b (C p xs)) → ((p : ℕ) (xs : Bytes) → D (b + p) xs ≡ later b (E p xs)) →
      (k : Kind) (t : Token) → of_token A D (later_kind b k) (later_token b t) ≡ later b (of_token C E k t)
  unfolding of_token mark_obj
  of_token_later A D C E f g (int u z) t = trial_later u z t
  of_token_later A D C E f g (real w) t = refl
  of_token_later A D C E f g (name d) t = refl
  of_token_later A D C E f g (text w) t = refl
  of_token_later A D C E f g (hex w) t = refl
  of_token_later A D C E f g (word w) t = word_later w t
  of_token_later A D C E f g (mark open_array) t = f t.to t.rest
  of_token_later A D C E f g (mark open_dict) t = g t.to t.rest
  of_token_later A D C E f g (mark close_array) t = refl
  of_token_later A D C E f g (mark close_dict) t = refl
  of_token_later A D C E f g ended t = refl
  of_token_later A D C E f g (flawed w) t = ap bad (flaw_later b t.from w)

  one_later : (A D : ℕ → Reader) → ((s p : ℕ) (xs : Bytes) → A (b + s) (b + p) xs ≡ later b (A s p xs)) → ((s p : ℕ) (xs : Bytes) → D (b + s) (b + p) xs ≡ later b (D s p xs)) →
      Moves (one A D)
  unfolding one
  one_later A D f g p xs =
      rw (token_later b p xs)
      (of_token_later _ _ _ _ (λ q ys. f (token_at p xs).from q ys) (λ q ys. g (token_at p xs).from q ys) (token_at p xs).kind (token_at p xs))

  closes_array_later : (k : Kind) → closes_array (later_kind b k) ≡ closes_array k
  unfolding closes_array
  closes_array_later (int u z) = refl
  closes_array_later (real w) = refl
  closes_array_later (name d) = refl
  closes_array_later (text w) = refl
  closes_array_later (hex w) = refl
  closes_array_later (word w) = refl
  closes_array_later (mark open_array) = refl
  closes_array_later (mark open_dict) = refl
  closes_array_later (mark close_array) = refl
  closes_array_later (mark close_dict) = refl
  closes_array_later ended = refl
  closes_array_later (flawed w) = refl

  items_later : (elem : Reader) → Moves elem → (n : ℕ) → Moves (items elem n)
  unfolding items
  items_later elem h zero p xs = refl
  items_later elem h (suc n) p xs =
      let w : closes_array (token_at (b + p) xs).kind ≡ closes_array (token_at p xs).kind = ap (λ (t : Token). closes_array t.kind) (token_later b p xs) ∙ closes_array_later (token_at p xs).kind in
      cases (closes_array (token_at p xs).kind)
      (λ e. let f : closes_array (token_at (b + p) xs).kind ≡ true = w ∙ e in rw (e, f, items, token_later b p xs) refl)
      (λ e. let f : closes_array (token_at (b + p) xs).kind ≡ false = w ∙ e in
      rw (e, f, items, h p xs)
      (then_later (elem p xs) _ _ (λ o q ys. rw (items_later elem h n q ys) (then_later (items elem n q ys) _ _ (λ os r zs. refl)))))

  abbrev later_next : Next → Next
  later_next closes = closes
  later_next (key k) = key k
  later_next (fails f) = fails (later_fault b f)

  next_later : (p : ℕ) (k : Kind) → next (b + p) (later_kind b k) ≡ later_next (next p k)
  unfolding next
  next_later p (int u z) = refl
  next_later p (real w) = refl
  next_later p (name d) = refl
  next_later p (text w) = refl
  next_later p (hex w) = refl
  next_later p (word w) = refl
  next_later p (mark open_array) = refl
  next_later p (mark open_dict) = refl
  next_later p (mark close_array) = refl
  next_later p (mark close_dict) = refl
  next_later p ended = refl
  next_later p (flawed w) = ap fails (flaw_later b p w)

  module _ (elem : Reader) (h : Moves elem) (more : More) (g : (seen : Entries) → Moves (more seen)) where
    valued_later : (seen : Entries) (k kb : Bytes) (s : ℕ × Bytes) → valued elem more seen k kb (b + s.0, s.1) ≡ later b (valued elem more seen k kb s)
    unfolding valued
    valued_later seen k kb s =
        rw (h s.0 s.1)
        (then_later (elem s.0 s.1) _ _
        (λ o q ys. rw (up_to_later b s.0 q s.1, g (more_entries k kb (up_to s.0 s.1 q) o seen) q ys) (then_later (more (more_entries k kb (up_to s.0 s.1 q) o seen) q ys) _ _ (λ es r zs. refl))))

    keyed_later : (seen : Entries) (k : Bytes) (t : Token) → keyed elem more seen k (later_token b t) ≡ later b (keyed elem more seen k t)
    unfolding keyed
    keyed_later seen k t =
        cases (holds k seen) (λ e. rw (e, keyed) refl)
        (λ e. rw (e, keyed, up_to_later b t.from t.to t.bytes, skip_later b false t.to t.rest) (valued_later seen k _ (skip false t.to t.rest)))

    entry_later : (seen : Entries) (t : Token) → entry_at elem more seen (later_token b t) ≡ later b (entry_at elem more seen t)
    unfolding entry_at
    entry_later seen t = go (next t.from t.kind) refl
      where
        go : (w : Next) → next t.from t.kind ≡ w → entry_at elem more seen (later_token b t) ≡ later b (entry_at elem more seen t)
        go closes e = let f : next (b + t.from) (later_kind b t.kind) ≡ closes = next_later t.from t.kind ∙ ap later_next e in rw (e, f, entry_at) refl
        go (key k) e = let f : next (b + t.from) (later_kind b t.kind) ≡ key k = next_later t.from t.kind ∙ ap later_next e in rw (e, f, entry_at) (keyed_later seen k t)
        go (fails z) e = let f : next (b + t.from) (later_kind b t.kind) ≡ fails (later_fault b z) = next_later t.from t.kind ∙ ap later_next e in rw (e, f, entry_at) refl

  pub entries_later : (elem : Reader) → Moves elem → (n : ℕ) (seen : Entries) → Moves (entries elem n seen)
  unfolding entries
  entries_later elem h zero seen p xs = refl
  entries_later elem h (suc n) seen p xs = rw (token_later b p xs) (entry_later elem h (entries elem n) (λ s q ys. entries_later elem h n s q ys) seen (token_at p xs))

  -- an object
  pub object_later : (d : ℕ) → Moves (object_by d)
  unfolding object_by too_deep in_array in_dict
  object_later zero p xs = one_later too_deep too_deep (λ s q ys. refl) (λ s q ys. refl) p xs
  object_later (suc d) p xs =
      one_later (in_array (object_by d)) (in_dict (object_by d))
      (λ s q ys. rw (items_later (object_by d) (object_later d) turns q ys) (then_later (items (object_by d) turns q ys) _ _ (λ os r zs. refl)))
      (λ s q ys. rw (entries_later (object_by d) (object_later d) turns no_entries q ys) (then_later (entries (object_by d) turns no_entries q ys) _ _ (λ es r zs. refl)))
      p xs
