-- An object lies within the bytes in which it is read, and so does the place of its fault.
use Rattle.std.proofs.Common.{◌≡◌, ℕ, zero, suc, ◌-◌, ◌<◌, ◌≤◌, Bool, true, false, ◌&&◌, leb, length, take, drop, ℤ, pos, negsuc, Some, None, codes, Option, refl, arith}
use Rattle.format.specs.Bytes.{Bytes, then, up_to, same}
use Rattle.format.specs.Space.{skip}
use Rattle.format.specs.Strings.{turns}
use Rattle.format.specs.Tokens.{open_array, close_array, open_dict, close_dict, Kind, int, real, name, text, hex, mark, word, ended, flawed, Token, token_at}
use Rattle.format.specs.Objects.{Obj, Entries, no_entries, more_entries, Reader, More, plain_int, plain_word, is_word, ref_mark, ref_rest, tried, trial, word_obj, mark_obj, of_token, closes_array, items, holds, Next, closes, key, fails, next, valued, keyed, entry_at, entries, one, too_deep, in_array, in_dict, object_by}
use Rattle.lexer.specs.Spelled.{spelled}
use Rattle.objects.proofs.Cases.{cases, cases_o}
use Rattle.objects.proofs.Places.{At, Within, Inside, earlier, then_in, skip_past}
use Rattle.objects.proofs.PlacesOfTokens.{Stands, TokenIn, token_in_fact}

-- a reference that was found behind p, or nothing
abbrev RefIn : Bytes → ℕ → Option (Obj × ℕ × Bytes) → Type 0
RefIn src p None = Unit {0}
RefIn src p (Some r) = (p < r.1) × At src r.1 r.2

-- what a dictionary has next, from p to q
abbrev pub NextIn : Bytes → ℕ → ℕ → Next → Type 0
NextIn src p q closes = p < q
NextIn src p q (key d) = (p < q) × (d ≡ spelled (take (q - suc p) (drop (suc p) src)))
NextIn src p q (fails f) = f.place ≤ length src

module _ (src : Bytes) where
  -- a token that takes a byte
  pub word_moves : (w : Bytes) (k : Kind) (p q : ℕ) → is_word w k ≡ true → Stands src p q k → p < q
  unfolding is_word plain_word
  word_moves w (int u z) p q e h = h
  word_moves w (real v) p q e h = h
  word_moves w (name d) p q e h = h.0
  word_moves w (text v) p q e h = h
  word_moves w (hex v) p q e h = h
  word_moves w (mark m) p q e h = h
  word_moves w (word v) p q e h = h
  word_moves w ended p q e h = absurd (let z : ◌≡◌ {A = ℕ} 0 1 = cc in omega arith)
  word_moves w (flawed f) p q e h = absurd (let z : ◌≡◌ {A = ℕ} 0 1 = cc in omega arith)

  int_moves : (n : ℕ) (k : Kind) (p q : ℕ) → plain_int k ≡ Some n → Stands src p q k → p < q
  unfolding plain_int
  int_moves n (int u z) p q e h = h
  int_moves n (real v) p q e h = h
  int_moves n (name d) p q e h = h.0
  int_moves n (text v) p q e h = h
  int_moves n (hex v) p q e h = h
  int_moves n (mark m) p q e h = h
  int_moves n (word v) p q e h = h
  int_moves n ended p q e h = absurd (let z : ◌≡◌ {A = ℕ} 0 1 = cc in omega arith)
  int_moves n (flawed f) p q e h = absurd (let z : ◌≡◌ {A = ℕ} 0 1 = cc in omega arith)

  close_moves : (k : Kind) (p q : ℕ) → closes_array k ≡ true → Stands src p q k → p < q
  unfolding closes_array
  close_moves (int u z) p q e h = h
  close_moves (real v) p q e h = h
  close_moves (name d) p q e h = h.0
  close_moves (text v) p q e h = h
  close_moves (hex v) p q e h = h
  close_moves (mark m) p q e h = h
  close_moves (word v) p q e h = h
  close_moves ended p q e h = absurd (let z : ◌≡◌ {A = ℕ} 0 1 = cc in omega arith)
  close_moves (flawed f) p q e h = absurd (let z : ◌≡◌ {A = ℕ} 0 1 = cc in omega arith)

  module _ (p : ℕ) (t : Token) (i : TokenIn src p t) where
    -- an answer behind the token
    pub took : t.from < t.to → (p < t.to) × At src t.to t.rest
    took l = let m = i.starts in (omega arith, i.ends.at)

    -- its first place
    pub first_in : t.from ≤ length src
    first_in = let c = i.bytes.count in omega arith

    -- a word that the token is
    pub word_took : (w : Bytes) → is_word w t.kind ≡ true → (p < t.to) × At src t.to t.rest
    word_took w e = took (word_moves w t.kind t.from t.to e i.stands)

    -- an integer that the token is
    pub int_took : (n : ℕ) → plain_int t.kind ≡ Some n → (p < t.to) × At src t.to t.rest
    int_took n e = took (int_moves n t.kind t.from t.to e i.stands)

  mark_in : (n g p : ℕ) (t : Token) → TokenIn src p t → RefIn src p (ref_mark n g t)
  unfolding ref_mark
  mark_in n g p t i = cases (is_word (codes "R") t.kind) (λ e. rw (e, ref_mark) (word_took p t i (codes "R") e)) (λ e. rw (e, ref_mark) tt)

  ref_sooner : (p r : ℕ) → p ≤ r → (o : Option (Obj × ℕ × Bytes)) → RefIn src r o → RefIn src p o
  ref_sooner p r h None b = tt
  ref_sooner p r h (Some x) (l, b) = (omega arith, b)

  ref_in : (n p : ℕ) (t : Token) → TokenIn src p t → RefIn src p (ref_rest n t)
  unfolding ref_rest
  ref_in n p t i =
      cases_o (plain_int t.kind) (λ e. rw (e, ref_rest) tt)
      (λ g e.
      cases (leb 1 n && leb g 65535)
      (λ f.
      let b = int_took p t i g e in
      let u = token_at t.to t.rest in
      rw (e, f, ref_rest) (ref_sooner p t.to (let l = b.0 in omega arith) (ref_mark n g u) (mark_in n g t.to u (token_in_fact src t.to t.rest b.1))))
      (λ f. rw (e, f, ref_rest) tt))

  tried_in : (z : ℤ) (p : ℕ) (t : Token) → (p < t.to) × At src t.to t.rest → (o : Option (Obj × ℕ × Bytes)) → RefIn src p o → Within src p (tried z t o)
  unfolding tried
  tried_in z p t b None r = b
  tried_in z p t b (Some x) r = r

  trial_in : (u : Bool) (z : ℤ) (p : ℕ) (t : Token) → (p < t.to) × At src t.to t.rest → Within src p (trial u z t)
  unfolding trial
  trial_in true (pos n) p t b =
      let v = token_at t.to t.rest in
      tried_in (pos n) p t b (ref_rest n v) (ref_sooner p t.to (let l = b.0 in omega arith) (ref_rest n v) (ref_in n t.to v (token_in_fact src t.to t.rest b.1)))
  trial_in true (negsuc n) p t b = b
  trial_in false z p t b = b

  word_in : (w : Bytes) (p : ℕ) (t : Token) → t.from ≤ length src → (p < t.to) × At src t.to t.rest → Within src p (word_obj w t)
  unfolding word_obj
  word_in w p t h b =
      cases (same w (codes "true")) (λ e. rw (e, word_obj) b)
      (λ e. cases (same w (codes "false")) (λ f. rw (e, f, word_obj) b)
      (λ f. cases (same w (codes "null")) (λ g. rw (e, f, g, word_obj) b) (λ g. rw (e, f, g, word_obj) h)))

  -- an object that starts with the token
  of_in : (A D : Reader) → Inside src A → Inside src D → (p : ℕ) (t : Token) → TokenIn src p t → (k : Kind) → t.kind ≡ k → Stands src t.from t.to k → Within src p (of_token A D k t)
  unfolding of_token mark_obj
  of_in A D f g p t i (int u z) e l = trial_in u z p t (took p t i l)
  of_in A D f g p t i (real w) e l = took p t i l
  of_in A D f g p t i (name d) e l = took p t i l.0
  of_in A D f g p t i (text w) e l = took p t i l
  of_in A D f g p t i (hex w) e l = took p t i l
  of_in A D f g p t i (word w) e l = word_in w p t (first_in p t i) (took p t i l)
  of_in A D f g p t i (mark open_array) e l = let b = took p t i l in let m = b.0 in earlier src p t.to (omega arith) (A t.to t.rest) (f t.to t.rest b.1)
  of_in A D f g p t i (mark open_dict) e l = let b = took p t i l in let m = b.0 in earlier src p t.to (omega arith) (D t.to t.rest) (g t.to t.rest b.1)
  of_in A D f g p t i (mark close_array) e l = first_in p t i
  of_in A D f g p t i (mark close_dict) e l = first_in p t i
  of_in A D f g p t i ended e l = first_in p t i
  of_in A D f g p t i (flawed x) e l = l

  one_in : (A D : ℕ → Reader) → ((s : ℕ) → s ≤ length src → Inside src (A s)) → ((s : ℕ) → s ≤ length src → Inside src (D s)) → Inside src (one A D)
  unfolding one
  one_in A D f g p xs a =
      let t = token_at p xs in
      let i = token_in_fact src p xs a in
      of_in (A t.from) (D t.from) (f t.from (first_in p t i)) (g t.from (first_in p t i)) p t i t.kind refl i.stands

  items_in : (elem : Reader) → Inside src elem → (n : ℕ) → Inside src (items elem n)
  unfolding items
  items_in elem h zero p xs a = let c = a.count in omega arith
  items_in elem h (suc n) p xs a =
      let t = token_at p xs in
      let i = token_in_fact src p xs a in
      cases (closes_array (token_at p xs).kind)
      (λ e. rw (e, items) (took p t i (close_moves t.kind t.from t.to e i.stands)))
      (λ e. rw (e, items)
      (then_in src p (elem p xs) _ (h p xs a)
      (λ o q ys l b.
      earlier src p q (omega arith) (then (items elem n q ys) _) (then_in src q (items elem n q ys) _ (items_in elem h n q ys b) (λ os r zs m d. (m, d))))))

  next_in_fact : (p q : ℕ) (k : Kind) → p ≤ length src → Stands src p q k → NextIn src p q (next p k)
  unfolding next
  next_in_fact p q (int u z) h l = h
  next_in_fact p q (real w) h l = h
  next_in_fact p q (name d) h l = l
  next_in_fact p q (text w) h l = h
  next_in_fact p q (hex w) h l = h
  next_in_fact p q (word w) h l = h
  next_in_fact p q (mark open_array) h l = h
  next_in_fact p q (mark open_dict) h l = h
  next_in_fact p q (mark close_array) h l = h
  next_in_fact p q (mark close_dict) h l = l
  next_in_fact p q ended h l = h
  next_in_fact p q (flawed w) h l = l

  -- what a dictionary has next
  pub next_at : (p : ℕ) (t : Token) → TokenIn src p t → NextIn src t.from t.to (next t.from t.kind)
  next_at p t i = next_in_fact t.from t.to t.kind (first_in p t i) i.stands

  module _ (elem : Reader) (h : Inside src elem) (more : More) (g : (seen : Entries) → Inside src (more seen)) where
    valued_in : (seen : Entries) (k kb : Bytes) (s : ℕ × Bytes) → At src s.0 s.1 → Within src s.0 (valued elem more seen k kb s)
    unfolding valued
    valued_in seen k kb s a =
        then_in src s.0 (elem s.0 s.1) _ (h s.0 s.1 a)
        (λ o q ys l b.
        let fs = more_entries k kb (up_to s.0 s.1 q) o seen in
        earlier src s.0 q (omega arith) (then (more fs q ys) _) (then_in src q (more fs q ys) _ (g fs q ys b) (λ es r zs m d. (m, d))))

    keyed_in : (seen : Entries) (k : Bytes) (p : ℕ) (t : Token) → TokenIn src p t → t.from < t.to → Within src p (keyed elem more seen k t)
    unfolding keyed
    keyed_in seen k p t i l =
        let b = took p t i l in
        let s = skip_past src false t.to t.rest b.1 in
        cases (holds k seen) (λ e. rw (e, keyed) (first_in p t i))
        (λ e. rw (e, keyed)
        (earlier src p (skip false t.to t.rest).0 (let m = b.0 in let n = s.low in omega arith) (valued elem more seen k _ (skip false t.to t.rest))
        (valued_in seen k _ (skip false t.to t.rest) s.at)))

    entry_in : (seen : Entries) (p : ℕ) (t : Token) → TokenIn src p t → Within src p (entry_at elem more seen t)
    unfolding entry_at
    entry_in seen p t i = go (next t.from t.kind) refl (next_at p t i)
      where
        go : (w : Next) → next t.from t.kind ≡ w → NextIn src t.from t.to w → Within src p (entry_at elem more seen t)
        go closes e l = rw (e, entry_at) (took p t i l)
        go (key k) e l = rw (e, entry_at) (keyed_in seen k p t i l.0)
        go (fails f) e l = rw (e, entry_at) l

  pub entries_in : (elem : Reader) → Inside src elem → (n : ℕ) (seen : Entries) → Inside src (entries elem n seen)
  unfolding entries
  entries_in elem h zero seen p xs a = let c = a.count in omega arith
  entries_in elem h (suc n) seen p xs a = entry_in elem h (entries elem n) (λ s q ys b. entries_in elem h n s q ys b) seen p (token_at p xs) (token_in_fact src p xs a)

  -- an object
  pub object_in : (d : ℕ) → Inside src (object_by d)
  unfolding object_by too_deep in_array in_dict
  object_in zero p xs a = one_in too_deep too_deep (λ s h q ys b. h) (λ s h q ys b. h) p xs a
  object_in (suc d) p xs a =
      one_in (in_array (object_by d)) (in_dict (object_by d))
      (λ s h q ys b. then_in src q (items (object_by d) turns q ys) _ (items_in (object_by d) (object_in d) turns q ys b) (λ os r zs l c. (l, c)))
      (λ s h q ys b. then_in src q (entries (object_by d) turns no_entries q ys) _ (entries_in (object_by d) (object_in d) turns no_entries q ys b) (λ es r zs l c. (l, c)))
      p xs a
