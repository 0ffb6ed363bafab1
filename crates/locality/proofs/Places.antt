-- The place that a reader answers is the place behind the bytes that it took.
use Rattle.std.proofs.Common.{◌≡◌, ℕ, zero, suc, ◌+◌, Bool, true, false, ◌&&◌, eqb, leb, [], ◌∷◌, ◌++◌, length, ℤ, pos, negsuc, Some, None, codes, Option, refl, ap, ◌∙◌, arith, length-append}
use Rattle.format.specs.Bytes.{Bytes, Got, ok, then, is_eol, is_white, same}
use Rattle.format.specs.Space.{skip}
use Rattle.format.specs.Strings.{turns}
use Rattle.format.specs.Tokens.{open_array, close_array, open_dict, close_dict, Kind, int, real, name, text, hex, mark, word, ended, flawed, Token, token_at}
use Rattle.format.specs.Objects.{Obj, array, dict, ref, more_objs, Entries, no_entries, more_entries, Reader, plain_int, is_word, ref_mark, ref_rest, tried, trial, word_obj, mark_obj, of_token, closes_array, items, one, object_by, too_deep, in_array, in_dict, entries}
use Rattle.locality.specs.Locality.{Good, Taken}
use Rattle.locality.specs.LocalityObjects.{R}
use Rattle.locality.proofs.Cases.{cases, cases_o}
use Rattle.locality.proofs.Local.{never, same_rest, same_place, then_ok}
use Rattle.locality.proofs.Tokens.{token_local, token_is}
use Rattle.locality.proofs.Dictionaries.{behind_key, key_bytes_at, value_bytes_at, Turn, ends, goes, turn}
use Rattle.locality.proofs.Arrays.{closing}
use Rattle.locality.proofs.Objects.{plain_good, word_good}
use Rattle.locality.proofs.Tests.{clash}

-- from the place p, where the bytes are xs, on to the place q, where the bytes are ys
abbrev pub Reaches : ℕ → Bytes → ℕ → Bytes → Type 0
Reaches p xs q ys = q + length ys ≡ p + length xs

-- a reader whose places are those of the bytes
abbrev pub Counts : {A : Type 0} → (ℕ → Bytes → Got A) → Type 0
Counts {A} r = (p : ℕ) (xs : Bytes) (a : A) (q : ℕ) (rest : Bytes) → r p xs ≡ ok a q rest → Reaches p xs q rest

-- an answer's place, where what was taken is known
pub reached : (p : ℕ) (xs : Bytes) (q : ℕ) (pre rest : Bytes) → xs ≡ pre ++ rest → Reaches p xs q rest → q ≡ p + length pre
reached p xs q pre rest e h = let l : length xs ≡ length pre + length rest = ap length e ∙ length-append pre rest in omega arith

-- equal answers reach equally far
pub reach_as : {A : Type 0} {a b : A} {q r : ℕ} {ys zs : Bytes} (p : ℕ) (xs : Bytes) → ◌≡◌ {A = Got A} (ok a q ys) (ok b r zs) → Reaches p xs q ys → Reaches p xs r zs
reach_as {q = q} {r = r} {ys = ys} {zs = zs} p xs e h =
    let a : q ≡ r = same_place e in let b : length ys ≡ length zs = ap length (same_rest e) in omega arith

-- white space and comments
pub skip_reaches : (c : Bool) (p : ℕ) (xs : Bytes) → Reaches p xs (skip c p xs).0 (skip c p xs).1
unfolding skip
skip_reaches true p [] = refl
skip_reaches false p [] = refl
skip_reaches true p (x ∷ xs) =
    cases (is_eol x)
    (λ e. rw (e, skip) (let h = skip_reaches false (suc p) xs in omega arith))
    (λ e. rw (e, skip) (let h = skip_reaches true (suc p) xs in omega arith))
skip_reaches false p (x ∷ xs) =
    cases (is_white x)
    (λ e. rw (e, skip) (let h = skip_reaches false (suc p) xs in omega arith))
    (λ e.
    cases (eqb x 37)
    (λ f. rw (e, f, skip) (let h = skip_reaches true (suc p) xs in omega arith))
    (λ f. rw (e, f, skip) refl))

-- a token
pub token_reaches : (p : ℕ) (xs : Bytes) → Good (token_at p xs).kind → Reaches p xs (token_at p xs).to (token_at p xs).rest
token_reaches p xs g = go (token_local p xs g)
  where
    go : Taken xs (token_at p xs) → Reaches p xs (token_at p xs).to (token_at p xs).rest
    go l =
        let t : (token_at p xs).to ≡ p + length l.gap + length l.core = ap (λ (u : Token). u.to) (token_is p xs l) in
        let n : length xs ≡ length l.gap + length (l.core ++ (token_at p xs).rest) = ap length l.parts ∙ length-append l.gap (l.core ++ (token_at p xs).rest) in
        let m : length (l.core ++ (token_at p xs).rest) ≡ length l.core + length (token_at p xs).rest = length-append l.core (token_at p xs).rest in
        omega arith

good_at : (p : ℕ) (xs : Bytes) (k : Kind) → (token_at p xs).kind ≡ k → Good k → Reaches p xs (token_at p xs).to (token_at p xs).rest
good_at p xs k e g = token_reaches p xs (rw e g)

ref_reaches : (n p : ℕ) (xs : Bytes) (r : Obj × ℕ × Bytes) → ref_rest n (token_at p xs) ≡ Some r → Reaches p xs r.1 r.2
unfolding ref_rest ref_mark
ref_reaches n p xs r e =
    cases_o (plain_int (token_at p xs).kind)
    (λ a. clash (let z : None ≡ Some r = rw (a, ref_rest) at e in cc))
    (λ g a.
    cases (leb 1 n && leb g 65535)
    (λ b.
    cases (is_word R (token_at (token_at p xs).to (token_at p xs).rest).kind)
    (λ c. found g (rw (a, b, c, ref_rest, ref_mark) at e) (token_reaches p xs (plain_good (token_at p xs).kind g a).0) (token_reaches (token_at p xs).to (token_at p xs).rest (word_good R (token_at (token_at p xs).to (token_at p xs).rest).kind c).0))
    (λ c. clash (let z : None ≡ Some r = rw (a, b, c, ref_rest, ref_mark) at e in cc)))
    (λ b. clash (let z : None ≡ Some r = rw (a, b, ref_rest) at e in cc)))
  where
    t₂ : Token
    t₂ = token_at (token_at p xs).to (token_at p xs).rest

    found : (g : ℕ) → ◌≡◌ {A = Option (Obj × ℕ × Bytes)} (Some (ref n g, (token_at (token_at p xs).to (token_at p xs).rest).to, (token_at (token_at p xs).to (token_at p xs).rest).rest)) (Some r) →
        Reaches p xs (token_at p xs).to (token_at p xs).rest →
        Reaches (token_at p xs).to (token_at p xs).rest (token_at (token_at p xs).to (token_at p xs).rest).to (token_at (token_at p xs).to (token_at p xs).rest).rest → Reaches p xs r.1 r.2
    found g e' h k =
        let a : (token_at (token_at p xs).to (token_at p xs).rest).to ≡ r.1 = cc in
        let b : length (token_at (token_at p xs).to (token_at p xs).rest).rest ≡ length r.2 = cc in
        omega arith

trial_reaches : (u : Bool) (z : ℤ) (p : ℕ) (xs : Bytes) (o : Obj) (q : ℕ) (rest : Bytes) → (token_at p xs).kind ≡ int u z → trial u z (token_at p xs) ≡ ok o q rest → Reaches p xs q rest
unfolding trial tried Good
trial_reaches false z p xs o q rest k e = reach_as p xs e (good_at p xs (int false z) k tt)
trial_reaches true (negsuc n) p xs o q rest k e = reach_as p xs e (good_at p xs (int true (negsuc n)) k tt)
trial_reaches true (pos n) p xs o q rest k e =
    cases_o (ref_rest n (token_at (token_at p xs).to (token_at p xs).rest))
    (λ a. reach_as p xs (rw (a, tried) at e) (good_at p xs (int true (pos n)) k tt))
    (λ r a. reach_as p xs (rw (a, tried) at e)
    (let h = ref_reaches n (token_at p xs).to (token_at p xs).rest r a in let j = good_at p xs (int true (pos n)) k tt in omega arith))

word_reaches : (w : Bytes) (p : ℕ) (xs : Bytes) (o : Obj) (q : ℕ) (rest : Bytes) → (token_at p xs).kind ≡ word w → word_obj w (token_at p xs) ≡ ok o q rest → Reaches p xs q rest
unfolding word_obj Good
word_reaches w p xs o q rest k e =
    let h = good_at p xs (word w) k tt in
    cases (same w (codes "true")) (λ a. reach_as p xs (rw (a, word_obj) at e) h)
    (λ a.
    cases (same w (codes "false")) (λ b. reach_as p xs (rw (a, b, word_obj) at e) h)
    (λ b.
    cases (same w (codes "null")) (λ c. reach_as p xs (rw (a, b, c, word_obj) at e) h)
    (λ c. never (rw (a, b, c, word_obj) at e))))

one_counts : (A D : ℕ → Reader) → ((s : ℕ) → Counts (A s)) → ((s : ℕ) → Counts (D s)) → Counts (one A D)
unfolding one of_token mark_obj Good
one_counts A D ca cd p xs o q rest e = go (token_at p xs).kind refl e
  where
    go : (k : Kind) → (token_at p xs).kind ≡ k → of_token (A (token_at p xs).from) (D (token_at p xs).from) k (token_at p xs) ≡ ok o q rest → Reaches p xs q rest
    go (int u z) k h = trial_reaches u z p xs o q rest k h
    go (real w) k h = reach_as p xs h (good_at p xs (real w) k tt)
    go (name d) k h = reach_as p xs h (good_at p xs (name d) k tt)
    go (text w) k h = reach_as p xs h (good_at p xs (text w) k tt)
    go (hex w) k h = reach_as p xs h (good_at p xs (hex w) k tt)
    go (word w) k h = word_reaches w p xs o q rest k h
    go (mark open_array) k h = let a = good_at p xs (mark open_array) k tt in let b = ca (token_at p xs).from (token_at p xs).to (token_at p xs).rest o q rest h in omega arith
    go (mark open_dict) k h = let a = good_at p xs (mark open_dict) k tt in let b = cd (token_at p xs).from (token_at p xs).to (token_at p xs).rest o q rest h in omega arith
    go (mark close_array) k h = never h
    go (mark close_dict) k h = never h
    go ended k h = never h
    go (flawed f) k h = never h

-- the elements of an array
pub items_counts : (elem : Reader) → Counts elem → (n : ℕ) → Counts (items elem n)
unfolding items Good
items_counts elem c zero p xs os q rest e = never e
items_counts elem c (suc n) p xs os q rest e =
    cases (closes_array (token_at p xs).kind)
    (λ b. reach_as p xs (rw (b, items) at e) (good_at p xs (mark close_array) (closing (token_at p xs).kind b) tt))
    (λ b.
    let u = then_ok (elem p xs) (λ o q' ys. then (items elem n q' ys) (λ os' r zs. ok (more_objs o os') r zs)) os q rest (rw (b, items) at e) in
    let v = then_ok (items elem n u.1 u.2) (λ os' r zs. ok (more_objs u.0 os') r zs) os q rest u.4 in
    reach_as p xs v.4 (let h = c p xs u.0 u.1 u.2 u.3 in let k = items_counts elem c n u.1 u.2 v.0 v.1 v.2 v.3 in omega arith))

-- the entries of a dictionary
pub entries_counts : (elem : Reader) → Counts elem → (n : ℕ) (seen : Entries) → Counts (entries elem n seen)
unfolding entries Good
entries_counts elem c zero seen p xs es q rest e = never e
entries_counts elem c (suc n) seen p xs es q rest e = go (turn elem n seen p xs es q rest e) (λ seen' p' ys fs q' m. entries_counts elem c n seen' p' ys fs q' rest m)
  where
    go : Turn elem n seen p xs es q rest → ((seen' : Entries) (p' : ℕ) (ys : Bytes) (fs : Entries) (q' : ℕ) → entries elem n seen' p' ys ≡ ok fs q' rest → Reaches p' ys q' rest) → Reaches p xs q rest
    go (ends k s t r) more = let a = good_at p xs (mark close_dict) k tt in let b : length (token_at p xs).rest ≡ length rest = ap length r in omega arith
    go (goes d o q₁ ys fs k h v m s) more =
        more (more_entries d (key_bytes_at p xs) (value_bytes_at p xs q₁) o seen) q₁ ys fs q m
        ∙ c (behind_key p xs).0 (behind_key p xs).1 o q₁ ys v
        ∙ skip_reaches false (token_at p xs).to (token_at p xs).rest
        ∙ good_at p xs (name d) k tt

-- an object
pub object_counts : (d : ℕ) → Counts (object_by d)
unfolding object_by too_deep in_array in_dict
object_counts zero = one_counts too_deep too_deep (λ s p xs o q rest e. never e) (λ s p xs o q rest e. never e)
object_counts (suc d) =
    one_counts (in_array (object_by d)) (in_dict (object_by d))
    (λ s p xs o q rest e.
    let u = then_ok (items (object_by d) turns p xs) (λ os r zs. ok (array os) r zs) o q rest e in
    reach_as p xs u.4 (items_counts (object_by d) (object_counts d) turns p xs u.0 u.1 u.2 u.3))
    (λ s p xs o q rest e.
    let u = then_ok (entries (object_by d) turns no_entries p xs) (λ es r zs. ok (dict es) r zs) o q rest e in
    reach_as p xs u.4 (entries_counts (object_by d) (object_counts d) turns no_entries p xs u.0 u.1 u.2 u.3))
