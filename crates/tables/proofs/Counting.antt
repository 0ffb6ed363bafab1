-- An acceptable update, number by number: its numbers are found where they are allowed, and the new ones follow Size without a gap. Assumes nothing.
use Rattle.std.proofs.Common.{◌≡◌, ℕ, suc, ◌+◌, ◌<◌, ◌≤◌, true, eqb, leb, ◌⊎◌, List, [], ◌∷◌, length, Some, None, Option, sym, refl, ◌∙◌, subst₂, inl, inr, arith, eqb-true, le-leb, leb-false, leb-true}
use borrow.Author.Tests.{eqb-false, lt-leb}
use Rattle.format.specs.Acceptable.{Acceptable, Ascends, Allowed, EachAllowed}
use Rattle.format.specs.Book.{is_used}
use Rattle.format.specs.Bytes.{Bytes}
use Rattle.format.specs.Revisions.{State, Revision, find, nth}
use Rattle.format.specs.Updates.{Change, body, removed, Update, new_numbers}
use Rattle.format.specs.Writing.{new_size}
use Rattle.tables.specs.Sound.{Sound}
use Rattle.tables.proofs.Finds.{some_none, true_false, find_here, find_past, nth_below, nth_none}
use Rattle.tables.proofs.Cells.{Known}
use Rattle.locality.proofs.Cases.{cases}

-- a change that is found is one of those allowed
pub allowed_find : (r : Revision) (N n : ℕ) (c : Change) (u : Update) → EachAllowed r N u → find n u ≡ Some c → Allowed r N n c
unfolding find
allowed_find r N n c [] a e = some_none (sym e)
allowed_find r N n c (x ∷ xs) a e =
    cases (eqb n x.0)
    (λ q.
    let h : x.0 ≡ n = sym (eqb-true n x.0 q) in
    let f : find n (x ∷ xs) ≡ Some x.1 = find_here n x xs h in
    let w : x.1 ≡ c = cc in
    subst₂ (λ (m : ℕ) (d : Change). Allowed r N m d) h w a.0)
    (λ q.
    let f : find n (x ∷ xs) ≡ find n xs = find_past n x xs (eqb-false n x.0 q) in
    allowed_find r N n c xs a.1 (sym f ∙ e))

-- below where the numbers start none is found
pub find_low : (low n : ℕ) (u : Update) → Ascends low u → n < low → find n u ≡ None
unfolding find
find_low low n [] a h = refl
find_low low n (x ∷ xs) a h =
    let d : low ≤ x.0 = a.0 in
    find_past n x xs (λ e. absurd (omega arith)) ∙ find_low (suc x.0) n xs a.1 (omega arith)

-- every number lies below N
abbrev pub Bounded : ℕ → Update → Type 0
Bounded N [] = Unit {0}
Bounded N (x ∷ xs) = (x.0 < N) × Bounded N xs

-- only numbers below size are removed
abbrev pub Removable : ℕ → ℕ → Change → Type 0
Removable size n (body b) = Unit {0}
Removable size n removed = n < size

abbrev pub Removes : ℕ → Update → Type 0
Removes size [] = Unit {0}
Removes size (x ∷ xs) = Removable size x.0 x.1 × Removes size xs

-- a number in use stands in the table
pub used_below : (n : ℕ) (ss : List State) → is_used (nth n ss) ≡ true → n < length ss
unfolding is_used
used_below n ss e = go (nth n ss) refl e
  where
    go : (o : Option State) → nth n ss ≡ o → is_used o ≡ true → n < length ss
    go None f i = true_false (sym i)
    go (Some s) f i = nth_below n ss s f

pub allowed_bounded : (r : Revision) (N : ℕ) (u : Update) → length r.states ≤ N → EachAllowed r N u → Bounded N u
allowed_bounded r N [] h a = tt
allowed_bounded r N (x ∷ xs) h a = (one x.1 a.0, allowed_bounded r N xs h a.1)
  where
    one : (c : Change) → Allowed r N x.0 c → x.0 < N
    one (body b) k = k.1
    one removed k = let w = used_below x.0 r.states k.0 in omega arith

pub allowed_removes : (r : Revision) (N size : ℕ) (u : Update) → length r.states ≡ size → EachAllowed r N u → Removes size u
allowed_removes r N size [] h a = tt
allowed_removes r N size (x ∷ xs) h a = (one x.1 a.0, allowed_removes r N size xs h a.1)
  where
    one : (c : Change) → Allowed r N x.0 c → Removable size x.0 c
    one (body b) k = tt
    one removed k = let w = used_below x.0 r.states k.0 in omega arith

removes_more : (size : ℕ) (u : Update) → Removes size u → Removes (suc size) u
removes_more size [] h = tt
removes_more size (x ∷ xs) h = (one x.1 h.0, removes_more size xs h.1)
  where
    one : (c : Change) → Removable size x.0 c → Removable (suc size) x.0 c
    one (body b) k = tt
    one removed k = omega arith

-- that many ascending numbers need that much room
room : (low N : ℕ) (u : Update) → Ascends low u → Bounded N u → low ≤ N → low + length u ≤ N
room low N [] a b h = omega arith
room low N (x ∷ xs) a b h =
    let d : low ≤ x.0 = a.0 in
    let l : x.0 < N = b.0 in
    let k = room (suc x.0) N xs a.1 b.1 l in
    omega arith

new_more : (size : ℕ) (x : ℕ × Change) (xs : Update) → size ≤ x.0 → new_numbers size (x ∷ xs) ≡ suc (new_numbers size xs)
unfolding new_numbers
new_more size x xs h = rw (le-leb size x.0 h, new_numbers) refl

new_same : (size : ℕ) (x : ℕ × Change) (xs : Update) → x.0 < size → new_numbers size (x ∷ xs) ≡ new_numbers size xs
unfolding new_numbers
new_same size x xs h = rw (lt-leb size x.0 h, new_numbers) refl

few_new : (size : ℕ) (u : Update) → new_numbers size u ≤ length u
unfolding new_numbers
few_new size [] = omega arith
few_new size (x ∷ xs) =
    let k = few_new size xs in
    cases (leb size x.0)
    (λ e. let m = new_more size x xs (leb-true size x.0 e) in omega arith)
    (λ e. let m = new_same size x xs (leb-false size x.0 e) in omega arith)

all_new : (low size : ℕ) (u : Update) → Ascends low u → size ≤ low → new_numbers size u ≡ length u
unfolding new_numbers
all_new low size [] a h = refl
all_new low size (x ∷ xs) a h =
    let d : low ≤ x.0 = a.0 in
    let m = new_more size x xs (omega arith) in
    let k = all_new (suc x.0) size xs a.1 (omega arith) in
    omega arith

-- Each change is of a number below the size so far, or puts the very next one, which raises it; at last it is `end`.
abbrev pub Follow : (size : ℕ) → Update → (end : ℕ) → Type 0
Follow size [] end = size ≡ end
Follow size (x ∷ xs) end = ((x.0 < size) × Follow size xs end) ⊎ ((x.0 ≡ size) × ((b : Bytes) × (x.1 ≡ body b)) × Follow (suc size) xs end)

-- New numbers that ascend, lie below the new Size and are as many as it has gained leave no gap.
pub follow : (low size N : ℕ) (u : Update) → Ascends low u → Bounded N u → Removes size u → size + new_numbers size u ≡ N → Follow size u N
unfolding new_numbers
follow low size N [] a b k e = omega arith
follow low size N (x ∷ xs) a b k e =
    cases (leb size x.0)
    (λ q.
    let h : size ≤ x.0 = leb-true size x.0 q in
    let m : new_numbers size (x ∷ xs) ≡ suc (new_numbers size xs) = new_more size x xs h in
    let f : new_numbers size xs ≤ length xs = few_new size xs in
    let l : x.0 < N = b.0 in
    let w : suc x.0 + length xs ≤ N = room (suc x.0) N xs a.1 b.1 l in
    let e' : size + new_numbers size (x ∷ xs) ≡ N = e in
    let s : x.0 ≡ size = omega arith in
    let n₁ : new_numbers size xs ≡ length xs = all_new (suc x.0) size xs a.1 (omega arith) in
    let n₂ : new_numbers (suc size) xs ≡ length xs = all_new (suc x.0) (suc size) xs a.1 (omega arith) in
    inr (s, put x.1 k.0 h, follow (suc x.0) (suc size) N xs a.1 b.1 (removes_more size xs k.1) (omega arith)))
    (λ q.
    let h : x.0 < size = leb-false size x.0 q in
    let m : new_numbers size (x ∷ xs) ≡ new_numbers size xs = new_same size x xs h in
    let e' : size + new_numbers size (x ∷ xs) ≡ N = e in
    inl (h, follow (suc x.0) size N xs a.1 b.1 k.1 (omega arith)))
  where
    put : (c : Change) → Removable size x.0 c → size ≤ x.0 → (b' : Bytes) × (c ≡ body b')
    put (body b') r h = (b', refl)
    put removed r h = absurd (omega arith)

-- every new number is found
pub follow_found : (size N m : ℕ) (u : Update) → Follow size u N → size ≤ m → m < N → find m u ≡ None → ⊥
follow_found size N m [] f h l e = omega arith
follow_found size N m (x ∷ xs) (inl f) h l e =
    let d : x.0 < size = f.0 in
    follow_found size N m xs f.1 h l (sym (find_past m x xs (λ z. absurd (omega arith))) ∙ e)
follow_found size N m (x ∷ xs) (inr f) h l e =
    let d : x.0 ≡ size = f.0 in
    cases (eqb m x.0)
    (λ q. let z : x.0 ≡ m = sym (eqb-true m x.0 q) in some_none (sym (find_here m x xs z) ∙ e))
    (λ q.
    let z : m ≡ x.0 → ⊥ = eqb-false m x.0 q in
    let y : suc size ≤ m = omega arith in
    follow_found (suc size) N m xs f.2 y l (sym (find_past m x xs z) ∙ e))

module _ (r : Revision) (u : Update) (S : Sound r) (A : Acceptable r u) where
  pub size_grows : r.size ≤ new_size r u
  unfolding new_size
  size_grows = omega arith

  pub bounded : Bounded (new_size r u) u
  bounded = let l = S.long in let g = size_grows in allowed_bounded r (new_size r u) u (omega arith) A.allowed

  -- the changes of an acceptable update raise Size to the new one, step by step
  pub follows : Follow r.size u (new_size r u)
  unfolding new_size
  follows = follow 0 r.size (new_size r u) u A.ascends bounded (allowed_removes r (new_size r u) r.size u S.long A.allowed) refl

  -- what is known of an acceptable update of a sound table
  pub known : Known r.states u (new_size r u)
  known = record {
    some = let g = size_grows in let s = S.some in omega arith;
    fits = S.fits;
    puts = λ n b e. (let k = allowed_find r (new_size r u) n (body b) u A.allowed e in (k.0, k.1, k.2));
    takes = λ n e. (allowed_find r (new_size r u) n removed u A.allowed e).0;
    all = λ n h e f.
        (let l = S.long in let w = nth_none n r.states e in follow_found r.size (new_size r u) n u follows (omega arith) h f);
  }
