-- Histories by their places, where revisions end, and files with updates behind them.
use Rattle.std.proofs.Common.{◌≡◌, ℕ, zero, suc, ◌<◌, ◌≤◌, true, List, [], ◌∷◌, ◌++◌, length, take, is_some, Some, Ok, sym, refl, ap, ◌∙◌, arith, length-take, length-take-le}
use Rattle.format.specs.Account.{with_updates, objects_at}
use Rattle.format.specs.Book.{history_in, history, revision_at, blank, newest_or, newest, addition, end_of_revision}
use Rattle.format.specs.Bytes.{Bytes}
use Rattle.format.specs.Revisions.{Revision, nth, Opened, opens}
use Rattle.format.specs.Theorems.{PrefixesOpen}
use Rattle.format.specs.Updates.{Update, objects_of}
use Rattle.laws.proofs.Ends.{opened_ends}
use Rattle.laws.proofs.Held.{never}

module _ {A : Type 0} where
  -- a place before the seam of two lists
  pub nth_front : (i : ℕ) (xs ys : List A) → i < length xs → nth i (xs ++ ys) ≡ nth i xs
  unfolding nth
  nth_front i [] ys h = absurd (omega arith)
  nth_front zero (x ∷ xs) ys h = refl
  nth_front (suc i) (x ∷ xs) ys h = nth_front i xs ys (omega arith)

  -- a place in the front of a list
  pub nth_take : (i n : ℕ) (xs : List A) → i < n → nth i (take n xs) ≡ nth i xs
  unfolding nth
  nth_take i zero xs h = absurd (omega arith)
  nth_take i (suc n) [] h = refl
  nth_take zero (suc n) (x ∷ xs) h = refl
  nth_take (suc i) (suc n) (x ∷ xs) h = nth_take i n xs (omega arith)

  -- a place where something stands lies in the list
  pub nth_within : (i : ℕ) (xs : List A) → is_some (nth i xs) ≡ true → i < length xs
  unfolding nth
  nth_within i [] e = never (sym e)
  nth_within zero (x ∷ xs) e = omega arith
  nth_within (suc i) (x ∷ xs) e = let h = nth_within i xs e in omega arith

  -- and where the list has a place, something stands there
  pub nth_there : (i : ℕ) (xs : List A) → i < length xs → is_some (nth i xs) ≡ true
  unfolding nth
  nth_there i [] h = absurd (omega arith)
  nth_there zero (x ∷ xs) h = refl
  nth_there (suc i) (x ∷ xs) h = nth_there i xs (omega arith)

nth_newest : (x : Revision) (xs : List Revision) → nth (length xs) (x ∷ xs) ≡ Some (newest_or x xs)
unfolding nth newest_or
nth_newest x [] = refl
nth_newest x (y ∷ ys) = nth_newest y ys

-- The newest of a list is the revision joined last.
pub newest_or_snoc : (r : Revision) (xs : List Revision) (y : Revision) → newest_or r (xs ++ (y ∷ [])) ≡ y
unfolding newest_or
newest_or_snoc r [] y = refl
newest_or_snoc r (x ∷ xs) y = newest_or_snoc x xs y

-- Revision k of a list is not changed by what is joined behind.
pub at_front : (k : ℕ) (xs ys : List Revision) → k ≤ length xs → revision_at k (xs ++ ys) ≡ revision_at k xs
unfolding revision_at
at_front zero xs ys h = refl
at_front (suc i) xs ys h = nth_front i xs ys h

-- Revision k of the first n is revision k.
pub at_take : (k n : ℕ) (xs : List Revision) → k ≤ n → revision_at k (take n xs) ≡ revision_at k xs
unfolding revision_at
at_take zero n xs h = refl
at_take (suc i) n xs h = nth_take i n xs h

-- The last revision is the newest.
pub at_newest : (xs : List Revision) → 1 ≤ length xs → revision_at (length xs) xs ≡ Some (newest_or blank xs)
unfolding revision_at newest_or
at_newest [] h = absurd (omega arith)
at_newest (x ∷ xs) h = nth_newest x xs

-- Where there is a revision k, it is one of them.
pub at_within : (k : ℕ) (xs : List Revision) → is_some (revision_at k xs) ≡ true → (1 ≤ k) × (k ≤ length xs)
unfolding revision_at
at_within zero xs e = never (sym e)
at_within (suc i) xs e = (omega arith, nth_within i xs e)

-- Each of the revisions is there.
pub at_there : (k : ℕ) (xs : List Revision) → 1 ≤ k → k ≤ length xs → is_some (revision_at k xs) ≡ true
unfolding revision_at
at_there zero xs l h = absurd (omega arith)
at_there (suc i) xs l h = nth_there i xs h

-- the same revision ends at the same place
pub end_at : (k : ℕ) (xs ys : List Revision) → revision_at k xs ≡ revision_at k ys → end_of_revision k xs ≡ end_of_revision k ys
unfolding end_of_revision
end_at k xs ys e = rw (e, end_of_revision) refl

end_some : (k : ℕ) (xs : List Revision) (r : Revision) → revision_at k xs ≡ Some r → end_of_revision k xs ≡ r.end
unfolding end_of_revision
end_some k xs r e = rw (e, end_of_revision) refl

-- the same revision shows the same objects
pub objects_some : (file : Bytes) (k : ℕ) (r : Revision) → revision_at k (history file) ≡ Some r → objects_at file k ≡ objects_of r
unfolding objects_at
objects_some file k r e = rw (e, objects_at) refl

pub objects_same : (file file' : Bytes) (k : ℕ) → revision_at k (history file) ≡ revision_at k (history file') → objects_at file k ≡ objects_at file' k
unfolding objects_at
objects_same file file' k e = rw (e, objects_at) refl

-- The revisions of an accepted file are those that opening gives.
pub history_is : (file : Bytes) (o : Opened) → opens file ≡ Ok o → history file ≡ o.history
unfolding history history_in
history_is file o e = ap history_in e

pub newest_is : (file : Bytes) (o : Opened) → opens file ≡ Ok o → newest file ≡ newest_or blank o.history
unfolding newest
newest_is file o e = ap (newest_or blank) (history_is file o e)

-- The last revision of an accepted file ends where the file ends.
pub ends_at_length : (file : Bytes) (o : Opened) → opens file ≡ Ok o → end_of_revision (length o.history) o.history ≡ length file
ends_at_length file o e =
    let a = opened_ends file o e in
    end_some (length o.history) o.history (newest_or blank o.history) (at_newest o.history a.1) ∙ a.0

-- One update more behind a file with updates.
pub with_one_more : (us : List Update) (u : Update) (file : Bytes) → with_updates (us ++ (u ∷ [])) file ≡ with_updates us file ++ addition (with_updates us file) u
unfolding with_updates
with_one_more [] u file = refl
with_one_more (x ∷ us) u file = with_one_more us u (file ++ addition file x)

module _ (prefixes : PrefixesOpen) (file : Bytes) (o : Opened) (e : opens file ≡ Ok o) where
  -- A revision ends within the file, so the cut at its end is as long as that.
  pub cut_length : (k : ℕ) → 1 ≤ k → k ≤ length o.history → length (take (end_of_revision k o.history) file) ≡ end_of_revision k o.history
  cut_length k low high =
      let h = o.history in
      let part = take (end_of_revision k h) file in
      let opened = prefixes file o k e low high in
      let all : end_of_revision (length (take k h)) (take k h) ≡ length part = ends_at_length part (record { header = o.header; history = take k h }) opened in
      let n : length (take k h) ≡ k = length-take-le k h high in
      sym all ∙ ap (λ i. end_of_revision i (take k h)) n ∙ end_at k (take k h) h (at_take k k h (omega arith))

  -- A revision ends within the file.
  pub ends_within : (k : ℕ) → 1 ≤ k → k ≤ length o.history → end_of_revision k o.history ≤ length file
  ends_within k low high =
      let x = cut_length k low high in
      let y = length-take (end_of_revision k o.history) file in
      omega arith

-- The ends of revisions ascend.
pub ends_ascend : PrefixesOpen → (file : Bytes) (o : Opened) → opens file ≡ Ok o → (j k : ℕ) → 1 ≤ j → j ≤ k → k ≤ length o.history →
    end_of_revision j o.history ≤ end_of_revision k o.history
ends_ascend prefixes file o e j k low more high =
    let h = o.history in
    let part = take (end_of_revision k h) file in
    let whole : length part ≡ end_of_revision k h = cut_length prefixes file o e k (omega arith) high in
    let opened = prefixes file o k e (omega arith) high in
    let n : length (take k h) ≡ k = length-take-le k h high in
    let inner = ends_within prefixes part (record { header = o.header; history = take k h }) opened j low (omega arith) in
    let q : end_of_revision j (take k h) ≡ end_of_revision j h = end_at j (take k h) h (at_take j k h more) in
    omega arith
