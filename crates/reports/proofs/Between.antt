-- Two revisions of a book, and the numbers of which something became.
use Rattle.std.proofs.Common.{◌≡◌, ℕ, suc, ◌+◌, ◌-◌, ◌<◌, max, false, List, [], ◌∷◌, ◌++◌, Some, None, Ok, Err, Option, sym, refl, ap, ◌∙◌, append_assoc, arith}
use Rattle.faults.specs.declared.fault.Fault.{Fault}
use Rattle.faults.specs.declared.reason.Reason.TheVariants.{NoRevision}
use Rattle.faults.specs.Faults.{refused}
use Rattle.chains.proofs.Steps.{by_answer, never_answer, answered}
use Rattle.locality.proofs.Cases.{cases, cases_o}
use Rattle.format.specs.Account.{objects_at}
use Rattle.format.specs.Book.{Moment, revision_at, history}
use Rattle.format.specs.Chain.{Answer, also}
use Rattle.format.specs.Questions as format
use Rattle.format.specs.Questions.{is_shut, ask_history, ask_revision, ask_list, listing_of}
use Rattle.format.specs.Revisions.{Revision}
use Rattle.format.specs.Updates.{objects_of}
use Rattle.book.specs.Differences.{difference, ask_differ}
use Rattle.book.specs.declared.book.compare.Difference.{Difference}
use Rattle.reports.specs.declared.differences.Change.{Change}
use Rattle.reports.specs.Differences.{listing, differing, differences, ask_differences, pair_of, pairs_of}

abbrev found : ℕ → Option Revision → Answer Revision
found n o = elim o [ None ↦ Err (refused NoRevision n) | Some r ↦ Ok r ]

-- a revision that is shown: the book is not shut, and it is the one in the history
pub record Seen (m : Moment) (k : ℕ) (r : Revision) : Type 0 where
  pub unshut : is_shut m.phase ≡ false
  pub there : revision_at k (history m.store.bytes) ≡ Some r

pub seen : (m : Moment) (n k : ℕ) (r : Revision) → ask_revision m n k ≡ Ok r → Seen m k r
unfolding ask_revision ask_history
seen m n k r h =
    cases (is_shut m.phase) (λ t. never_answer (rw (t, ask_history) at h))
    (λ t.
    let h' : found n (revision_at k (history m.store.bytes)) ≡ Ok r = rw (t, ask_history) at h in
    cases_o (revision_at k (history m.store.bytes)) (λ e. never_answer (sym (ap (found n) e) ∙ h'))
    (λ s e. let q : s ≡ r = answered (sym (ap (found n) e) ∙ h') in record { unshut = t; there = e ∙ ap Some q }))

-- it is shown whatever object the question names
pub shown_again : (m : Moment) (n k : ℕ) (r : Revision) → Seen m k r → ask_revision m n k ≡ Ok r
unfolding ask_revision ask_history
shown_again m n k r s =
    let e : ask_history m n ≡ Ok (history m.store.bytes) = rw (s.unshut, ask_history) refl in
    ap (λ a. also a (λ rs. found n (revision_at k rs))) e ∙ ap (found n) s.there

pub objects_seen : (m : Moment) (k : ℕ) (r : Revision) → Seen m k r → objects_at m.store.bytes k ≡ objects_of r
unfolding objects_at
objects_seen m k r s = rw (s.there, objects_at) refl

-- what list answers
pub record ListedAs (m : Moment) (k : ℕ) (size : ℕ) : Type 0 where
  pub r : Revision
  pub shown : Seen m k r
  pub is : size ≡ (objects_of r).size

pub list_shows : (m : Moment) (k : ℕ) (x : format.Listing) → ask_list m k ≡ Ok x → ListedAs m k x.size
unfolding ask_list listing_of
list_shows m k x h =
    by_answer (ask_revision m 0 k)
    (λ r e.
    let q : listing_of r ≡ x = answered (sym (ap (λ a. also a (λ r. Ok (listing_of r))) e) ∙ h) in
    record { r = r; shown = seen m 0 k r e; is = ap (λ y. y.size) (sym q) })
    (λ f e. never_answer (sym (ap (λ a. also a (λ r. Ok (listing_of r))) e) ∙ h))

pub list_refuses : (m : Moment) (k : ℕ) (f : Fault) → ask_list m k ≡ Err f → ask_revision m 0 k ≡ Err f
unfolding ask_list listing_of
list_refuses m k f h =
    by_answer (ask_revision m 0 k) (λ r e. never_answer (sym h ∙ ap (λ a. also a (λ r. Ok (listing_of r))) e))
    (λ g e.
    let q : ◌≡◌ {A = Answer format.Listing} (Err g) (Err f) = sym (ap (λ a. also a (λ r. Ok (listing_of r))) e) ∙ h in
    let z : g ≡ f = cc in e ∙ ap Err z)

-- the question refused at the first revision, at the second, and answered
pub refused_first : (m : Moment) (j k : ℕ) (f : Fault) → ask_list m j ≡ Err f → ask_differences m j k ≡ Err f
unfolding ask_differences
refused_first m j k f h = rw (list_refuses m j f h) refl

pub refused_second : (m : Moment) (j k size : ℕ) (f : Fault) → ListedAs m j size → ask_list m k ≡ Err f → ask_differences m j k ≡ Err f
unfolding ask_differences
refused_second m j k size f a h = rw (shown_again m 0 j a.r a.shown) (rw (list_refuses m k f h) refl)

-- what became of a number, by the objects of both
abbrev pub between : Moment → (j k n : ℕ) → Option Difference
between m j k n = difference n (objects_at m.store.bytes j) (objects_at m.store.bytes k)

pub differ_shows : (m : Moment) (j k n x y : ℕ) → ListedAs m j x → ListedAs m k y → ask_differ m j k n ≡ Ok (between m j k n)
unfolding ask_differ
differ_shows m j k n x y a b =
    rw (shown_again m n j a.r a.shown)
    (rw (shown_again m n k b.r b.shown) (rw (objects_seen m j a.r a.shown, objects_seen m k b.r b.shown) refl))

-- the numbers from n on, in the bytes of a moment
abbrev pub behind : Moment → (j k count n : ℕ) → List (ℕ × Difference)
behind m j k count n = differing (count - n) n (objects_at m.store.bytes j) (objects_at m.store.bytes k)

pub all_shown : (m : Moment) (j k x y : ℕ) → ListedAs m j x → ListedAs m k y → ask_differences m j k ≡ Ok (behind m j k (max x y) 0)
unfolding ask_differences differences
all_shown m j k x y a b =
    let z : max x y - 0 ≡ max (objects_of a.r).size (objects_of b.r).size = let p = a.is in let q = b.is in cc (sub_zero (max x y)) in
    rw (shown_again m 0 j a.r a.shown)
    (rw (shown_again m 0 k b.r b.shown) (rw (objects_seen m j a.r a.shown, objects_seen m k b.r b.shown, z) refl))
  where
    sub_zero : (n : ℕ) → n - 0 ≡ n
    sub_zero n = omega arith

-- one number further
pub behind_more : (m : Moment) (j k count n : ℕ) → n < count → behind m j k count n ≡ listing n (between m j k n) (behind m j k count (n + 1))
unfolding differing
behind_more m j k count n l =
    let e : count - n ≡ suc (count - (n + 1)) = omega arith in
    let s : suc n ≡ n + 1 = omega arith in
    let a = objects_at m.store.bytes j in
    let b = objects_at m.store.bytes k in
    ap (λ c. differing c n a b) e ∙ ap (λ i. listing n (between m j k n) (differing (count - (n + 1)) i a b)) s

pub behind_none : (m : Moment) (j k count n : ℕ) → count - n ≡ 0 → behind m j k count n ≡ []
unfolding differing
behind_none m j k count n e = ap (λ c. differing c n (objects_at m.store.bytes j) (objects_at m.store.bytes k)) e

-- what is listed so far with one change more
pub pairs_push : (cs : List Change) (c : Change) → pairs_of (cs ++ (c ∷ [])) ≡ pairs_of cs ++ (pair_of c ∷ [])
pairs_push [] c = refl
pairs_push (d ∷ cs) c = ap (λ t. pair_of d ∷ t) (pairs_push cs c)

-- an option that holds nothing
pub none_if : {A : Type 0} (o : Option A) → ((x : A) → o ≡ Some x → ⊥) → o ≡ None
none_if None h = refl
none_if (Some x) h = absurd (h x refl)

-- one number further: nothing became of it, or it is listed
pub none_listed : (m : Moment) (j k count n : ℕ) (cs : List Change) → n < count → between m j k n ≡ None →
    pairs_of cs ++ behind m j k count n ≡ pairs_of cs ++ behind m j k count (n + 1)
none_listed m j k count n cs l e =
    ap (λ t. pairs_of cs ++ t) (behind_more m j k count n l ∙ ap (λ o. listing n o (behind m j k count (n + 1))) e)

pub one_listed : (m : Moment) (j k count n : ℕ) (cs : List Change) (d : Difference) → n < count → between m j k n ≡ Some d →
    pairs_of cs ++ behind m j k count n ≡ pairs_of (cs ++ (record { number = n; difference = d } ∷ [])) ++ behind m j k count (n + 1)
one_listed m j k count n cs d l e =
    let rest = behind m j k count (n + 1) in
    ap (λ t. pairs_of cs ++ t) (behind_more m j k count n l ∙ ap (λ o. listing n o rest) e)
    ∙ (sym (append_assoc (pairs_of cs) ((n, d) ∷ []) rest) ∙ ap (λ t. t ++ rest) (sym (pairs_push cs (record { number = n; difference = d }))))
