-- Updates, the objects that a revision shows, and what an update leaves of them.
use Rattle.std.specs.Prelude.{ℕ, suc, ◌+◌, true, false, List, [], ◌∷◌, ◌++◌, length, Some, None, Option, ◌==◌, nat_le, nat_lt, slice_set}
use Rattle.format.specs.Bytes.{Bytes}
use Rattle.format.specs.Revisions.{State, used, free, Revision, nth}

-- what becomes of a number: a body is put, or the object is removed
pub data Change : Type 0 where
  body : Bytes → Change
  removed : Change

-- An update is a set of changes, one a number. It is written by ascending numbers, so that equal sets are equal lists.
abbrev pub Update : Type 0
Update = List (ℕ × Change)

-- the update with the change of the number n set to c
unfoldable pub with_change : ℕ → Change → Update → Update
with_change n c [] = (n, c) ∷ []
with_change n c (r ∷ rs) =
    elim (nat_lt n r.0) [
      | true ↦ (n, c) ∷ r ∷ rs
      | false ↦ elim (n == r.0) [ true ↦ (n, c) ∷ rs | false ↦ r ∷ with_change n c rs ]
    ]

unfoldable pub body_length : Change → ℕ
body_length (body b) = length b
body_length removed = 0

-- how many bytes the bodies of an update have
unfoldable pub body_bytes : Update → ℕ
body_bytes [] = 0
body_bytes (r ∷ rs) = body_length r.1 + body_bytes rs

-- how many numbers of an update are new: they lie from Size on
unfoldable pub new_numbers : (size : ℕ) → Update → ℕ
new_numbers size [] = 0
new_numbers size (r ∷ rs) = elim (nat_le size r.0) [ true ↦ suc (new_numbers size rs) | false ↦ new_numbers size rs ]

-- what a revision shows of a number: in use, with its body, or vacant; and its generation
pub data Shown : Type 0 where
  in_use : (gen : ℕ) → (body : Bytes) → Shown
  vacant : (gen : ℕ) → Shown

-- the objects that a revision shows: its Size and, for each lower number, what it shows of it
pub record Objects : Type 0 where
  pub size : ℕ
  pub numbers : List Shown

unfoldable pub shown_of : State → Shown
shown_of (used g b) = in_use g b
shown_of (free g l) = vacant g

unfoldable pub shown_all : List State → List Shown
shown_all [] = []
shown_all (s ∷ ss) = shown_of s ∷ shown_all ss

unfoldable pub objects_of : Revision → Objects
objects_of r = record { size = r.size; numbers = shown_all r.states }

unfoldable pub gen_of : Option Shown → ℕ
gen_of None = 0
gen_of (Some (in_use g b)) = g
gen_of (Some (vacant g)) = g

-- Put: replaced with its generation if in use, reused with the entry's generation if free, new with generation 0 if it is the next number.
-- Remove: freed, with the generation raised by 1.
unfoldable pub apply_change : ℕ → Change → Objects → Objects
apply_change n (body b) o =
    elim (nat_lt n o.size) [
      | true ↦ record { size = o.size; numbers = slice_set o.numbers n (in_use (gen_of (nth n o.numbers)) b) }
      | false ↦
          elim (n == o.size) [
            | true ↦ record { size = suc o.size; numbers = o.numbers ++ (in_use 0 b ∷ []) }
            | false ↦ o
          ]
    ]
apply_change n removed o = record { size = o.size; numbers = slice_set o.numbers n (vacant (suc (gen_of (nth n o.numbers)))) }

-- the objects that an update leaves, its numbers ascending
unfoldable pub applied : Update → Objects → Objects
applied [] o = o
applied (r ∷ rs) o = applied rs (apply_change r.0 r.1 o)

-- one update after another, the first first
unfoldable pub applied_all : List Update → Objects → Objects
applied_all [] o = o
applied_all (u ∷ us) o = applied_all us (applied u o)

-- what a proof by computation unfolds
unfoldable pub computes_updates : Unit {0}
unfolding with_change body_length body_bytes new_numbers shown_of shown_all objects_of gen_of apply_change applied applied_all
computes_updates = tt
