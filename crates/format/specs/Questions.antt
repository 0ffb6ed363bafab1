-- The questions to a book: they show committed revisions and change nothing.
use Rattle.std.specs.Prelude.{ℕ, suc, Bool, true, false, List, [], ◌∷◌, ◌++◌, length, take, drop, Some, None, Ok, Err, Option, nat_le}
use Rattle.faults.specs.declared.reason.Reason.TheVariants.{BookShut, NoRevision, NotInUse, ShortBuffer, NoSpace}
use Rattle.faults.specs.Faults.{refused}
use Rattle.format.specs.Bytes.{Bytes}
use Rattle.format.specs.Book.{Phase, shut, standing, updating, Moment, history, revision_at}
use Rattle.format.specs.Chain.{Answer, also, must}
use Rattle.format.specs.Revisions.{Revision, nth}
use Rattle.format.specs.Updates.{Shown, in_use, vacant, objects_of}

unfoldable pub is_shut : Phase → Bool
is_shut shut = true
is_shut standing = false
is_shut (updating u) = false

-- the revisions that a book shows; `n` is the object that the question names, 0 if none
unfoldable pub ask_history : Moment → ℕ → Answer (List Revision)
ask_history m n = elim (is_shut m.phase) [ true ↦ Err (refused BookShut n) | false ↦ Ok (history m.store.bytes) ]

-- revision k, where there is one
unfoldable pub ask_revision : Moment → ℕ → ℕ → Answer Revision
ask_revision m n k =
    also (ask_history m n) (λ rs. elim (revision_at k rs) [ None ↦ Err (refused NoRevision n) | Some r ↦ Ok r ])

-- how many revisions there are
unfoldable pub ask_count : Moment → Answer ℕ
ask_count m = also (ask_history m 0) (λ rs. Ok (length rs))

unfoldable pub count_in_use : List Shown → ℕ
count_in_use [] = 0
count_in_use (in_use g b ∷ ss) = suc (count_in_use ss)
count_in_use (vacant g ∷ ss) = count_in_use ss

-- what list answers of a revision: its section's offset, its end, its Size, how many numbers are in use
pub record Listing : Type 0 where
  pub offset : ℕ
  pub end : ℕ
  pub size : ℕ
  pub count : ℕ

unfoldable pub listing_of : Revision → Listing
listing_of r = record { offset = r.offset; end = r.end; size = (objects_of r).size; count = count_in_use (objects_of r).numbers }

unfoldable pub ask_list : Moment → ℕ → Answer Listing
ask_list m k = also (ask_revision m 0 k) (λ r. Ok (listing_of r))

-- the generation and the body of a number in use
unfoldable pub shown_object : ℕ → Option Shown → Answer (ℕ × Bytes)
shown_object n None = Err (refused NotInUse n)
shown_object n (Some (vacant g)) = Err (refused NotInUse n)
shown_object n (Some (in_use g b)) = Ok (g, b)

-- Fetch of the number n in revision k into a buffer of `room` bytes: its generation and its body.
unfoldable pub ask_fetch : Moment → (k n room : ℕ) → Answer (ℕ × Bytes)
ask_fetch m k n room =
    also (ask_revision m n k)
    (λ r.
    also (shown_object n (nth n (objects_of r).numbers))
    (λ o. must (nat_le (length o.1) room) (refused ShortBuffer n) (λ _. Ok o)))

-- the buffer after an accepted fetch: the body fills its start, the rest keeps its bytes
unfoldable pub fill_start : Bytes → Bytes → Bytes
fill_start b buffer = b ++ drop (length b) buffer

-- Drawing out revision k into a second store: the bytes up to its end, if that store's space suffices.
unfoldable pub ask_draw : Moment → (k : ℕ) → (space : ℕ) → Answer Bytes
ask_draw m k space =
    also (ask_revision m 0 k)
    (λ r. let b = take r.end m.store.bytes in must (nat_le (length b) space) (refused NoSpace 0) (λ _. Ok b))

-- what a proof by computation unfolds
unfoldable pub computes_questions : Unit {0}
unfolding is_shut ask_history ask_revision ask_count count_in_use listing_of ask_list shown_object ask_fetch fill_start ask_draw
computes_questions = tt
