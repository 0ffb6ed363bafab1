-- The rows of an update: they ascend, number 0 is the first, and each number in use has its object at its row's offset. Assumes nothing.
use Rattle.std.proofs.Common.{◌≡◌, ℕ, suc, ◌+◌, ◌<◌, ◌≤◌, List, [], ◌∷◌, ◌++◌, length, None, Option, sym, refl, ◌∙◌, append_assoc, arith, length-append}
use Rattle.format.specs.Bytes.{Bytes}
use Rattle.format.specs.Lines.{Slot}
use Rattle.format.specs.Revisions.{State, find}
use Rattle.format.specs.Sections.{Listed}
use Rattle.format.specs.Updates.{Update}
use Rattle.format.specs.Writing.{framed_bytes, free_slot}
use Rattle.sections.specs.Written.{listed_of}
use Rattle.tables.specs.Rows.{RowsAscend, RowsWritten}
use Rattle.tables.proofs.Finds.{true_false, find_past}
use Rattle.tables.proofs.Cells.{Sheet, ends, stays, frees, writes}

-- rows that ascend from a number do so from a lower one
pub ascend_lower : (low mid high : ℕ) (rows : Listed) → low ≤ mid → RowsAscend mid high rows → RowsAscend low high rows
ascend_lower low mid high [] h a = tt
ascend_lower low mid high (r ∷ rs) h a = (let k : mid ≤ r.0 = a.0 in omega arith, a.1, a.2)

-- below where rows start there is none
pub ascend_find : (low high n : ℕ) (rows : Listed) → RowsAscend low high rows → n < low → find n rows ≡ None
unfolding find
ascend_find low high n [] a h = refl
ascend_find low high n (r ∷ rs) a h =
    let k : low ≤ r.0 = a.0 in
    find_past n r rs (λ e. absurd (omega arith)) ∙ ascend_find (suc r.0) high n rs a.2 (omega arith)

module _ (old : List State) (u : Update) (N : ℕ) where
  -- the rows ascend, below the new Size
  pub sheet_ascends : {n p : ℕ} {ls : List (Option Slot)} {ss : List State} {os : Bytes} → Sheet old u N n p ls ss os → RowsAscend n N (listed_of n ls)
  unfolding listed_of
  sheet_ascends (ends e) = tt
  sheet_ascends {n} (stays {ls = ls} s a b c d e f t) = ascend_lower n (suc n) N (listed_of (suc n) ls) (omega arith) (sheet_ascends t)
  sheet_ascends {n} (frees g l b c d e s f k t) = (omega arith, b, sheet_ascends t)
  sheet_ascends {n} (writes g c b d e f t) = (omega arith, b, sheet_ascends t)

  -- number 0 is the first row
  pub sheet_first : {n p : ℕ} {ls : List (Option Slot)} {ss : List State} {os : Bytes} → Sheet old u N n p ls ss os → 1 ≤ N → n ≡ 0 →
      (s : Slot) × (rest : Listed) × (listed_of n ls ≡ (0, s) ∷ rest)
  unfolding listed_of
  sheet_first (ends e) h z = absurd (omega arith)
  sheet_first (stays s a b c d e f t) h z = absurd (omega arith)
  sheet_first {n} (frees {ls = ls} g l b c d e s f k t) h z = (free_slot l g, listed_of (suc n) ls, λ i. (z i, free_slot l g) ∷ listed_of (suc n) ls)
  sheet_first (writes g c b d e f t) h z = absurd (let k = f.0 in omega arith)

  -- each number in use has its object where its row says
  pub sheet_written : {n p : ℕ} {ls : List (Option Slot)} {ss : List State} {os : Bytes} → Sheet old u N n p ls ss os →
      (at : ℕ) (all before : Bytes) → all ≡ before ++ os → p ≡ at + length before → RowsWritten old u at all (listed_of n ls)
  unfolding listed_of
  sheet_written (ends e) at all before q r = tt
  sheet_written (stays s a b c d e f t) at all before q r = sheet_written t at all before q r
  sheet_written (frees g l b c d e s f k t) at all before q r = (λ z. true_false (sym z), sheet_written t at all before q r)
  sheet_written {n} {p} (writes {os = os} g b h d e f t) at all before q r = (
    λ z. record { content = b; before = before; behind = os; put = d; gen = e; place = r; bytes = q },
    sheet_written t at all (before ++ framed_bytes n g b) (q ∙ sym (append_assoc before (framed_bytes n g b) os))
        (rw length-append (omega arith)),
  )
