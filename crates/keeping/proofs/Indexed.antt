-- What code reads at an index of the tables is the row, and the cell, that stands there; and what it answers by a comparison.
use Rattle.std.proofs.Common.{◌≡◌, ℕ, ◌+◌, ◌-◌, ◌<◌, ◌≤◌, leb, List, length, get_or, Ok, Err, ap, arith}
use Rattle.std.proofs.lemmas.List.{get_or_default}
use Rattle.std.proofs.lemmas.Bool.{le-leb, lt-leb}
use Rattle.faults.specs.declared.fault.Fault.{Fault}
use Rattle.faults.specs.declared.reason.Reason.TheVariants.{ShortBuffer}
use Rattle.faults.specs.Faults.{refused}
use Rattle.format.specs.Bytes.{Bytes}
use Rattle.format.specs.Chain.{Answer, must}
use Rattle.entries.specs.declared.cell.Cell.{Cell}
use Rattle.entries.specs.declared.cell.Cell.TheVariants.{Used}
use Rattle.entries.specs.declared.revision.Revision.{Revision}
use Rattle.entries.specs.Cells.{part}
use Rattle.keeping.specs.Answering.{fetched_from}
use Rattle.keeping.specs.Staying.{RowAt}
use Rattle.keeping.specs.Telling.{CellAt}

pub row_read : (rs : List Revision) (k : ℕ) (d : Revision) → 1 ≤ k → k ≤ length rs → RowAt rs k (get_or rs (k - 1) d)
row_read rs k d l h = record { low = l; high = h; read = get_or_default rs (k - 1) d (get_or rs (k - 1) d) (omega arith) }

pub cell_read : {rs : List Revision} {k : ℕ} {q : Revision} (cs : List Cell) (n : ℕ) (d : Cell) → RowAt rs k q → n < q.size → q.first + n < length cs →
    CellAt cs q n (get_or cs (q.first + n) d)
cell_read {q = q} cs n d r l h = record { below = l; read = get_or_default cs (q.first + n) d (get_or cs (q.first + n) d) h }

-- a rule that a comparison meets or breaks
pub must_within : {A : Type 0} (a b : ℕ) (f : Fault) (x : A) → a ≤ b → must (leb a b) f (λ _. Ok x) ≡ Ok x
must_within {A} a b f x h = ap {B = Answer A} (λ t. must t f (λ _. Ok x)) (le-leb a b h)

pub must_past : {A : Type 0} (a b : ℕ) (f : Fault) (x : A) → b < a → must (leb a b) f (λ _. Ok x) ≡ Err f
must_past {A} a b f x h = ap {B = Answer A} (λ t. must t f (λ _. Ok x)) (lt-leb a b h)

-- a body that the buffer has room for, and one that it has not
pub fetch_whole : (file : Bytes) (n room g s e : ℕ) → e - s ≤ room → fetched_from file n room (Used g s e) ≡ Ok (g, part file s e)
fetch_whole file n room g s e h = must_within (e - s) room (refused ShortBuffer n) (g, part file s e) h

pub fetch_short : (file : Bytes) (n room g s e : ℕ) → room < e - s → fetched_from file n room (Used g s e) ≡ Err (refused ShortBuffer n)
fetch_short file n room g s e h = must_past (e - s) room (refused ShortBuffer n) (g, part file s e) h
