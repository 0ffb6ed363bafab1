-- What the questions answer.
use Rattle.std.specs.Prelude.{◌≡◌, ℕ, List, length, Ok, Err, Result}
use Rattle.faults.specs.declared.fault.Fault.{Fault}
use Rattle.stores.specs.Meanings.{Meaning}
use Rattle.format.specs.Book.{Moment}
use Rattle.format.specs.Bytes.{Bytes}
use Rattle.format.specs.Chain.{Answer}
use Rattle.format.specs.Questions as format
use Rattle.entries.specs.declared.cell.Cell.{Cell}
use Rattle.entries.specs.declared.revision.Revision.{Revision}
use Rattle.keeping.specs.Answering.{OpenBook}
use Rattle.keeping.specs.Staying.{RowAt}
use Rattle.book.specs.declared.book.questions.Listing.{Listing}
use Rattle.book.specs.Copies.{Grown}

abbrev pub listed : Result Listing Fault → Answer format.Listing
listed (Ok l) = Ok (record { offset = l.offset; end = l.end; size = l.size; count = l.in_use })
listed (Err f) = Err f

-- the row of revision k of an open book, or what refuses a question about it that names the number n
abbrev pub RowAsked : Moment → List Revision → List Cell → (n k : ℕ) → Result Revision Fault → Type 0
RowAsked m rs cs n k (Ok q) = OpenBook m rs cs × RowAt rs k q
RowAsked m rs cs n k (Err f) = format.ask_revision m n k ≡ Err f

-- a fetch into a buffer: generation and length together, the body fills the start, the rest keeps its bytes; a refusal leaves the buffer as it was
abbrev pub Fetches : Moment → (k n : ℕ) → Bytes → Result (ℕ × ℕ) Fault → Bytes → Type 0
Fetches m k n was (Ok r) is = (b : Bytes) × (format.ask_fetch m k n (length was) ≡ Ok (r.0, b)) × (r.1 ≡ length b) × (is ≡ format.fill_start b was)
Fetches m k n was (Err f) is = (format.ask_fetch m k n (length was) ≡ Err f) × (is ≡ was)

-- drawing out into a second store: the bytes up to the revision's end are joined behind what it held; a refusal leaves it as it was
abbrev pub Draws : Moment → (k : ℕ) → Meaning → Result (Unit {0}) Fault → Meaning → Type 0
Draws m k was (Ok u) is = (b : Bytes) × (format.ask_draw m k was.space ≡ Ok b) × Grown was b is
Draws m k was (Err f) is = (format.ask_draw m k was.space ≡ Err f) × (is ≡ was)
