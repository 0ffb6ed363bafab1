-- The theorems on the definitions that the readers rest on.
use Rattle.std.specs.Prelude.{◌≡◌, ℕ, ◌+◌, ◌≤◌, false, length, drop, None}
use Rattle.faults.specs.declared.fault.Fault.{Fault}
use Rattle.format.specs.Bytes.{Bytes, ok, bad}
use Rattle.format.specs.Strings.{turns}
use Rattle.format.specs.Tokens.{Flaw, flawed, flaw_fault, token_at}
use Rattle.format.specs.Objects.{Obj, Entries, no_entries, entries, object_by, value_of}
use Rattle.format.specs.Frames.{body_at, frame}
use Rattle.format.specs.Sections.{trailer_at}
use Rattle.objects.specs.EntryByEntry.{EntriesFrom}
use Rattle.objects.specs.Extents.{read_by, find}
use Rattle.objects.specs.Shapes.{shaped_maybe, shape_in}
use Rattle.objects.specs.Shifts.{later_frame}

-- what is read with the check is read without it
abbrev pub Skips : Type 0
Skips = (d p : ℕ) (xs : Bytes) (o : Obj) (q : ℕ) (ys : Bytes) → object_by d p xs ≡ ok o q ys → read_by false d p xs ≡ ok o q ys

-- in a dictionary that is accepted, a walk finds the value of each key
abbrev pub Finds : Type 0
Finds =
    (d p : ℕ) (xs : Bytes) (es : Entries) (q : ℕ) (ys : Bytes) (k : Bytes) → entries (object_by d) turns no_entries p xs ≡ ok es q ys →
    shape_in (find (read_by false d) turns k None p xs) ≡ shaped_maybe (value_of k es)

-- in a dictionary that is accepted, the entries one by one are those of its tree
abbrev pub Lists : Type 0
Lists = (src : Bytes) (p : ℕ) (es : Entries) (q : ℕ) (ys : Bytes) → entries (object_by 31) turns no_entries p (drop p src) ≡ ok es q ys → EntriesFrom src p es

-- a frame is the same where every place is later by as much
abbrev pub Shifted : Type 0
Shifted = (b p : ℕ) (xs : Bytes) → frame (b + p) xs ≡ later_frame b (frame p xs)

-- The place of a fault is one of the bytes that were given, which start at p, or their end.
pub record FaultsLieWithin : Type 0 where
  pub tokens : (p : ℕ) (xs : Bytes) (f : Flaw) → (token_at p xs).kind ≡ flawed f → (flaw_fault (token_at p xs).from f).place ≤ p + length xs
  pub objects : (d p : ℕ) (xs : Bytes) (f : Fault) → object_by d p xs ≡ bad f → f.place ≤ p + length xs
  pub dictionaries : (d n : ℕ) (seen : Entries) (p : ℕ) (xs : Bytes) (f : Fault) → entries (object_by d) n seen p xs ≡ bad f → f.place ≤ p + length xs
  pub bodies : (p : ℕ) (xs : Bytes) (f : Fault) → body_at p xs ≡ bad f → f.place ≤ p + length xs
  pub frames : (p : ℕ) (xs : Bytes) (f : Fault) → frame p xs ≡ bad f → f.place ≤ p + length xs
  pub trailers : (p : ℕ) (xs : Bytes) (f : Fault) → trailer_at (token_at p xs) ≡ bad f → f.place ≤ p + length xs
