-- The entries of the previous trailer, copied.
use Rattle.std.specs.Prelude.{◌≡◌, ℕ, ◌+◌, ◌<◌, ◌≤◌, Bool, true, false, [], length, drop}
use Rattle.format.specs.Bytes.{Bytes, Got, ok, bad}
use Rattle.format.specs.Strings.{turns}
use Rattle.format.specs.Objects.{Entries, no_entries, entries, object_by}
use Rattle.format.specs.Writing.{is_rewritten}
use Rattle.entries.specs.Cells.{part}
use Rattle.lexer.specs.Spelled.{spelled}
use Rattle.objects.specs.declared.shape.Entry.{Entry}
use Rattle.writer.specs.Pieces.{pair_bytes}

-- the bytes from the place `inside` on, behind the mark that opens a dictionary, are read as these entries
abbrev pub ReadAs : Bytes → ℕ → Entries → Type 0
ReadAs src inside es = (q : ℕ) × (ys : Bytes) × (entries (object_by 31) turns no_entries inside (drop inside src) ≡ ok es q ys)

-- they are read as some entries
abbrev pub Readable : Bytes → ℕ → Type 0
Readable src inside = (es : Entries) × ReadAs src inside es

-- the same, as a test
abbrev pub is_got : {A : Type 0} → Got A → Bool
is_got (ok x q ys) = true
is_got (bad f) = false

unfoldable pub is_read : Bytes → ℕ → Bool
is_read src inside = is_got (entries (object_by 31) turns no_entries inside (drop inside src))

-- an entry lies within the bytes, its key before its value
pub record Lies (src : Bytes) (e : Entry) : Type 0 where
  pub named : e.key < e.behind
  pub apart : e.behind ≤ e.value.start
  pub valued : e.value.start < e.value.end
  pub ends : e.value.end ≤ length src

-- what is copied of an entry: nothing of Size and of Prev, else its key and its value
abbrev pub copy_of : Bytes → Entry → Bytes
copy_of src e =
    elim (is_rewritten (spelled (part src (e.key + 1) e.behind))) [
      | true ↦ []
      | false ↦ pair_bytes (part src e.key e.behind) (part src e.value.start e.value.end)
    ]
