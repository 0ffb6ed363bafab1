-- A section in memory, as the format has it.
use Rattle.std.specs.Prelude.{◌≡◌, ℕ, ◌+◌, ◌<◌, ◌≤◌, length, drop}
use Rattle.format.specs.Bytes.{Bytes, ok}
use Rattle.format.specs.Objects.{no_entries, entries, object_by}
use Rattle.format.specs.Revisions.{one_from_zero}
use Rattle.format.specs.Sections as format
use Rattle.format.specs.Strings.{turns}
use Rattle.opening.specs.declared.section.Section.{Section}
use Rattle.opening.specs.Held.{Rows, listed_by}

-- The section that starts where the window src does, at the place base of the file: what the code kept of it, and the rows it holds.
pub record SectionRead (base : ℕ) (src : Bytes) (s : Section) (rows : Rows) : Type 0 where
  pub tree : format.Section
  pub is : format.section base src ≡ ok tree (base + s.end) (drop s.end src)
  pub offset : tree.offset ≡ base
  pub ends : tree.end ≡ base + s.end
  pub listed : format.listed tree.subsections ≡ listed_by rows
  pub one : one_from_zero tree.subsections ≡ s.one_from_zero
  pub marked : tree.marked ≡ base + s.mark
  pub closes : ℕ
  pub trailer : entries (object_by 31) turns no_entries s.inside (drop s.inside src) ≡ ok tree.trailer closes (drop closes src)
  pub opens : s.mark < s.inside
  pub inside : s.inside ≤ s.end
  pub within : s.end ≤ length src
