-- A section that was read, as the format has it.
use Rattle.std.specs.Prelude.{◌≡◌, ℕ, true, Ok, Err, Result, MatchResult}
use Rattle.faults.specs.declared.fault.Fault.{Fault}
use Rattle.format.specs.Bytes.{Bytes}
use Rattle.format.specs.Chain as format
use Rattle.format.specs.Revisions.{one_from_zero}
use Rattle.format.specs.Sections.{listed}
use Rattle.opening.specs.declared.told.Told.{Told}
use Rattle.opening.specs.Held.{Rows, listed_by}
use Rattle.records.specs.declared.link.Link.{Link}
use Rattle.records.specs.Links.{link_at}

abbrev pub told_by : Told → format.Told
told_by t = record { size = t.size; prev = t.prev; root = t.root; root_gen = t.root_generation }

-- what the code kept of the section at an offset, and the rows it holds
pub record LinkRead (file : Bytes) (off : ℕ) (rows : Rows) (k : Link) : Type 0 where
  pub tree : format.Link
  pub is : link_at file off ≡ Ok tree
  pub here : k.offset ≡ off
  pub offset : tree.sec.offset ≡ off
  pub ends : tree.sec.end ≡ k.end
  pub says : tree.says ≡ told_by k.told
  pub listing : listed tree.sec.subsections ≡ listed_by rows
  pub one : one_from_zero tree.sec.subsections ≡ k.one_from_zero
  pub bound : format.in_bound (listed_by rows) ≡ true

-- the section at an offset was read, or its fault
abbrev pub ReadsLink : Bytes → ℕ → Rows → Result Link Fault → Type 0
ReadsLink file off rows r = MatchResult r (LinkRead file off rows) (λ f. link_at file off ≡ Err f)
