-- The trailer of a section that stands in the window.
use Rattle.std.specs.Prelude.{◌≡◌, ℕ, ◌≤◌, List, length, take, drop, Result, MatchResult}
use Rattle.entries.specs.Reserving.{items_of}
use Rattle.faults.specs.declared.fault.Fault.{Fault}
use Rattle.format.specs.Bytes.{Bytes, ok, bad}
use Rattle.format.specs.Chain.{section_in, window_bytes}
use Rattle.format.specs.Objects.{no_entries, entries, object_by}
use Rattle.format.specs.Sections.{Section}
use Rattle.format.specs.Strings.{turns}
use Rattle.opening.specs.declared.section.Section as Read
use Rattle.opening.specs.Held.{Rows}
use Rattle.opening.specs.Sections.{SectionRead}
use Rattle.records.specs.declared.scratch.Scratch.{Scratch}
use Rattle.records.specs.Windows.{seen_in}

-- the bytes in the window of the memory
abbrev pub seen_by : Scratch → Bytes
seen_by s = seen_in s.window

-- the offsets of the sections that it holds
abbrev pub offsets_in : Scratch → List ℕ
offsets_in s = items_of s.offsets

-- The section at an offset was read into the window, which starts where it does, and its rows are held; or its fault.
abbrev pub SectionSeen : Bytes → ℕ → Bytes → Rows → Result Read.Section Fault → Type 0
SectionSeen file off seen rows r =
    MatchResult r (λ s. (off ≤ length file) × (seen ≡ take window_bytes (drop off file)) × SectionRead off seen s rows) (λ f. section_in file off ≡ bad f)

-- The section at an offset, whose trailer's entries stand in the window from the place `inside` on.
pub record TrailerSeen (file : Bytes) (off : ℕ) (seen : Bytes) (inside : ℕ) : Type 0 where
  pub sec : Section
  pub end : ℕ
  pub rest : Bytes
  pub read : section_in file off ≡ ok sec end rest
  pub few : length seen ≤ window_bytes
  pub within : inside ≤ length seen
  pub closes : ℕ
  pub behind : Bytes
  pub trailer : entries (object_by 31) turns no_entries inside (drop inside seen) ≡ ok sec.trailer closes behind

-- the place behind the `<<` of the trailer, or the section's fault
abbrev pub ReadsTrailer : Bytes → ℕ → Bytes → Result ℕ Fault → Type 0
ReadsTrailer file off seen r = MatchResult r (TrailerSeen file off seen) (λ f. section_in file off ≡ bad f)
