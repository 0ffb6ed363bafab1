-- A section in a file, and what its trailer says (ISO 32000-1, 7.5.4 to 7.5.6).
use Rattle.std.specs.Prelude.{◌≡◌, ℕ, ◌+◌, ◌<◌, ◌≤◌, ◌⊎◌, List, [], ◌∷◌, ◌++◌, length, take, drop, ℤ, pos, Some, None, codes, Option, ◌≢◌}
use Rattle.format.specs.Bytes.{Bytes}
use Rattle.format.specs.Chain.{window_bytes, Told, Link}
use Rattle.format.specs.Lines.{Slot}
use Rattle.format.specs.Objects.{null, integer, ref, Entries, value_of}
use Rattle.format.specs.Revisions.{nth}
use Rattle.format.specs.Sections.{Section, Listed, listed}
use Rattle.rules.specs.Forms.{SectionBytes}
use Rattle.rules.specs.Whole.{cr, EndsWithTail}

-- The section s stands in the file, from its offset to its end. What lies more than 32,768 bytes behind its offset counts as absent.
pub record SectionAt (file : Bytes) (s : Section) : Type 0 where
  pub own : Bytes
  pub behind : Bytes
  pub window : take window_bytes (drop s.offset file) ≡ own ++ behind
  pub form : SectionBytes s own
  pub end : s.end ≡ s.offset + length own
  -- where its last line ends in CR, no LF stands behind it: they would be one end of line
  pub whole : form.tail.mark ≡ cr → (more : Bytes) → behind ≢ 10 ∷ more

-- what a section lists: numbers with their entries
abbrev pub rows : Section → Listed
rows s = listed s.subsections

-- the section lists the number n with the entry e
abbrev pub Lists : Section → ℕ → Slot → Type 0
Lists s n e = (i : ℕ) × (nth i (rows s) ≡ Some (n, e))

-- every number that it lists is at most 999
abbrev pub Bounded : Section → Type 0
Bounded s = (n : ℕ) (e : Slot) → Lists s n e → n ≤ 999

-- a trailer has no entry for the key; null counts as none
abbrev pub Absent : Bytes → Entries → Type 0
Absent key es = (value_of key es ≡ None) ⊎ (value_of key es ≡ Some null)

-- Prev is absent, or a direct integer
abbrev pub PrevIs : Entries → Option ℤ → Type 0
PrevIs es None = Absent (codes "Prev") es
PrevIs es (Some z) = value_of (codes "Prev") es ≡ Some (integer z)

-- What a trailer says: Size and Prev are direct integers, Root is a reference, Encrypt and XRefStm are absent; only Prev may be absent.
pub record Says (es : Entries) (t : Told) : Type 0 where
  pub size : value_of (codes "Size") es ≡ Some (integer t.size)
  pub prev : PrevIs es t.prev
  pub root : value_of (codes "Root") es ≡ Some (ref t.root t.root_gen)
  pub encrypt : Absent (codes "Encrypt") es
  pub stream : Absent (codes "XRefStm") es

-- Prev, where there is one, is from 0 and below the section's offset
abbrev pub PrevBelow : (offset : ℕ) → Told → Type 0
PrevBelow offset t = (z : ℤ) → t.prev ≡ Some z → (b : ℕ) × (z ≡ pos b) × (b < offset)

-- A revision may end there: the newest at the file's end, any other at or before the next section. Of `newer`, the sections behind it, the oldest stands first.
abbrev pub MayEnd : Bytes → (newer : List Link) → ℕ → Type 0
MayEnd file [] e = e ≡ length file
MayEnd file (l ∷ newer) e = e ≤ l.sec.offset

-- the rules of one section, of which `newer` are those behind it
pub record SectionHolds (file : Bytes) (newer : List Link) (l : Link) : Type 0 where
  pub form : SectionAt file l.sec
  pub numbers : Bounded l.sec
  pub trailer : Says l.sec.trailer l.says
  pub prev : PrevBelow l.sec.offset l.says
  pub end : MayEnd file newer l.sec.end

-- From the file's tail back through the sections `newer`, of which the rules of a section hold, to the offset where one more is to stand.
abbrev pub LeadsTo : Bytes → (newer : List Link) → ℕ → Type 0
LeadsTo file [] offset = EndsWithTail file offset
LeadsTo file (l ∷ newer) offset =
    LeadsTo file newer l.sec.offset × SectionHolds file newer l × (l.says.prev ≡ Some (pos offset))

-- all sections of a file, the oldest first: the rules of a section hold of each, and the oldest has no Prev
abbrev pub Sections : Bytes → List Link → Type 0
Sections file [] = ⊥
Sections file (l ∷ newer) = LeadsTo file newer l.sec.offset × SectionHolds file newer l × (l.says.prev ≡ None)
