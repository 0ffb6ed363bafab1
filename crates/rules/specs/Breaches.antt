-- The first breach of the rules, in the order of the checks: length, header, tail; each section, the newest first; each revision, the oldest first.
use Rattle.std.specs.Prelude.{◌≡◌, ℕ, ◌<◌, ◌≤◌, List, length, ◌≢◌}
use Rattle.faults.specs.declared.fault.Fault.{Fault}
use Rattle.faults.specs.declared.reason.Reason.TheVariants.{NoHeader, NoTail, BadTrailer, ChainRule, FileBound}
use Rattle.faults.specs.Faults.{of_object}
use Rattle.format.specs.Bytes.{Bytes, bad}
use Rattle.format.specs.Chain.{Told, Link, section_in}
use Rattle.format.specs.Failures.{section_fault, chain_fault}
use Rattle.format.specs.Lines.{Slot}
use Rattle.format.specs.Revisions.{frame_in, file_bytes, most_revisions}
use Rattle.format.specs.Sections.{Section}
use Rattle.rules.specs.Sections.{SectionAt, Lists, Bounded, Says, PrevBelow, MayEnd, LeadsTo, Sections}
use Rattle.rules.specs.Tables.{ObjectAt, Stands, OneFromZero, EntryFits, EntriesFit, SizeFits, RootFits, ObjectFits, RevisionHolds}
use Rattle.rules.specs.Whole.{Headed, EndsWithTail}

-- Of the section that is to stand at `offset`, before the sections `newer`: the bound on revisions, its form, the bound on numbers, its trailer, Prev, where it ends.
-- Where no section stands, the fault is the one that reading meets.
pub data SectionBreach (file : Bytes) (newer : List Link) (offset : ℕ) (f : Fault) : Type 0 where
  many : length newer ≡ most_revisions → f ≡ chain_fault FileBound 0 0 → SectionBreach file newer offset f
  form : length newer < most_revisions → ((s : Section) → SectionAt file s → s.offset ≢ offset) → section_in file offset ≡ bad f → SectionBreach file newer offset f
  numbers : length newer < most_revisions → (s : Section) → SectionAt file s → s.offset ≡ offset → (Bounded s → ⊥) →
      f ≡ chain_fault FileBound 0 0 → SectionBreach file newer offset f
  trailer : length newer < most_revisions → (s : Section) → SectionAt file s → s.offset ≡ offset → Bounded s →
      ((t : Told) → Says s.trailer t → ⊥) → f ≡ section_fault BadTrailer s.marked → SectionBreach file newer offset f
  prev : length newer < most_revisions → (s : Section) → SectionAt file s → s.offset ≡ offset → Bounded s → (t : Told) → Says s.trailer t →
      (PrevBelow offset t → ⊥) → f ≡ chain_fault ChainRule offset 0 → SectionBreach file newer offset f
  end : length newer < most_revisions → (s : Section) → SectionAt file s → s.offset ≡ offset → Bounded s → (t : Told) → Says s.trailer t →
      PrevBelow offset t → (MayEnd file newer s.end → ⊥) → f ≡ chain_fault ChainRule offset 0 → SectionBreach file newer offset f

-- of a section's entries, by ascending number, the first that does not fit
pub record EntryBreach (l : Link) (f : Fault) : Type 0 where
  pub number : ℕ
  pub entry : Slot
  pub lists : Lists l.sec number entry
  pub lower : (n : ℕ) (e : Slot) → n < number → Lists l.sec n e → EntryFits l.sec.offset l.says.size n e
  pub misfit : EntryFits l.sec.offset l.says.size number entry → ⊥
  pub fault : f ≡ chain_fault ChainRule l.sec.offset number

-- What is wrong with the object at an entry: no object stands there, and the fault is the one that reading meets; or it bears another number or generation.
pub data ObjectFault (file : Bytes) (l : Link) (n : ℕ) (e : Slot) (f : Fault) : Type 0 where
  unread : ((m h : ℕ) (body : Bytes) → ObjectAt file l.sec.offset e.field m h body → ⊥) →
      (g : Fault) → frame_in file l.sec.offset e.field ≡ bad g → f ≡ of_object n g → ObjectFault file l n e f
  another : (m h : ℕ) (body : Bytes) → ObjectAt file l.sec.offset e.field m h body → ((m ≡ n) × (h ≡ e.gen) → ⊥) →
      f ≡ chain_fault ChainRule l.sec.offset n → ObjectFault file l n e f

-- of a section's entries, by ascending number, the first whose object does not fit
pub record ObjectBreach (file : Bytes) (l : Link) (f : Fault) : Type 0 where
  pub number : ℕ
  pub entry : Slot
  pub lists : Lists l.sec number entry
  pub lower : (n : ℕ) (e : Slot) → n < number → Lists l.sec n e → ObjectFits file l n e
  pub misfit : ObjectFits file l number entry → ⊥
  pub fault : ObjectFault file l number entry f

-- Of the revision of the section l, at place k: the oldest's one subsection, its entries, Size, Root, its objects.
pub data RevisionBreach (file : Bytes) (links : List Link) (k : ℕ) (l : Link) (f : Fault) : Type 0 where
  oldest : k ≡ 0 → (OneFromZero l.sec → ⊥) → f ≡ chain_fault ChainRule l.sec.offset 0 → RevisionBreach file links k l f
  entry : (k ≡ 0 → OneFromZero l.sec) → EntryBreach l f → RevisionBreach file links k l f
  size : (k ≡ 0 → OneFromZero l.sec) → EntriesFit l → (SizeFits links k l → ⊥) → f ≡ chain_fault ChainRule l.sec.offset 0 → RevisionBreach file links k l f
  root : (k ≡ 0 → OneFromZero l.sec) → EntriesFit l → SizeFits links k l → (RootFits links k l → ⊥) →
      f ≡ chain_fault ChainRule l.sec.offset l.says.root → RevisionBreach file links k l f
  object : (k ≡ 0 → OneFromZero l.sec) → EntriesFit l → SizeFits links k l → RootFits links k l → ObjectBreach file l f → RevisionBreach file links k l f

-- The first check of the file that fails, and its fault.
pub data FirstBreach (file : Bytes) (f : Fault) : Type 0 where
  bytes : (length file ≤ file_bytes → ⊥) → f ≡ chain_fault FileBound 0 0 → FirstBreach file f
  header : length file ≤ file_bytes → (Headed file → ⊥) → f ≡ chain_fault NoHeader 0 0 → FirstBreach file f
  tail : length file ≤ file_bytes → Headed file → ((n : ℕ) → EndsWithTail file n → ⊥) → f ≡ chain_fault NoTail (length file) 0 → FirstBreach file f
  section : length file ≤ file_bytes → Headed file → (newer : List Link) (offset : ℕ) → LeadsTo file newer offset →
      SectionBreach file newer offset f → FirstBreach file f
  revision : length file ≤ file_bytes → Headed file → (links : List Link) → Sections file links → length links ≤ most_revisions →
      (k : ℕ) (l : Link) → Stands links k l → ((j : ℕ) (m : Link) → j < k → Stands links j m → RevisionHolds file links j m) →
      RevisionBreach file links k l f → FirstBreach file f
