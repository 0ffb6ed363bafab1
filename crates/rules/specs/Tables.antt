-- The table of a revision, and its objects (ISO 32000-1, 7.5.4 and 7.5.6). The sections of a file stand in a list, the oldest first; places count from 0.
use Rattle.std.specs.Prelude.{◌≡◌, ℕ, suc, ◌-◌, ◌<◌, ◌≤◌, min, true, false, List, [], ◌∷◌, length, take, drop, ℤ, pos, negsuc, Some}
use Rattle.format.specs.Bytes.{Bytes}
use Rattle.format.specs.Chain.{window_bytes, Link}
use Rattle.format.specs.Lines.{Slot}
use Rattle.format.specs.Revisions.{State, used, free, Revision, nth}
use Rattle.format.specs.Sections.{Section, Sub}
use Rattle.rules.specs.Frames.{ObjectBytes}
use Rattle.rules.specs.Sections.{Lists}

-- the section l stands at place k
abbrev pub Stands : List Link → ℕ → Link → Type 0
Stands links k l = nth k links ≡ Some l

-- one of the first k sections lists the number n
pub record Known (links : List Link) (k n : ℕ) : Type 0 where
  pub place : ℕ
  pub early : place < k
  pub link : Link
  pub stands : Stands links place link
  pub entry : Slot
  pub lists : Lists link.sec n entry

-- of the first k sections, the newest that lists the number n is l, with the entry e
pub record Newest (links : List Link) (k n : ℕ) (l : Link) (e : Slot) : Type 0 where
  pub place : ℕ
  pub early : place < k
  pub stands : Stands links place l
  pub lists : Lists l.sec n e
  pub since : (i : ℕ) (m : Link) → place < i → i < k → Stands links i m → (d : Slot) → Lists m.sec n d → ⊥

-- the oldest section has one subsection, from 0
pub record OneFromZero (s : Section) : Type 0 where
  pub only : Sub
  pub is : s.subsections ≡ only ∷ []
  pub first : only.first ≡ 0

abbrev pub Under : ℕ → ℤ → Type 0
Under n (pos z) = n < z
Under n (negsuc z) = ⊥

-- An entry of the number n in a section at `offset` whose trailer gives that Size. In use: number 1 or more, generation at most 65534, offset below its section.
-- Free: generation at most 65535, a link below Size, and for number 0 the generation 65535.
pub record EntryFits (offset : ℕ) (size : ℤ) (n : ℕ) (e : Slot) : Type 0 where
  pub when_used : e.in_use ≡ true → (1 ≤ n) × (e.gen ≤ 65534) × (e.field < offset)
  pub when_free : e.in_use ≡ false → (e.gen ≤ 65535) × Under e.field size × (n ≡ 0 → e.gen ≡ 65535)

abbrev pub EntriesFit : Link → Type 0
EntriesFit l = (n : ℕ) (e : Slot) → Lists l.sec n e → EntryFits l.sec.offset l.says.size n e

-- Size is 1 plus the highest number listed so far, and every lower number has an entry: below Size stand the known numbers and no others.
pub record SizeFits (links : List Link) (k : ℕ) (l : Link) : Type 0 where
  pub size : ℕ
  pub is : l.says.size ≡ pos size
  pub highest : (n : ℕ) → Known links (suc k) n → n < size
  pub every : (n : ℕ) → n < size → Known links (suc k) n

-- Root is in use with its generation, by its newest entry
pub record RootFits (links : List Link) (k : ℕ) (l : Link) : Type 0 where
  pub link : Link
  pub entry : Slot
  pub newest : Newest links (suc k) l.says.root link entry
  pub in_use : entry.in_use ≡ true
  pub gen : entry.gen ≡ l.says.root_gen

-- The object with that number, generation and body stands at `at`, where a section at `offset` lists it.
-- What lies behind the section's start, or more than 32,768 bytes behind `at`, counts as absent.
abbrev pub ObjectAt : Bytes → (offset at n g : ℕ) → (body : Bytes) → Type 0
ObjectAt file offset at n g body = ObjectBytes at n g body (take (min window_bytes (offset - at)) (drop at file))

-- the object at an entry in use bears its number and its generation
abbrev pub ObjectFits : Bytes → Link → ℕ → Slot → Type 0
ObjectFits file l n e = e.in_use ≡ true → (body : Bytes) × ObjectAt file l.sec.offset e.field n e.gen body

abbrev pub ObjectsFit : Bytes → Link → Type 0
ObjectsFit file l = (n : ℕ) (e : Slot) → Lists l.sec n e → ObjectFits file l n e

-- the rules of one revision, that of the section l at place k
pub record RevisionHolds (file : Bytes) (links : List Link) (k : ℕ) (l : Link) : Type 0 where
  pub oldest : k ≡ 0 → OneFromZero l.sec
  pub entries : EntriesFit l
  pub size : SizeFits links k l
  pub root : RootFits links k l
  pub objects : ObjectsFit file l

-- what a revision shows of the number n, whose newest entry is e, in the section l: in use, generation and body; free, generation and next free number
abbrev pub StateIs : Bytes → Link → ℕ → Slot → State → Type 0
StateIs file l n e (used g b) = (e.in_use ≡ true) × (g ≡ e.gen) × ObjectAt file l.sec.offset e.field n e.gen b
StateIs file l n e (free g x) = (e.in_use ≡ false) × (g ≡ e.gen) × (x ≡ e.field)

-- the newest entry of a number gives its state
pub record NewestGives (file : Bytes) (links : List Link) (k n : ℕ) (t : State) : Type 0 where
  pub link : Link
  pub entry : Slot
  pub newest : Newest links k n link entry
  pub gives : StateIs file link n entry t

-- the revision r is that of the section l at place k: what its trailer says, and for each number below Size what the newest entry gives
pub record Shows (file : Bytes) (links : List Link) (k : ℕ) (l : Link) (r : Revision) : Type 0 where
  pub offset : r.offset ≡ l.sec.offset
  pub end : r.end ≡ l.sec.end
  pub size : l.says.size ≡ pos r.size
  pub root : r.root ≡ l.says.root
  pub root_gen : r.root_gen ≡ l.says.root_gen
  pub trailer : r.trailer ≡ l.sec.trailer
  pub long : length r.states ≡ r.size
  pub states : (n : ℕ) (t : State) → nth n r.states ≡ Some t → NewestGives file links (suc k) n t
