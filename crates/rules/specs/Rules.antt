-- The rules of a file: what the format asks of it, and of the revisions that it holds, each by name (ISO 32000-1, 7.5, with the bounds of docs/FORMAT.md).
use Rattle.std.specs.Prelude.{◌≡◌, ℕ, suc, ◌<◌, ◌≤◌, List, length, pos, Some, None}
use Rattle.format.specs.Bytes.{Bytes}
use Rattle.format.specs.Chain.{Link}
use Rattle.format.specs.Revisions.{Revision, nth, file_bytes, most_revisions}
use Rattle.rules.specs.Sections.{SectionAt, Bounded, Says}
use Rattle.rules.specs.Tables.{Stands, OneFromZero, EntriesFit, SizeFits, RootFits, ObjectsFit, Shows}
use Rattle.rules.specs.Whole.{Headed, EndsWithTail}

-- All rules hold of the file and its revisions, the oldest first.
pub record Rules (file : Bytes) (revisions : List Revision) : Type 0 where
  -- its sections, the oldest first, each with what its trailer says
  pub links : List Link
  -- at most 9,999,999 bytes
  pub short : length file ≤ file_bytes
  pub header : Headed file
  -- one revision at least, and at most 64
  pub some : 1 ≤ length links
  pub few : length links ≤ most_revisions
  -- the file ends with a tail, whose digits are the offset of the newest section
  pub tail : (k : ℕ) (l : Link) → Stands links k l → suc k ≡ length links → EndsWithTail file l.sec.offset
  -- each section stands at its offset
  pub sections : (k : ℕ) (l : Link) → Stands links k l → SectionAt file l.sec
  -- and lists numbers of at most 999
  pub numbers : (k : ℕ) (l : Link) → Stands links k l → Bounded l.sec
  -- its trailer's Size, Prev, Root, Encrypt and XRefStm are as they should be
  pub trailers : (k : ℕ) (l : Link) → Stands links k l → Says l.sec.trailer l.says
  -- the oldest section has no Prev
  pub no_prev : (l : Link) → Stands links 0 l → l.says.prev ≡ None
  -- the Prev of any other is the offset of the one before, and lies below its own
  pub chain :
      (k : ℕ) (l m : Link) → Stands links k l → Stands links (suc k) m → (m.says.prev ≡ Some (pos l.sec.offset)) × (l.sec.offset < m.sec.offset)
  -- each revision ends at or before the next section's offset
  pub ends : (k : ℕ) (l m : Link) → Stands links k l → Stands links (suc k) m → l.sec.end ≤ m.sec.offset
  -- the newest ends at the file's end
  pub newest_end : (k : ℕ) (l : Link) → Stands links k l → suc k ≡ length links → l.sec.end ≡ length file
  -- the oldest section has one subsection, from 0
  pub one_subsection : (l : Link) → Stands links 0 l → OneFromZero l.sec
  -- each entry fits
  pub entries : (k : ℕ) (l : Link) → Stands links k l → EntriesFit l
  -- Size is 1 plus the highest number listed so far, and every lower number has an entry
  pub size : (k : ℕ) (l : Link) → Stands links k l → SizeFits links k l
  -- Root is in use with its generation
  pub root : (k : ℕ) (l : Link) → Stands links k l → RootFits links k l
  -- the object at each entry in use bears its number and its generation
  pub objects : (k : ℕ) (l : Link) → Stands links k l → ObjectsFit file l
  -- there is a revision for each section, and it shows what that section and those before it say
  pub count : length revisions ≡ length links
  pub shows : (k : ℕ) (l : Link) (r : Revision) → Stands links k l → nth k revisions ≡ Some r → Shows file links k l r
