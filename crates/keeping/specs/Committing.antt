-- What a book stands on when it commits an update: the newest section is where its revision says, the update is acceptable, and its bytes read back.
use Rattle.std.specs.Prelude.{◌≡◌, ℕ, ◌+◌, ◌≤◌, true, false, List, [], ◌∷◌, ◌++◌, length, pos, Some, Ok}
use Rattle.stores.specs.Meanings.{Meaning}
use Rattle.format.specs.Acceptable.{Acceptable}
use Rattle.format.specs.Book.{newest, addition, is_none, within_limits, decide_put, decide_remove, decide_commit}
use Rattle.format.specs.Bytes.{Bytes, ok}
use Rattle.format.specs.Chain.{Told, told, in_bound, section_in}
use Rattle.format.specs.Revisions as format
use Rattle.format.specs.Revisions.{revision, Opened, opens}
use Rattle.format.specs.Sections.{Section, listed}
use Rattle.format.specs.Theorems.{Made}
use Rattle.format.specs.Updates.{body, removed, Update, with_change}
use Rattle.format.specs.Writing.{update_objects}
use Rattle.entries.specs.declared.cell.Cell.{Cell}
use Rattle.entries.specs.declared.revision.Revision.{Revision}
use Rattle.entries.specs.Tables.{TablesOf}
use Rattle.keeping.specs.Staying.{NextRow}

-- the section at the newest revision's offset: it is read up to the end of the file, and its trailer is the revision's
pub record NewestSection (file : Bytes) : Type 0 where
  pub sec : Section
  pub rest : Bytes
  pub read : section_in file (newest file).offset ≡ ok sec (length file) rest
  pub offset : sec.offset ≡ (newest file).offset
  pub end : sec.end ≡ length file
  pub trailer : sec.trailer ≡ (newest file).trailer
  pub says : Told
  pub telling : told (newest file).trailer ≡ Some says
  pub root : (says.root ≡ (newest file).root) × (says.root_gen ≡ (newest file).root_gen)

abbrev pub NewestSectionReads : Type 0
NewestSectionReads = (file : Bytes) (o : Opened) → opens file ≡ Ok o → NewestSection file

-- the open update of a book whose newest revision is r: acceptable when it begins, and after each accepted change
pub record StaysAcceptable (r : format.Revision) : Type 0 where
  pub begin : Acceptable r []
  pub put : (u : Update) (n : ℕ) (b : Bytes) → Acceptable r u → decide_put r u n b ≡ Ok tt → Acceptable r (with_change n (body b) u)
  pub remove : (u : Update) (n : ℕ) → Acceptable r u → decide_remove r u n ≡ Ok tt → Acceptable r (with_change n removed u)

abbrev pub UpdatesStayAcceptable : Type 0
UpdatesStayAcceptable = (r : format.Revision) → StaysAcceptable r

-- an accepted commit has a change, keeps the limits and has the space
pub record Fits (s : Meaning) (u : Update) : Type 0 where
  pub some : is_none u ≡ false
  pub limits : within_limits s.bytes u ≡ true
  pub space : length (addition s.bytes u) ≤ s.space

abbrev pub AcceptedCommitsFit : Type 0
AcceptedCommitsFit = (s : Meaning) (u : Update) → decide_commit s u ≡ Ok tt → Fits s u

-- where the section of an update stands
abbrev pub section_at : Bytes → Update → ℕ
section_at file u = length file + length (update_objects (length file) (newest file) u)

-- The bytes of an update, read back behind the file: the section stands where it was written and ends where the file ends,
-- its trailer names the section before, and it makes the revision `made` of the newest one, with which the file opens.
pub record CommitReads (file : Bytes) (o : Opened) (u : Update) : Type 0 where
  pub sec : Section
  pub rest : Bytes
  pub read : section_in (file ++ addition file u) (section_at file u) ≡ ok sec (length (file ++ addition file u)) rest
  pub offset : sec.offset ≡ section_at file u
  pub end : sec.end ≡ length (file ++ addition file u)
  pub bounded : in_bound (listed sec.subsections) ≡ true
  pub says : Told
  pub telling : told sec.trailer ≡ Some says
  pub prev : says.prev ≡ Some (pos (newest file).offset)
  pub made : format.Revision
  pub makes : revision (file ++ addition file u) false (newest file).states (record { sec = sec; says = says }) ≡ Ok made
  pub is : Made file o u made

abbrev pub CommitsReadBack : Type 0
CommitsReadBack =
    (file : Bytes) (o : Opened) (u : Update) → opens file ≡ Ok o → Acceptable (newest file) u → within_limits file u ≡ true → CommitReads file o u

-- With bytes behind the file and one more row for the revision that they make, the tables are those of the longer file.
abbrev pub TablesAfterCommit : Type 0
TablesAfterCommit =
    (file more : Bytes) (o : Opened) (rs : List Revision) (cs new : List Cell) (r : format.Revision) (q : Revision) →
    opens file ≡ Ok o → TablesOf file o.history rs cs → NextRow (file ++ more) cs new r q →
    TablesOf (file ++ more) (o.history ++ (r ∷ [])) (rs ++ (q ∷ [])) (cs ++ new)
