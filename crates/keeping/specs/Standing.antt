-- What a book's tables are to its bytes in each of its states, and that every accepted call leaves them so.
use Rattle.std.specs.Prelude.{◌≡◌, ℕ, ◌+◌, List, [], ◌∷◌, ◌++◌, take, Ok, Err}
use Rattle.faults.specs.declared.reason.Reason.TheVariants.{NoRevision}
use Rattle.faults.specs.Faults.{refused}
use Rattle.stores.specs.Meanings.{Meaning}
use Rattle.format.specs.Acceptable.{Acceptable}
use Rattle.format.specs.Book.{Phase, shut, standing, updating, back, newest, addition, decide, decide_put, decide_remove, decide_commit, bytes_after}
use Rattle.format.specs.Bytes.{Bytes}
use Rattle.format.specs.Revisions.{Opened, opens}
use Rattle.format.specs.Updates.{body, removed, Update, with_change}
use Rattle.entries.specs.declared.cell.Cell.{Cell}
use Rattle.entries.specs.declared.revision.Revision.{Revision}
use Rattle.entries.specs.Tables.{TablesOf}
use Rattle.keeping.specs.Staying.{NextRow, RowAt}
use Rattle.keeping.specs.Telling.{NoRow}
use Rattle.keeping.specs.Committing.{CommitReads}

-- the bytes open, and the tables are those of their revisions
pub record Stands (file : Bytes) (rs : List Revision) (cs : List Cell) : Type 0 where
  pub opened : Opened
  pub accepted : opens file ≡ Ok opened
  pub tables : TablesOf file opened.history rs cs

-- nothing is known of a shut book; an open update is acceptable on the newest revision
abbrev pub SoundIn : Phase → Bytes → List Revision → List Cell → Type 0
SoundIn shut file rs cs = Unit {0}
SoundIn standing file rs cs = Stands file rs cs
SoundIn (updating u) file rs cs = Stands file rs cs × Acceptable (newest file) u

-- going back to revision k: accepted if there is its row, and then the bytes up to its end are left, with the rows and cells up to it
pub record BackBy (s : Meaning) (rs : List Revision) (cs : List Cell) (k : ℕ) : Type 0 where
  pub none : NoRow rs k → decide s standing (back k) ≡ Err (refused NoRevision 0)
  pub some : (q : Revision) → RowAt rs k q → decide s standing (back k) ≡ Ok tt
  pub bytes : (q : Revision) → RowAt rs k q → bytes_after s.bytes standing (back k) ≡ take q.end s.bytes
  pub sound : (q : Revision) → RowAt rs k q → SoundIn standing (take q.end s.bytes) (take k rs) (take (q.first + q.size) cs)

-- a commit: the update's bytes read back, and with a row for the revision that they make the tables are those of the longer file
pub record CommitBy (file : Bytes) (rs : List Revision) (cs : List Cell) (u : Update) : Type 0 where
  pub opened : Opened
  pub accepted : opens file ≡ Ok opened
  pub reads : CommitReads file opened u
  pub sound : (new : List Cell) (q : Revision) → NextRow (file ++ addition file u) cs new reads.made q →
      SoundIn standing (file ++ addition file u) (rs ++ (q ∷ [])) (cs ++ new)

pub record SoundStays : Type 0 where
  pub opening : (file : Bytes) (o : Opened) (rs : List Revision) (cs : List Cell) → opens file ≡ Ok o → TablesOf file o.history rs cs → SoundIn standing file rs cs
  pub begin : (file : Bytes) (rs : List Revision) (cs : List Cell) → SoundIn standing file rs cs → SoundIn (updating []) file rs cs
  pub put : (file : Bytes) (rs : List Revision) (cs : List Cell) (u : Update) (n : ℕ) (b : Bytes) →
      SoundIn (updating u) file rs cs → decide_put (newest file) u n b ≡ Ok tt → SoundIn (updating (with_change n (body b) u)) file rs cs
  pub remove : (file : Bytes) (rs : List Revision) (cs : List Cell) (u : Update) (n : ℕ) →
      SoundIn (updating u) file rs cs → decide_remove (newest file) u n ≡ Ok tt → SoundIn (updating (with_change n removed u)) file rs cs
  pub abandon : (file : Bytes) (rs : List Revision) (cs : List Cell) (u : Update) → SoundIn (updating u) file rs cs → SoundIn standing file rs cs
  pub commit : (s : Meaning) (rs : List Revision) (cs : List Cell) (u : Update) →
      SoundIn (updating u) s.bytes rs cs → decide_commit s u ≡ Ok tt → CommitBy s.bytes rs cs u
  pub back : (s : Meaning) (rs : List Revision) (cs : List Cell) (k : ℕ) → SoundIn standing s.bytes rs cs → BackBy s rs cs k
