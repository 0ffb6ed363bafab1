-- What is proved of chains of sections: of the bytes up to a revision's end, of a file with one more section behind it, and of where revisions end.
use Rattle.std.specs.Prelude.{◌≡◌, ℕ, ◌+◌, ◌<◌, ◌≤◌, true, false, List, [], ◌∷◌, ◌++◌, length, pos, Some, Ok}
use Rattle.format.specs.Book.{history, newest, addition, within_limits, end_of_revision}
use Rattle.format.specs.Bytes.{Bytes, ok}
use Rattle.format.specs.Chain.{Told, told, in_bound, section_in}
use Rattle.format.specs.Revisions.{Revision, revision, Opened, opens, file_bytes, most_revisions}
use Rattle.format.specs.Sections.{Section, listed, section}
use Rattle.format.specs.Updates.{Update}
use Rattle.format.specs.Writing.{update_objects, update_section}
use Rattle.sections.specs.Reading.{begins_lf}

-- The bytes `more` end with a section behind a file, and the section makes the revision r of the file's newest one.
-- They do not begin with LF: behind a last CR it would be taken into the file's own last line.
pub record Behind (file more : Bytes) (r : Revision) : Type 0 where
  pub no_lf : begins_lf more ≡ false
  pub short : length (file ++ more) ≤ file_bytes
  pub few : length (history file) < most_revisions
  pub off : ℕ
  pub past : length file ≤ off
  pub sec : Section
  pub rest : Bytes
  pub read : section_in (file ++ more) off ≡ ok sec (length (file ++ more)) rest
  pub bounded : in_bound (listed sec.subsections) ≡ true
  pub says : Told
  pub telling : told sec.trailer ≡ Some says
  pub prev : says.prev ≡ Some (pos (newest file).offset)
  pub makes : revision (file ++ more) false (newest file).states (record { sec = sec; says = says }) ≡ Ok r

-- if a file opens, then with such bytes behind it, it opens as its old revisions and one more
abbrev pub LongerOpen : Type 0
LongerOpen =
    (file more : Bytes) (o : Opened) (r : Revision) → opens file ≡ Ok o → Behind file more r →
    opens (file ++ more) ≡ Ok (record { header = o.header; history = o.history ++ (r ∷ []) })

-- where the section of an update stands
abbrev pub section_at : Bytes → Update → ℕ
section_at file u = length file + length (update_objects (length file) (newest file) u)

-- the section of an update of a file reads back, from its first byte to its last, and makes the revision r of the newest one
pub record ReadsBack (file : Bytes) (u : Update) (r : Revision) : Type 0 where
  pub sec : Section
  pub read :
      section (section_at file u) (update_section (length file) (newest file) u)
      ≡ ok sec (section_at file u + length (update_section (length file) (newest file) u)) []
  pub bounded : in_bound (listed sec.subsections) ≡ true
  pub says : Told
  pub telling : told sec.trailer ≡ Some says
  pub prev : says.prev ≡ Some (pos (newest file).offset)
  pub makes : revision (file ++ addition file u) false (newest file).states (record { sec = sec; says = says }) ≡ Ok r

-- if a file opens and the section of an update within the limits reads back, the file with the update opens as its old revisions and one more
abbrev pub UpdatesOpen : Type 0
UpdatesOpen =
    (file : Bytes) (o : Opened) (u : Update) (r : Revision) → opens file ≡ Ok o → within_limits file u ≡ true → ReadsBack file u r →
    opens (file ++ addition file u) ≡ Ok (record { header = o.header; history = o.history ++ (r ∷ []) })

-- each revision's section stands at or behind the end of the revision before, from `low` on
abbrev pub Ascending : (low : ℕ) → List Revision → Type 0
Ascending low [] = Unit {0}
Ascending low (r ∷ rs) = (low ≤ r.offset) × (r.offset < r.end) × Ascending r.end rs

-- where the revisions of a file that opens start and end
pub record Extents (file : Bytes) (o : Opened) : Type 0 where
  pub some : 1 ≤ length o.history
  pub few : length o.history ≤ most_revisions
  pub short : length file ≤ file_bytes
  pub long : 20 ≤ length file
  pub newest_end : (newest file).end ≡ length file
  pub newest_offset : (newest file).offset < length file
  pub ascending : Ascending 0 o.history
  pub last_end : end_of_revision (length o.history) o.history ≡ length file
  pub rising : (j k : ℕ) → 1 ≤ j → j < k → k ≤ length o.history → end_of_revision j o.history < end_of_revision k o.history
  pub within : (k : ℕ) → end_of_revision k o.history ≤ length file

abbrev pub EndsAscend : Type 0
EndsAscend = (file : Bytes) (o : Opened) → opens file ≡ Ok o → Extents file o
