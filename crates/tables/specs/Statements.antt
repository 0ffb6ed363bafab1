-- What is proved of tables, rows and updates.
use Rattle.std.specs.Prelude.{◌≡◌, ℕ, ◌<◌, ◌≤◌, true, false, List, ◌∷◌, length, pos, Some, None, Ok}
use Rattle.format.specs.Acceptable.{Acceptable}
use Rattle.format.specs.Book.{newest, most_body_bytes}
use Rattle.format.specs.Bytes.{Bytes}
use Rattle.format.specs.Chain.{in_bound, Link}
use Rattle.format.specs.Frames.{body_fault}
use Rattle.format.specs.Lines.{Slot}
use Rattle.format.specs.Objects.{Entries}
use Rattle.format.specs.Revisions.{State, Revision, find, nth, highest, slots_fit, covered, overlaid, root_fits, states_of, revision, file_bytes, Opened, opens}
use Rattle.format.specs.Sections.{Listed, listed}
use Rattle.format.specs.Theorems.{FreeListAscends, changes_by}
use Rattle.format.specs.Updates.{body, Update, shown_all, objects_of, applied}
use Rattle.format.specs.Writing.{entry_gen, entries_for, new_size, cells_of, update_objects}
use Rattle.sections.specs.Written.{EachSmall}
use Rattle.tables.specs.Rows.{rows_of, section_at, RowsAscend, RowsWritten, states_by, changes_told}
use Rattle.tables.specs.Sound.{Sound}

-- What a body that an update puts is: of a number from 1 up to the last new one, with a generation for an object in use, one object or stream, and short.
pub record Puttable (r : Revision) (u : Update) (n : ℕ) (b : Bytes) : Type 0 where
  pub low : 1 ≤ n
  pub high : n < new_size r u
  pub gen : entry_gen (nth n r.states) ≤ 65534
  pub whole : body_fault b ≡ None
  pub short : length b ≤ most_body_bytes

-- What an update lists: number 0 first, then ascending below the new Size; each object where its row says; and the rules that opening asks of a section's entries.
pub record MeetsRules (r : Revision) (u : Update) (len : ℕ) : Type 0 where
  pub first : (s : Slot) × (rest : Listed) × (rows_of len r u ≡ (0, s) ∷ rest)
  pub ascend : RowsAscend 0 (new_size r u) (rows_of len r u)
  pub written : RowsWritten r.states u len (update_objects len r u) (rows_of len r u)
  pub fit : slots_fit (section_at len r u) (pos (new_size r u)) (rows_of len r u) ≡ Ok tt
  pub size : highest (length r.states) (rows_of len r u) ≡ new_size r u
  pub covers : covered (new_size r u) 0 (rows_of len r u) (length r.states) ≡ true
  pub root : root_fits r.root r.root_gen (rows_of len r u) r.states ≡ true
  pub bound : in_bound (rows_of len r u) ≡ true
  pub puts : (n : ℕ) (b : Bytes) → find n u ≡ Some (body b) → Puttable r u n b
  pub small : section_at len r u ≤ file_bytes → EachSmall (entries_for 0 (cells_of len r u))

-- What an acceptable update of a sound table lists meets the rules.
abbrev pub EntriesMeetTheRules : Type 0
EntriesMeetTheRules =
    (r : Revision) (u : Update) (len : ℕ) → Sound r → Acceptable r u → new_size r u ≤ 1000 → MeetsRules r u len

-- the table that opening computes from what an update lists, where each body reads as it was put
abbrev pub table_after : ℕ → Revision → Update → List State
table_after len r u = overlaid (new_size r u) 0 (states_by u (rows_of len r u)) r.states

-- It has a state for each number below the new Size, shows what applying the update leaves, its free list ascends, and it is sound again.
pub record LeavesSaid (r : Revision) (u : Update) (len : ℕ) : Type 0 where
  pub long : length (table_after len r u) ≡ new_size r u
  pub shows : shown_all (table_after len r u) ≡ (applied u (objects_of r)).numbers
  pub size : (applied u (objects_of r)).size ≡ new_size r u
  pub links : FreeListAscends 0 (table_after len r u)
  pub sound : (t : Revision) → t.states ≡ table_after len r u → t.size ≡ new_size r u → t.root ≡ r.root → t.root_gen ≡ r.root_gen → Sound t

-- An acceptable update of a sound table leaves what it says.
abbrev pub UpdatesLeaveWhatTheySay : Type 0
UpdatesLeaveWhatTheySay = (r : Revision) (u : Update) (len : ℕ) → Sound r → Acceptable r u → LeavesSaid r u len

-- What rows tell of an update: whatever the file, reading changes off the rows is reading them off the states that the rows make;
-- and of the rows of an acceptable update of a sound table that gives the update itself.
pub record RowsTell : Type 0 where
  pub read : (file : Bytes) (off : ℕ) (old : List State) (rows : Listed) (ts : List (ℕ × State)) →
      states_of file off rows ≡ Ok ts → changes_by file off old rows ≡ changes_told old ts
  pub told : (r : Revision) (u : Update) (len : ℕ) → Sound r → Acceptable r u → changes_told r.states (states_by u (rows_of len r u)) ≡ u

-- what is so of every file that opens: it has a revision, and every table is sound
pub record OpenedSound (file : Bytes) (o : Opened) : Type 0 where
  pub some : 1 ≤ length o.history
  pub each : (k : ℕ) (r : Revision) → nth k o.history ≡ Some r → Sound r
  pub newest : Sound (newest file)

abbrev pub OpenedTablesAreSound : Type 0
OpenedTablesAreSound = (file : Bytes) (o : Opened) → opens file ≡ Ok o → OpenedSound file o

-- a section that lists what an update on the revision r lists, at the place where the update has it, with the trailer's Size and Root
pub record Lists (l : Link) (len : ℕ) (r : Revision) (u : Update) : Type 0 where
  pub rows : listed l.sec.subsections ≡ rows_of len r u
  pub offset : l.sec.offset ≡ section_at len r u
  pub size : l.says.size ≡ pos (new_size r u)
  pub root : (l.says.root ≡ r.root) × (l.says.root_gen ≡ r.root_gen)

-- the revision that the update makes, which ends there and has these entries in its trailer
abbrev pub made_by : ℕ → Revision → Update → (end : ℕ) → Entries → Revision
made_by len r u end es = record { offset = section_at len r u; end = end; size = new_size r u; root = r.root; root_gen = r.root_gen; trailer = es; states = table_after len r u }

-- If such a section is read behind the revision r, and its objects read as they were put, it makes that revision, which shows what the update leaves.
abbrev pub RowsMakeTheRevision : Type 0
RowsMakeTheRevision =
    (file : Bytes) (r : Revision) (u : Update) (len : ℕ) (l : Link) → Sound r → Acceptable r u → new_size r u ≤ 1000 → Lists l len r u →
    states_of file (section_at len r u) (rows_of len r u) ≡ Ok (states_by u (rows_of len r u)) →
    (revision file false r.states l ≡ Ok (made_by len r u l.sec.end l.sec.trailer))
    × (objects_of (made_by len r u l.sec.end l.sec.trailer) ≡ applied u (objects_of r))
    × FreeListAscends 0 (table_after len r u)
    × Sound (made_by len r u l.sec.end l.sec.trailer)
