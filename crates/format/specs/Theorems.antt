-- What the law over whole runs stands on, in the words of files, revisions and updates.
use Rattle.std.specs.Prelude.{◌≡◌, ℕ, suc, ◌+◌, ◌≤◌, true, false, List, [], ◌∷◌, ◌++◌, length, take, Some, None, Ok, Option}
use Rattle.format.specs.Acceptable.{Acceptable}
use Rattle.format.specs.Book.{is_used, newest, addition, within_limits, end_of_revision}
use Rattle.format.specs.Bytes.{Bytes, Got, ok, bad}
use Rattle.format.specs.Chain.{section_in}
use Rattle.format.specs.Frames.{Framed}
use Rattle.format.specs.Lines.{Slot}
use Rattle.format.specs.Revisions.{State, used, free, Revision, nth, frame_in, Opened, opens}
use Rattle.format.specs.Sections.{Listed, listed, last_offset}
use Rattle.format.specs.Updates.{Change, body, removed, Update, objects_of, applied}
use Rattle.format.specs.Writing.{new_size, update_objects}

-- If a file opens, the bytes up to the end of its revision k open as exactly its first k revisions.
abbrev pub PrefixesOpen : Type 0
PrefixesOpen =
    (file : Bytes) (o : Opened) (k : ℕ) → opens file ≡ Ok o → 1 ≤ k → k ≤ length o.history →
    opens (take (end_of_revision k o.history) file) ≡ Ok (record { header = o.header; history = take k o.history })

-- the free numbers of a table from n on: each leads to the next one, and the last to 0
unfoldable pub first_free : ℕ → List State → ℕ
first_free n [] = 0
first_free n (used g b ∷ ss) = first_free (suc n) ss
first_free n (free g l ∷ ss) = n

abbrev pub FreeListAscends : ℕ → List State → Type 0
FreeListAscends n [] = Unit {0}
FreeListAscends n (used g b ∷ ss) = FreeListAscends (suc n) ss
FreeListAscends n (free g l ∷ ss) = (l ≡ first_free (suc n) ss) × FreeListAscends (suc n) ss

-- the revision r that an update u of a file with the revisions o makes
pub record Made (file : Bytes) (o : Opened) (u : Update) (r : Revision) : Type 0 where
  pub accepted : opens (file ++ addition file u) ≡ Ok (record { header = o.header; history = o.history ++ (r ∷ []) })
  pub shows : objects_of r ≡ applied u (objects_of (newest file))
  pub offset : r.offset ≡ length file + length (update_objects (length file) (newest file) u)
  pub end : r.end ≡ length file + length (addition file u)
  pub size : r.size ≡ new_size (newest file) u
  pub root : (r.root ≡ (newest file).root) × (r.root_gen ≡ (newest file).root_gen)
  pub links : FreeListAscends 0 r.states

-- If a file opens, then with an acceptable update behind it that stays within the limits, it opens as its old revisions and one more.
abbrev pub UpdatesReadBack : Type 0
UpdatesReadBack =
    (file : Bytes) (o : Opened) (u : Update) → opens file ≡ Ok o → Acceptable (newest file) u → within_limits file u ≡ true →
    (r : Revision) × Made file o u r

-- The change that an entry of a section makes to a number: an object is put where it is in use; it is removed where it is free and was in use before.
unfoldable pub put_by : Got Framed → Option Change
put_by (ok r p rest) = Some (body r.body)
put_by (bad f) = None

unfoldable pub change_by : Bytes → (off : ℕ) → List State → ℕ → Slot → Option Change
change_by file off old n s =
    elim s.in_use [
      | true ↦ put_by (frame_in file off s.field)
      | false ↦ elim (is_used (nth n old)) [ true ↦ Some removed | false ↦ None ]
    ]

abbrev pub in_front : ℕ → Option Change → Update → Update
in_front n None u = u
in_front n (Some c) u = (n, c) ∷ u

unfoldable pub changes_by : Bytes → (off : ℕ) → List State → Listed → Update
changes_by file off old [] = []
changes_by file off old (r ∷ rs) = in_front r.0 (change_by file off old r.0 r.1) (changes_by file off old rs)

-- the update that the newest section of a file makes to the table before it
unfoldable pub last_update_at : Bytes → List State → Option ℕ → Update
last_update_at file old None = []
last_update_at file old (Some off) =
    elim (section_in file off) [ bad f ↦ [] | ok s p rest ↦ changes_by file off old (listed s.subsections) ]

unfoldable pub last_update : Bytes → List State → Update
last_update file old = last_update_at file old (last_offset file)

-- From the bytes and the old revision, the update can be read back; so no two updates of one file write alike.
abbrev pub UpdatesTellApart : Type 0
UpdatesTellApart =
    (file : Bytes) (o : Opened) (u : Update) → opens file ≡ Ok o → Acceptable (newest file) u → within_limits file u ≡ true →
    last_update (file ++ addition file u) (newest file).states ≡ u
