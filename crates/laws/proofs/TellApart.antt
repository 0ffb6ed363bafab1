-- An update can be read back from the file that it is written behind.
use Rattle.std.proofs.Common.{◌≡◌, ℕ, List, [], ◌++◌, length, Some, refl, ap, ◌∙◌, append-nil}
use Rattle.format.specs.Book.{newest, addition}
use Rattle.format.specs.Bytes.{Bytes, ok}
use Rattle.format.specs.Chain.{section_in}
use Rattle.format.specs.Revisions.{State}
use Rattle.format.specs.Sections.{listed, Section, section, last_offset}
use Rattle.format.specs.Theorems.{changes_by, last_update_at, last_update, UpdatesTellApart}
use Rattle.format.specs.Updates.{Update}
use Rattle.format.specs.Writing.{update_objects, update_section}
use Rattle.chains.proofs.Added.{addition_parts, section_window}
use Rattle.chains.proofs.Needs.{needed}
use Rattle.tables.specs.Rows.{rows_of, section_at, states_by}
use Rattle.tables.proofs.ChangesBack.{rows_read, rows_told}
use Rattle.laws.proofs.ReadFrames.{rows_framed}
use Rattle.laws.proofs.ReadSection.{Ready, ready, section_for, section_back, section_lists}

-- what the section that is found from the end tells
told_by : (file : Bytes) (old : List State) (off : ℕ) (s : Section) (e : ℕ) (rest : Bytes) → last_offset file ≡ Some off → section_in file off ≡ ok s e rest →
    last_update file old ≡ changes_by file off old (listed s.subsections)
unfolding last_update last_update_at
told_by file old off s e rest a b = rw a (rw (b, last_update_at) refl)

-- the section of an update is found from the end
pub section_found : (file : Bytes) (u : Update) → Ready file u → last_offset (file ++ addition file u) ≡ Some (section_at (length file) (newest file) u)
section_found file u k =
    ap last_offset (addition_parts file u)
    ∙ needed.found (section_at (length file) (newest file) u) (update_section (length file) (newest file) u) [] (section_for file u) _
    (ap (section (section_at (length file) (newest file) u)) (append-nil (update_section (length file) (newest file) u)) ∙ section_back file u k)
    (file ++ update_objects (length file) (newest file) u)

-- The newest section of a file with an acceptable update tells the update.
pub updates_tell_apart : UpdatesTellApart
updates_tell_apart file o u h a w =
    let k : Ready file u = ready file o u h a w in
    let at : ℕ = section_at (length file) (newest file) u in
    let rows = rows_of (length file) (newest file) u in
    told_by (file ++ addition file u) (newest file).states at (section_for file u) _ [] (section_found file u k) (section_window file u w ∙ section_back file u k)
    ∙ ap (changes_by (file ++ addition file u) at (newest file).states) (section_lists file u k)
    ∙ rows_read (file ++ addition file u) at (newest file).states rows (states_by u rows) (rows_framed file u k.rules k.size)
    ∙ rows_told (newest file) u (length file) k.sound a
