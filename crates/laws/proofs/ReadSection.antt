-- The section that an update writes reads back: what it lists, what its trailer says, and the revision that it makes.
use Rattle.std.proofs.Common.{◌≡◌, ℕ, suc, ◌+◌, ◌≤◌, true, false, List, [], ◌∷◌, ◌++◌, length, pos, Some, None, Ok, Option, sym, refl, ap, ◌∙◌, append-nil, arith, length-append}
use Rattle.format.specs.Acceptable.{Acceptable}
use Rattle.format.specs.Book.{newest, addition, within_limits}
use Rattle.format.specs.Bytes.{Bytes, ok}
use Rattle.format.specs.Chain.{Told, told, in_bound}
use Rattle.format.specs.Lines.{Slot}
use Rattle.format.specs.Objects.{Entries}
use Rattle.format.specs.Revisions.{Revision, revision, file_bytes, Opened, opens}
use Rattle.format.specs.Sections.{Listed, listed, Section, section}
use Rattle.format.specs.Theorems.{FreeListAscends}
use Rattle.format.specs.Updates.{Update, objects_of, applied}
use Rattle.format.specs.Writing.{runs, entries_for, new_size, cells_of, update_section}
use Rattle.chains.specs.Stated.{ReadsBack}
use Rattle.chains.proofs.Added.{limits_parts, addition_length}
use Rattle.chains.proofs.Ends.{ends_ascend}
use Rattle.chains.proofs.Needs.{needed}
use Rattle.locality.specs.LocalityTrailers.{new_entries}
use Rattle.locality.proofs.Tells.{new_told}
use Rattle.locality.proofs.Trailers.{trailer_read}
use Rattle.sections.specs.Written.{any_listed, listed_of, TrailerReads, section_of}
use Rattle.sections.proofs.WrittenSection.{section_read}
use Rattle.tables.specs.Rows.{rows_of, section_at}
use Rattle.tables.specs.Sound.{Sound}
use Rattle.tables.specs.Statements.{MeetsRules, table_after, made_by}
use Rattle.tables.proofs.Made.{rows_make}
use Rattle.tables.proofs.Rules.{rules_met, entries_of_length}
use Rattle.tables.proofs.SoundTables.{opened_sound}
use Rattle.laws.proofs.NewestTrailer.{Trailing, newest_trailing}
use Rattle.laws.proofs.ReadFrames.{rows_framed}

nil_cons : {A P : Type 0} {x : A} {xs : List A} → ◌≡◌ {A = List A} [] (x ∷ xs) → P
nil_cons e = let z : ◌≡◌ {A = ℕ} 0 1 = cc in absurd (omega arith)

any_row : (n : ℕ) (ls : List (Option Slot)) (x : ℕ × Slot) (xs : Listed) → listed_of n ls ≡ x ∷ xs → any_listed ls ≡ true
unfolding listed_of any_listed
any_row n [] x xs e = nil_cons e
any_row n (None ∷ ls) x xs e = any_row (suc n) ls x xs e
any_row n (Some s ∷ ls) x xs e = refl

-- an acceptable update of a file that opens, within the limits: what is known of it
pub record Ready (file : Bytes) (u : Update) : Type 0 where
  pub sound : Sound (newest file)
  pub acceptable : Acceptable (newest file) u
  pub size : new_size (newest file) u ≤ 1000
  pub short : section_at (length file) (newest file) u ≤ file_bytes
  pub offset : (newest file).offset ≤ file_bytes
  pub rules : MeetsRules (newest file) u (length file)
  pub trailing : Trailing (newest file)

-- what opening, the rules and the limits say of an update
pub ready : (file : Bytes) (o : Opened) (u : Update) → opens file ≡ Ok o → Acceptable (newest file) u → within_limits file u ≡ true → Ready file u
ready file o u h a w =
    let l = limits_parts file u w in
    let s = (opened_sound file o h).newest in
    let x = ends_ascend needed file o h in
    let n₁ = addition_length file u in
    let n₂ = length-append file (addition file u) in
    let n₃ = l.short in
    let n₄ = x.short in
    let n₅ = x.newest_offset in
    record {
      sound = s;
      acceptable = a;
      size = l.size;
      short = omega arith;
      offset = omega arith;
      rules = rules_met (newest file) u (length file) s a l.size;
      trailing = newest_trailing file o h;
    }

-- the entries of an update's trailer
abbrev pub trailer_of : Bytes → Update → Entries
trailer_of file u = new_entries (newest file).trailer (new_size (newest file) u) (Some (newest file).offset)

-- the section of an update
abbrev pub section_for : Bytes → Update → Section
section_for file u =
    section_of (section_at (length file) (newest file) u) (runs 0 (entries_for 0 (cells_of (length file) (newest file) u))) (newest file).trailer (new_size (newest file) u) (Some (newest file).offset)
    (trailer_of file u)

module _ (file : Bytes) (u : Update) (k : Ready file u) where
  trailer_reads : TrailerReads (newest file).trailer (new_size (newest file) u) (Some (newest file).offset) (trailer_of file u)
  trailer_reads p ys =
      let t = k.trailing in
      let n = k.size in
      let m = k.offset in
      trailer_read p (newest file).trailer (new_size (newest file) u) (Some (newest file).offset) ys t.fit t.few (omega arith) (omega arith)

  written : (ys : Bytes) →
      (section (section_at (length file) (newest file) u) (update_section (length file) (newest file) u ++ ys)
      ≡ ok (section_for file u) (section_at (length file) (newest file) u + length (update_section (length file) (newest file) u)) ys)
      × (listed (section_for file u).subsections ≡ rows_of (length file) (newest file) u)
  unfolding update_section
  written ys =
      let M = k.rules in
      let n = k.size in
      let m = k.short in
      let e = entries_of_length (length file) (newest file) u in
      section_read (entries_for 0 (cells_of (length file) (newest file) u)) (newest file).trailer (new_size (newest file) u) (Some (newest file).offset) (trailer_of file u)
      (section_at (length file) (newest file) u) ys (omega arith) (M.small k.short)
      (any_row 0 (entries_for 0 (cells_of (length file) (newest file) u)) (0, M.first.0) M.first.1 M.first.2) (omega arith) trailer_reads

  -- the section of an update reads back
  pub section_back : section (section_at (length file) (newest file) u) (update_section (length file) (newest file) u)
      ≡ ok (section_for file u) (section_at (length file) (newest file) u + length (update_section (length file) (newest file) u)) []
  section_back = ap (section (section_at (length file) (newest file) u)) (sym (append-nil (update_section (length file) (newest file) u))) ∙ (written []).0

  -- it lists the rows of the update
  pub section_lists : listed (section_for file u).subsections ≡ rows_of (length file) (newest file) u
  section_lists = (written []).1

  -- its trailer says the new Size, the newest section, and Root as before
  abbrev pub says_for : Told
  says_for = record { size = pos (new_size (newest file) u); prev = Some (pos (newest file).offset); root = k.trailing.says.root; root_gen = k.trailing.says.root_gen }

  pub trailer_says : told (trailer_of file u) ≡ Some says_for
  trailer_says = new_told (newest file).trailer (new_size (newest file) u) (Some (newest file).offset) k.trailing.says k.trailing.telling

  -- the revision that an update makes
  abbrev pub revision_for : Revision
  revision_for = made_by (length file) (newest file) u (section_for file u).end (trailer_of file u)

  -- what the section makes behind the file
  pub section_makes : (revision (file ++ addition file u) false (newest file).states (record { sec = section_for file u; says = says_for }) ≡ Ok revision_for)
      × (objects_of revision_for ≡ applied u (objects_of (newest file)))
      × FreeListAscends 0 (table_after (length file) (newest file) u)
      × Sound revision_for
  section_makes =
      rows_make (file ++ addition file u) (newest file) u (length file) (record { sec = section_for file u; says = says_for }) k.sound k.acceptable k.size
      (record { rows = section_lists; offset = refl; size = refl; root = k.trailing.root }) (rows_framed file u k.rules k.size)

  -- the section of an update reads back, and makes the revision
  pub reads_back : ReadsBack file u revision_for
  reads_back = record {
    sec = section_for file u;
    read = section_back;
    bounded = ap in_bound section_lists ∙ k.rules.bound;
    says = says_for;
    telling = trailer_says;
    prev = refl;
    makes = section_makes.0;
  }
