-- An update that is laid down as bytes, checked, written behind the file and read back.
use Rattle.std.proofs.Common.{◌≡◌, ℕ, ◌+◌, ◌<◌, ◌≤◌, false, List, [], ◌∷◌, ◌++◌, length, Ok, Err, Result, sym, refl, ap, ◌∙◌, subst, arith, length-append}
use Rattle.faults.specs.declared.fault.Fault.{Fault}
use Rattle.stores.specs.Meanings.{Meaning, Joined, Appends}
use Rattle.stores.specs.declared.store.Store.{Ghosts}
use Rattle.chains.proofs.Added.{limits_parts}
use Rattle.chains.proofs.Openings.{history_opened, newest_opened}
use Rattle.chains.proofs.Steps.{never_answer, never_reading, answered}
use Rattle.entries.specs.declared.cell.Cell.{Cell}
use Rattle.entries.specs.declared.revision.Revision as code
use Rattle.entries.specs.Tables.{TablesOf}
use Rattle.format.specs.Book.{Call, commit, standing, updating, blank, newest_or, newest, addition, decide_commit, Step}
use Rattle.format.specs.Bytes.{Bytes, bad}
use Rattle.format.specs.Chain.{Answer, also, section_in}
use Rattle.format.specs.Revisions.{Revision, revision, Opened, opens}
use Rattle.format.specs.Updates.{Update}
use Rattle.format.specs.Writing.{update_objects, update_section, update_bytes}
use Rattle.keeping.specs.Committing.{NewestSection, CommitReads, section_at}
use Rattle.keeping.specs.Standing.{SoundIn}
use Rattle.keeping.proofs.Commits.{commits_fit, commits_read}
use Rattle.keeping.proofs.Kept.{tables_grow}
use Rattle.keeping.proofs.Sound.{sound_stays}
use Rattle.keeping.proofs.Starts.{sections_start}
use Rattle.locality.proofs.Local.{same_value}
use Rattle.records.specs.Links.{link_of, link_at, is_first, next_revision}
use Rattle.records.specs.Tabled.{Revised, Tabled, revisions_held, cells_held}
use Rattle.writer.specs.Helds.{update_of}
use Rattle.records.specs.Trailers.{TrailerSeen, ReadsTrailer}
use Rattle.writer.specs.Trailers.{ReadAs}
use Rattle.writer.specs.Writers.{bytes_of}
use Rattle.bounds.proofs.Bounded.{bounded}
use Rattle.book.specs.declared.book.Book.{Book}
use Rattle.book.specs.declared.book.Memory.{Memory}
use Rattle.book.specs.declared.call.Phase.TheVariants.{Standing, Updating}
use Rattle.book.specs.Books.{update_in, moment_of, revisions_in, cells_in, Performs}
use Rattle.book.specs.Calls.{phase_of}
use Rattle.book.specs.Keeps.{SoundOf}
use Rattle.book.specs.Drafted.{Drafted, Drafts}
use Rattle.book.proofs.Performed.{performs_at, updating_sound, updating_phase}
use Rattle.book.proofs.Steps.{at, commit_step}

-- the newest section cannot be refused
newest_reads : (file : Bytes) (off : ℕ) (f : Fault) → NewestSection file → (newest file).offset ≡ off → section_in file off ≡ bad f → ⊥
newest_reads file off f n e b = never_reading (sym b ∙ ap (section_in file) (sym e) ∙ n.read)

-- so its trailer is read
pub newest_is_read : (file : Bytes) (off : ℕ) (seen : Bytes) (r : Result ℕ Fault) → NewestSection file → (newest file).offset ≡ off → ReadsTrailer file off seen r → ((x : ℕ) → r ≡ Ok x → ⊥) → ⊥
newest_is_read file off seen (Ok x) n e t h = h x refl
newest_is_read file off seen (Err f) n e b h = newest_reads file off f n e b

-- the entries in the window are those of the newest trailer
pub newest_trailer : (file : Bytes) (off : ℕ) (seen : Bytes) (inside : ℕ) → NewestSection file → (newest file).offset ≡ off → TrailerSeen file off seen inside → ReadAs seen inside (newest file).trailer
newest_trailer file off seen inside n e t =
    let s : t.sec ≡ n.sec = same_value (sym t.read ∙ ap (section_in file) (sym e) ∙ n.read) in
    subst (λ es. ReadAs seen inside es) (ap (λ x. x.trailer) s ∙ n.trailer) (t.closes, t.behind, t.trailer)

-- laying down leaves what the book shows
module _ {S : Type 0} {g : Ghosts S} (meaning : S → Meaning) (b b' : Book S g) (objects : ℕ) (d : Drafts meaning b objects b') where
  pub drafted_moment : moment_of meaning b' ≡ moment_of meaning b
  drafted_moment =
      ap (λ s. at (meaning s) (phase_of b'.phase (update_in b'))) d.store
      ∙ ap (λ p. at (meaning b.store) (phase_of p (update_in b'))) d.phase
      ∙ ap (λ h. at (meaning b.store) (phase_of b.phase (update_of h))) d.held

  -- what the book does after the laying down, it does from the moment before
  pub from_before : (c : Call) (a : Answer (Unit {0})) (b'' : Book S g) → Performs meaning b' c a b'' → Performs meaning b c a b''
  from_before c a b'' p = record { step = subst (λ m. Step m c a (moment_of meaning b'')) drafted_moment p.step; sound = p.sound }

-- the section that was written makes the next revision
pub next_made : (file : Bytes) (o : Opened) (u : Update) (w : CommitReads file o u) → opens file ≡ Ok o → 1 ≤ length o.history →
    next_revision (file ++ addition file u) o.history (section_at file u) ≡ Ok w.made
unfolding next_revision link_at link_of is_first
next_made file o u w e l =
    let first : is_first o.history ≡ false = not_first o.history l in
    let states : (newest_or blank o.history).states ≡ (newest file).states = ap (λ r. r.states) (sym (newest_opened file o e)) in
    let linked : link_at (file ++ addition file u) (section_at file u) ≡ Ok (record { sec = w.sec; says = w.says }) =
    rw (w.read, link_at) (rw (w.bounded, link_of) (rw w.telling refl)) in
    ap (λ a. also a (revision (file ++ addition file u) (is_first o.history) (newest_or blank o.history).states)) linked
    ∙ ap (λ f. revision (file ++ addition file u) f (newest_or blank o.history).states (record { sec = w.sec; says = w.says })) first
    ∙ ap (λ t. revision (file ++ addition file u) false t (record { sec = w.sec; says = w.says })) states
    ∙ w.makes
  where
    not_first : (h : List Revision) → 1 ≤ length h → is_first h ≡ false
    not_first [] n = absurd (omega arith)
    not_first (r ∷ h) n = refl

-- an append for which there is space is done
append_done : (s t : Meaning) (more : Bytes) (r : Result (Unit {0}) Fault) → length more ≤ s.space → Appends s more r t → Joined s more t
append_done s t more (Ok u) h a = a
append_done s t more (Err f) h a = absurd (omega (arith, a.0))

-- the revision that was read back is the one that was made
revised_made : (file : Bytes) (h : List Revision) (off : ℕ) (r : Result (Unit {0}) Fault) (rs : List code.Revision) (cs : List Cell) (made : Revision) →
    next_revision file h off ≡ Ok made → Revised file h off r rs cs → TablesOf file (h ++ (made ∷ [])) rs cs
revised_made file h off (Ok x) rs cs made e (new, n, p, t) = subst (λ v. TablesOf file (h ++ (v ∷ [])) rs cs) (answered (sym n ∙ e)) t
revised_made file h off (Err f) rs cs made e n = never_answer (sym n ∙ e)

-- what is known where a commit was accepted
module _ {S : Type 0} {g : Ghosts S} (b : Book S g) (now-updating : b.phase ≡ Updating) (objects : ℕ) (d : Drafted g.meaning b objects)
    (accepted : decide_commit (g.meaning b.store) (update_in b) ≡ Ok tt) where
  abbrev s : Meaning
  s = g.meaning b.store

  abbrev u : Update
  u = update_in b

  st : SoundIn (updating u) s.bytes (revisions_in b) (cells_in b)
  st = updating_sound g.meaning b b.sound now-updating

  objects_fit : objects ≤ length (addition s.bytes u)
  unfolding addition update_bytes
  objects_fit = let n = length-append (update_objects (length s.bytes) (newest s.bytes) u) (update_section (length s.bytes) (newest s.bytes) u) in omega (arith, d.count, n)

  pub offset_small : length s.bytes + objects ≤ 9999999
  offset_small = omega (arith, (limits_parts s.bytes u (commits_fit s u accepted).limits).short, objects_fit)

  pub few_rows : length (revisions_in b) < 64
  few_rows = omega (arith, (limits_parts s.bytes u (commits_fit s u accepted).limits).few, (bounded s.bytes (revisions_in b) (cells_in b) st.0).counted)

  pub rows_tabled : Tabled (revisions_in b) (cells_in b)
  rows_tabled = (bounded s.bytes (revisions_in b) (cells_in b) st.0).tabled

  joined : (s' : S) (a : Result (Unit {0}) Fault) → Appends s (bytes_of b.memory.writer) a (g.meaning s') → Joined s (addition s.bytes u) (g.meaning s')
  joined s' a joins =
      let long = ap length d.bytes in
      subst (λ more. Joined s more (g.meaning s')) d.bytes (append_done s (g.meaning s') (bytes_of b.memory.writer) a (omega (arith, long, (commits_fit s u accepted).space)) joins)

  -- the store that was added to and the tables that were read back are those of a standing book
  pub committed_sound : (s' : S) (h' : Memory) (a r : Result (Unit {0}) Fault) →
      Appends s (bytes_of b.memory.writer) a (g.meaning s') →
      ((h : List Revision) → TablesOf (g.meaning s').bytes h (revisions_in b) (cells_in b) → (newest_or blank h).offset ≤ length s.bytes + objects →
      Revised (g.meaning s').bytes h (length s.bytes + objects) r (revisions_held h'.tables) (cells_held h'.tables)) →
      SoundOf g.meaning s' Standing h'
  committed_sound s' h' a r joins read =
      let t = g.meaning s' in
      let o = st.0.opened in
      let j = joined s' a joins in
      let w = commits_read s.bytes o u st.0.accepted st.1 (commits_fit s u accepted).limits in
      let grown = tables_grow s.bytes (addition s.bytes u) o.history (revisions_in b) (cells_in b) st.0.tables (sections_start s.bytes o (revisions_in b) (cells_in b) st.0.accepted st.0.tables) in
      let known = bounded s.bytes (revisions_in b) (cells_in b) st.0 in
      let newest-at = ap (λ (v : Revision). v.offset) (newest_opened s.bytes o st.0.accepted) in
      let some : 1 ≤ length o.history = omega (arith, known.some, known.counted, ap length (history_opened s.bytes o st.0.accepted)) in
      let place : section_at s.bytes u ≡ length s.bytes + objects = ap (λ n. length s.bytes + n) (sym d.count) in
      let made : next_revision t.bytes o.history (length s.bytes + objects) ≡ Ok w.made =
      ap (λ f. next_revision f o.history (length s.bytes + objects)) j.bytes
      ∙ ap (next_revision (s.bytes ++ addition s.bytes u) o.history) (sym place)
      ∙ next_made s.bytes o u w st.0.accepted some in
      let revised = read o.history (subst (λ f. TablesOf f o.history (revisions_in b) (cells_in b)) (sym j.bytes) grown) (omega (arith, known.offset, newest-at)) in
      let after = revised_made t.bytes o.history (length s.bytes + objects) r (revisions_held h'.tables) (cells_held h'.tables) w.made made revised in
      sound_stays.opening t.bytes (record { header = o.header; history = o.history ++ (w.made ∷ []) }) (revisions_held h'.tables) (cells_held h'.tables) (ap opens j.bytes ∙ w.is.accepted) after

  pub committed : (b' : Book S g) (a : Result (Unit {0}) Fault) → Appends s (bytes_of b.memory.writer) a (g.meaning b'.store) → b'.phase ≡ Standing → Performs g.meaning b (commit false) (Ok tt) b'
  committed b' a joins e =
      performs_at b b' (commit false) (Ok tt) (updating u) standing (updating_phase g.meaning b b.sound now-updating) (ap (λ p. phase_of p (update_in b')) e)
      (commit_step s (g.meaning b'.store) u accepted (joined b'.store a joins))
