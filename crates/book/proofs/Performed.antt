-- A call that a book makes is a step, and leaves it sound.
use Rattle.std.proofs.Common.{◌≡◌, ℕ, ◌+◌, ◌≤◌, true, false, List, length, take, is_some, Some, None, Ok, Err, Option, Result, sym, refl, ap, ◌∙◌, subst, arith, length-drop, length-take}
use Rattle.std.proofs.lemmas.Bool.{not-true}
use Rattle.faults.specs.declared.fault.Fault.{Fault}
use Rattle.faults.specs.declared.reason.Reason.TheVariants.{NoRevision}
use Rattle.faults.specs.Faults.{refused}
use Rattle.stores.specs.Meanings.{Meaning, Shortened, Cuts}
use Rattle.stores.specs.declared.store.Store.{Ghosts}
use Rattle.laws.proofs.Held.{putting, removing}
use Rattle.format.specs.Book.{Phase, standing, updating, Call, back, Step, newest, decide, decide_put, decide_remove, has_room, history, phase_after}
use Rattle.format.specs.Bytes.{Bytes}
use Rattle.format.specs.Chain.{Answer}
use Rattle.format.specs.Revisions.{Revision, find}
use Rattle.format.specs.Updates.{Update, new_numbers}
use Rattle.format.specs.Writing.{new_size}
use Rattle.entries.specs.declared.cell.Cell.{Cell}
use Rattle.entries.specs.declared.revision.Revision as code
use Rattle.book.specs.declared.call.Phase as phases
use Rattle.book.specs.declared.call.Call as calls
use Rattle.entries.specs.Cells.{states_in}
use Rattle.entries.specs.Tables.{cells_of}
use Rattle.keeping.specs.Standing.{SoundIn}
use Rattle.keeping.specs.Staying.{RowAt}
use Rattle.keeping.specs.Telling.{RowOf, NoRow}
use Rattle.keeping.proofs.Kept.{tables_cut}
use Rattle.keeping.proofs.Sound.{sound_stays}
use Rattle.keeping.proofs.Told.{last_row, tables_tell}
use Rattle.chains.proofs.Openings.{history_opened}
use Rattle.format.specs.Questions.{is_shut}
use Rattle.book.proofs.Questioned.{open_book}
use Rattle.writer.specs.Tables.{TableOf}
use Rattle.book.specs.declared.book.Book.{Book}
use Rattle.book.specs.declared.book.Memory.{Memory}
use Rattle.book.specs.declared.call.Phase.TheVariants.{Standing, Updating}
use Rattle.book.specs.Calls.{phase_of, call_of, allows, Refuses}
use Rattle.book.specs.Books.{update_in, moment_of, revisions_in, cells_in, Sound, Performs}
use Rattle.book.specs.Keeps.{SoundOf}
use Rattle.records.specs.Tabled.{revisions_held, cells_held}
use Rattle.book.proofs.Steps.{at, back_step}

-- the states before and after, by their names
pub performs_at : {S : Type 0} {g : Ghosts S} (b b' : Book S g) (c : Call) (a : Answer (Unit {0})) (p p' : Phase) →
    (moment_of g.meaning b).phase ≡ p →
    (moment_of g.meaning b').phase ≡ p' →
    Step (at (g.meaning b.store) p) c a (at (g.meaning b'.store) p') →
    Performs g.meaning b c a b'
performs_at {g = g} b b' c a p p' e e' s =
    record {
      step = subst (λ q. Step (at (g.meaning b.store) q) c a (moment_of g.meaning b')) (sym e) (subst (λ q. Step (at (g.meaning b.store) p) c a (at (g.meaning b'.store) q)) (sym e') s);
      sound = b'.sound;
    }

-- a refused call
pub refused_at : {S : Type 0} {g : Ghosts S} (meaning : S → Meaning) (b : Book S g) (c : Call) (f : Fault) (p : Phase) →
    (moment_of meaning b).phase ≡ p → decide (meaning b.store) p c ≡ Err f → Sound meaning b → Performs meaning b c (Err f) b
refused_at meaning b c f p e d s =
    record { step = record { answer = sym (ap (λ q. decide (meaning b.store) q c) e ∙ d); leaves = refl }; sound = s }

-- the same, where the book shows what it showed
pub refused_to : {S : Type 0} {g : Ghosts S} (b b' : Book S g) (c : Call) (f : Fault) (p : Phase) →
    (moment_of g.meaning b).phase ≡ p → decide (g.meaning b.store) p c ≡ Err f → moment_of g.meaning b ≡ moment_of g.meaning b' → Performs g.meaning b c (Err f) b'
refused_to {g = g} b b' c f p e d same =
    let r = refused_at g.meaning b c f p e d b.sound in
    record { step = subst (λ m. Step (moment_of g.meaning b) c (Err f) m) same r.step; sound = b'.sound }

-- what is known of the tables of a book with an open update, as code reads them: rows, the last of them, all cells, those of that row
module _ {S : Type 0} {g : Ghosts S} (meaning : S → Meaning) (b : Book S g) (sound : Sound meaning b) (now-updating : b.phase ≡ Updating) where
  abbrev file : Bytes
  file = (meaning b.store).bytes

  pub updating_sound : SoundIn (updating (update_in b)) file (revisions_in b) (cells_in b)
  updating_sound = subst (λ p. SoundIn (phase_of p (update_in b)) file (revisions_in b) (cells_in b)) now-updating sound

  pub updating_phase : (moment_of meaning b).phase ≡ updating (update_in b)
  updating_phase = ap (λ p. phase_of p (update_in b)) now-updating

  pub some_row : (rs : List code.Revision) → rs ≡ revisions_in b → 1 ≤ length rs
  some_row rs e =
      let l = (last_row file updating_sound.0.opened (revisions_in b) (cells_in b) updating_sound.0.accepted updating_sound.0.tables).0 in
      let n = ap length e in
      omega (arith, l, n)

  newest_of : (rs : List code.Revision) → rs ≡ revisions_in b → (q : code.Revision) → RowAt rs (length rs) q → RowOf file (cells_in b) (newest file) q
  newest_of rs rs-are q a =
      (last_row file updating_sound.0.opened (revisions_in b) (cells_in b) updating_sound.0.accepted updating_sound.0.tables).1 q
      (subst (λ z. RowAt z (length z) q) rs-are a)

  pub newest_place : (rs : List code.Revision) → rs ≡ revisions_in b → (q : code.Revision) → RowAt rs (length rs) q → (newest file).offset ≡ q.offset
  newest_place rs rs-are q a = (newest_of rs rs-are q a).offset

  -- its Size, and the Size that an update gives it
  pub newest_sized : (rs : List code.Revision) → rs ≡ revisions_in b → (q : code.Revision) → RowAt rs (length rs) q →
      ((newest file).size ≡ q.size) × ((u : Update) → new_size (newest file) u ≡ q.size + new_numbers q.size u)
  unfolding new_size
  newest_sized rs rs-are q a = let e = (newest_of rs rs-are q a).size in (e, λ u. ap (λ n. n + new_numbers n u) e)

  module _ (rs : List code.Revision) (rs-are : rs ≡ revisions_in b) (q : code.Revision) (a : RowAt rs (length rs) q) (cs : List Cell) (cs-are : cs ≡ cells_in b) where
    newest_row : RowOf file (cells_in b) (newest file) q
    newest_row = newest_of rs rs-are q a

    pub row_inside : q.first + q.size ≤ length cs
    row_inside = let n = ap length cs-are in omega (arith, newest_row.within, n)

    pub newest_root : (newest file).root ≡ q.root
    newest_root = newest_row.root

    pub newest_offset : (newest file).offset ≡ q.offset
    newest_offset = newest_row.offset

    pub newest_table : (cells : List Cell) → cells ≡ cells_of cs q → TableOf file cells (newest file)
    newest_table cells e =
        let w = newest_row.within in
        let same : cells ≡ cells_of (cells_in b) q = e ∙ ap (λ z. cells_of z q) cs-are in
        let n : q.size ≡ length (cells_of (cells_in b) q) = simp (length-take, length-drop) (omega (arith, w)) in
        record { states = newest_row.states ∙ ap (states_in file) (sym same); size = newest_row.size ∙ n ∙ ap length (sym same) }

none_of : {A : Type 0} (o : Option A) → is_some o ≡ false → o ≡ None
none_of None h = refl
none_of (Some x) h = let z : ◌≡◌ {A = ℕ} 0 1 = cc in absurd (omega arith)

-- an accepted put has a number without a change, and room for the body
pub put_room : (r : Revision) (u : Update) (n : ℕ) (b : Bytes) → decide_put r u n b ≡ Ok tt → (find n u ≡ None) × (has_room u (length b) ≡ true)
put_room r u n b e = let p = putting r u n b e in (none_of (find n u) (not-true _ p.fresh), p.room)

pub remove_room : (r : Revision) (u : Update) (n : ℕ) → decide_remove r u n ≡ Ok tt → (find n u ≡ None) × (has_room u 0 ≡ true)
remove_room r u n e = let p = removing r u n e in (none_of (find n u) (not-true _ p.fresh), p.room)

-- a cut within the bytes is done
cut_done : (s t : Meaning) (n : ℕ) (r : Result (Unit {0}) Fault) → n ≤ length s.bytes → Cuts s n r t → Shortened s n t
cut_done s t n (Ok u) h c = c
cut_done s t n (Err f) h c = absurd (omega (arith, c.0))

-- going back, by the row of the revision: the store is cut at its end, and the tables behind it
pub back_sound : {S : Type 0} (meaning : S → Meaning) (s s' : S) (p : phases.Phase) (h h' : Memory) (k : ℕ) (q : code.Revision) (r : Result (Unit {0}) Fault) →
    p ≡ Standing →
    SoundOf meaning s p h →
    RowAt (revisions_held h.tables) k q →
    Cuts (meaning s) q.end r (meaning s') →
    revisions_held h'.tables ≡ take k (revisions_held h.tables) →
    cells_held h'.tables ≡ take (q.first + q.size) (cells_held h.tables) →
    SoundOf meaning s' p h'
back_sound meaning s s' p h h' k q r e sound a c er ec =
    let m = meaning s in
    let st = subst (λ x. SoundOf meaning s x h) e sound in
    let by = sound_stays.back m (revisions_held h.tables) (cells_held h.tables) k st in
    let short = (tables_cut m.bytes st.opened (revisions_held h.tables) (cells_held h.tables) k q st.accepted st.tables a).short in
    let d = cut_done m (meaning s') q.end r short c in
    subst (λ x. SoundOf meaning s' x h') (sym e)
    (subst (λ f. SoundIn standing f (revisions_held h'.tables) (cells_held h'.tables)) (sym d.bytes)
    (subst (λ rs. SoundIn standing (take q.end m.bytes) rs (cells_held h'.tables)) (sym er)
    (subst (λ cs. SoundIn standing (take q.end m.bytes) (take k (revisions_held h.tables)) cs) (sym ec) (by.sound q a))))

pub went_back : {S : Type 0} {g : Ghosts S} (b b' : Book S g) (k : ℕ) (q : code.Revision) (r : Result (Unit {0}) Fault) →
    b.phase ≡ Standing →
    b'.phase ≡ Standing →
    RowAt (revisions_in b) k q →
    Cuts (g.meaning b.store) q.end r (g.meaning b'.store) →
    Performs g.meaning b (back k) (Ok tt) b'
went_back {g = g} b b' k q r e e' a c =
    let m = g.meaning b.store in
    let st = subst (λ x. SoundOf g.meaning b.store x b.memory) e b.sound in
    let by = sound_stays.back m (revisions_in b) (cells_in b) k st in
    let short = (tables_cut m.bytes st.opened (revisions_in b) (cells_in b) k q st.accepted st.tables a).short in
    let d = cut_done m (g.meaning b'.store) q.end r short c in
    performs_at b b' (back k) (Ok tt) standing standing
    (ap (λ p. phase_of p (update_in b)) e)
    (ap (λ p. phase_of p (update_in b')) e')
    (back_step m (g.meaning b'.store) k (by.some q a) (d.bytes ∙ sym (by.bytes q a)) d.regained)

-- going back to a revision that is not there
pub stayed : {S : Type 0} {g : Ghosts S} (meaning : S → Meaning) (b : Book S g) (k : ℕ) → Sound meaning b → b.phase ≡ Standing → NoRow (revisions_in b) k → Performs meaning b (back k) (Err (refused NoRevision 0)) b
stayed meaning b k s e n =
    let m = meaning b.store in
    let st = subst (λ p. SoundIn (phase_of p (update_in b)) m.bytes (revisions_in b) (cells_in b)) e s in
    refused_at meaning b (back k) (refused NoRevision 0) standing (ap (λ p. phase_of p (update_in b)) e) ((sound_stays.back m (revisions_in b) (cells_in b) k st).none n) s

-- a call that the state does not allow
pub not_allowed : {S : Type 0} {g : Ghosts S} (meaning : S → Meaning) (b : Book S g) (p : phases.Phase) (c : calls.Call) (f : Fault) →
    b.phase ≡ p → allows p c ≡ false → Refuses p c f → Sound meaning b → Performs meaning b (call_of c) (Err f) b
not_allowed meaning b p c f e a r s =
    refused_at meaning b (call_of c) f (phase_of p (update_in b)) (ap (λ q. phase_of q (update_in b)) e) (r a (meaning b.store) (update_in b)) s

-- as many rows as revisions
pub rows_counted : {S : Type 0} {g : Ghosts S} (meaning : S → Meaning) (b : Book S g) → Sound meaning b → is_shut (moment_of meaning b).phase ≡ false → length (revisions_in b) ≡ length (history (meaning b.store).bytes)
rows_counted meaning b s h =
    let o = open_book meaning b s h in
    (tables_tell (meaning b.store).bytes o.opened.history (revisions_in b) (cells_in b) o.tables).counted
    ∙ ap length (sym (history_opened (meaning b.store).bytes o.opened o.accepted))

-- after an accepted opening or commit the book stands
pub stands_after : {S : Type 0} {g : Ghosts S} (meaning : S → Meaning) (b b' : Book S g) (c : Call) → phase_after (moment_of meaning b).phase c ≡ standing → Performs meaning b c (Ok tt) b' → is_shut (moment_of meaning b').phase ≡ false
unfolding is_shut
stands_after meaning b b' c e p = ap is_shut (p.step.leaves.phase ∙ e)
