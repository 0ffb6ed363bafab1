-- What the questions to an open book answer, from its rows and cells.
use Rattle.std.proofs.Common.{◌≡◌, ℕ, zero, suc, ◌+◌, ◌-◌, ◌<◌, ◌≤◌, true, leb, List, [], ◌∷◌, ◌++◌, length, get_or, take, drop, Some, Ok, Err, sym, refl, ap, ◌∙◌, arith, length-drop, length-take}
use Rattle.std.proofs.lemmas.List.{get_or-drop, length-take-le, take_more}
use Rattle.faults.specs.declared.reason.Reason.TheVariants.{BookShut, NoRevision, NotInUse, ShortBuffer, NoSpace}
use Rattle.faults.specs.Faults.{refused}
use Rattle.format.specs.Book.{Moment, revision_at}
use Rattle.format.specs.Bytes.{Bytes}
use Rattle.format.specs.Chain.{Answer, also, must}
use Rattle.format.specs.Questions.{is_shut, ask_history, ask_revision, ask_count, count_in_use, listing_of, ask_list, shown_object, ask_fetch, ask_draw}
use Rattle.format.specs.Revisions as format
use Rattle.format.specs.Updates.{shown_of, shown_all, objects_of}
use Rattle.chains.proofs.Openings.{history_opened}
use Rattle.entries.specs.declared.cell.Cell.{Cell}
use Rattle.entries.specs.declared.cell.Cell.TheVariants.{Used, Free}
use Rattle.entries.specs.declared.revision.Revision.{Revision}
use Rattle.entries.specs.Cells.{part, state_in, states_in, EndsBy}
use Rattle.entries.specs.Tables.{cells_of}
use Rattle.keeping.specs.Answering.{ShutBooksAnswerNothing, OpenBook, CountFromRows, used_one, used_among, UsedCellsCount, ListFromRows, fetched_from, FetchFromCells, DrawFromRows}
use Rattle.keeping.specs.Staying.{RowAt, StartBy}
use Rattle.keeping.specs.Telling.{NoRow, Tells, CellAt}
use Rattle.keeping.proofs.Kept.{tables_cut}
use Rattle.keeping.proofs.Starts.{sections_start}
use Rattle.keeping.proofs.Told.{tables_tell, cells_tell}

also_is : {A B : Type 0} (a : Answer A) (k : A → Answer B) (x : A) → a ≡ Ok x → also a k ≡ k x
also_is a k x e = ap (λ z. also z k) e

also_not : {A B : Type 0} (a : Answer A) (k : A → Answer B) (f : _) → a ≡ Err f → also a k ≡ Err f
also_not a k f e = ap (λ z. also z k) e

-- a shut book
no_history : (m : Moment) (n : ℕ) → is_shut m.phase ≡ true → ask_history m n ≡ Err (refused BookShut n)
unfolding ask_history
no_history m n h = rw (h, ask_history) refl

no_answer : (m : Moment) (n k : ℕ) → is_shut m.phase ≡ true → ask_revision m n k ≡ Err (refused BookShut n)
unfolding ask_revision
no_answer m n k h = also_not (ask_history m n) _ (refused BookShut n) (no_history m n h)

pub shut_answers : ShutBooksAnswerNothing
unfolding ask_count ask_list ask_fetch ask_draw
shut_answers m h = record {
  count = also_not (ask_history m 0) _ (refused BookShut 0) (no_history m 0 h);
  list = λ k. also_not (ask_revision m 0 k) _ (refused BookShut 0) (no_answer m 0 k h);
  fetch = λ k n room. also_not (ask_revision m n k) _ (refused BookShut n) (no_answer m n k h);
  draw = λ k space. also_not (ask_revision m 0 k) _ (refused BookShut 0) (no_answer m 0 k h);
}

-- cells in use
used_push : (cs : List Cell) (c : Cell) → used_among (cs ++ (c ∷ [])) ≡ used_among cs + used_one c
used_push [] c = omega arith
used_push (d ∷ cs) c = let h = used_push cs c in omega arith

pub used_count : UsedCellsCount
used_count cs first i c l h =
    let n : i < length (drop first cs) = simp length-drop (omega arith) in
    let e : c ≡ get_or (drop first cs) i c = h ∙ sym (get_or-drop first cs i c) in
    ap used_among (take_more (drop first cs) i c n)
    ∙ used_push (take i (drop first cs)) (get_or (drop first cs) i c)
    ∙ ap (λ x. used_among (take i (drop first cs)) + used_one x) (sym e)

used_shown : (file : Bytes) (cs : List Cell) → count_in_use (shown_all (states_in file cs)) ≡ used_among cs
unfolding count_in_use shown_all shown_of
used_shown file [] = refl
used_shown file (Used g s e ∷ cs) = let h = used_shown file cs in omega arith
used_shown file (Free g n ∷ cs) = let h = used_shown file cs in omega arith

-- a section starts within the file
start_at : (limit : ℕ) (rs : List Revision) (i : ℕ) (q : Revision) → StartBy limit rs → i < length rs → q ≡ get_or rs i q → q.offset ≤ limit
start_at limit [] i q b l h = absurd (omega arith)
start_at limit (r ∷ rs) zero q b l h = let s = b.0 in let e = ap (λ x. x.offset) h in omega arith
start_at limit (r ∷ rs) (suc i) q b l h = start_at limit rs i q b.1 (omega arith) h

ends_later : (a b : ℕ) (c : Cell) → a ≤ b → EndsBy a c → EndsBy b c
ends_later a b (Used g s e) l h = (h.0, let x = h.1 in omega arith)
ends_later a b (Free g n) l h = tt

part_long : (file : Bytes) (s e : ℕ) → s ≤ e → e ≤ length file → length (part file s e) ≡ e - s
part_long file s e l h = simp (length-take, length-drop) (omega arith)

fetched : (file : Bytes) (n room : ℕ) (c : Cell) → EndsBy (length file) c →
    also (shown_object n (Some (shown_of (state_in file c)))) (λ o. must (leb (length o.1) room) (refused ShortBuffer n) (λ _. Ok o)) ≡ fetched_from file n room c
unfolding shown_object shown_of
fetched file n room (Used g s e) h =
    ap {B = Answer (ℕ × Bytes)} (λ z. must (leb z room) (refused ShortBuffer n) (λ _. Ok (g, part file s e))) (part_long file s e h.0 h.1)
fetched file n room (Free g l) h = refl

module _ (m : Moment) (rs : List Revision) (cs : List Cell) (b : OpenBook m rs cs) where
  the_history : (n : ℕ) → ask_history m n ≡ Ok b.opened.history
  unfolding ask_history
  the_history n =
      let e = history_opened m.store.bytes b.opened b.accepted in
      rw (b.unshut, ask_history) (ap {B = Answer (List format.Revision)} (λ h. Ok h) e)

  abbrev told : Tells m.store.bytes b.opened.history rs cs
  told = tables_tell m.store.bytes b.opened.history rs cs b.tables

  the_count : ask_count m ≡ Ok (length rs)
  unfolding ask_count
  the_count = also_is (ask_history m 0) _ b.opened.history (the_history 0) ∙ ap {B = Answer ℕ} (λ n. Ok n) (sym told.counted)

  no_revision : (n k : ℕ) → NoRow rs k → ask_revision m n k ≡ Err (refused NoRevision n)
  unfolding ask_revision
  no_revision n k a = also_is (ask_history m n) _ b.opened.history (the_history n) ∙ rw (told.none k a) refl

  a_revision : (n k : ℕ) (r : format.Revision) → revision_at k b.opened.history ≡ Some r → ask_revision m n k ≡ Ok r
  unfolding ask_revision
  a_revision n k r e = also_is (ask_history m n) _ b.opened.history (the_history n) ∙ rw e refl

  list_some : (k : ℕ) (q : Revision) → RowAt rs k q →
      ask_list m k ≡ Ok (record { offset = q.offset; end = q.end; size = q.size; count = used_among (cells_of cs q) })
  unfolding ask_list listing_of objects_of
  list_some k q a =
      let x = told.row k q a in
      let w = x.2 in
      let c = ap (λ s. count_in_use (shown_all s)) w.states ∙ used_shown m.store.bytes (cells_of cs q) in
      also_is (ask_revision m 0 k) _ x.0 (a_revision 0 k x.0 x.1)
      ∙ (let o = w.offset in let e = w.end in let s = w.size in λ i. Ok (record { offset = o i; end = e i; size = s i; count = c i }))

  cell_ends : (k n : ℕ) (q : Revision) (c : Cell) → RowAt rs k q → CellAt cs q n c → EndsBy (length m.store.bytes) c
  cell_ends k n q c a at =
      let x = told.row k q a in
      let s = sections_start m.store.bytes b.opened rs cs b.accepted b.tables in
      let l = a.low in
      let h = a.high in
      let o = start_at (length m.store.bytes) rs (k - 1) q s (omega arith) a.read in
      ends_later q.offset (length m.store.bytes) c o ((cells_tell m.store.bytes cs x.0 q x.2).ends n c at)

  fetch_cell : (k n room : ℕ) (q : Revision) (c : Cell) → RowAt rs k q → CellAt cs q n c → ask_fetch m k n room ≡ fetched_from m.store.bytes n room c
  unfolding ask_fetch
  fetch_cell k n room q c a at =
      let x = told.row k q a in
      let s = (cells_tell m.store.bytes cs x.0 q x.2).shown n c at in
      also_is (ask_revision m n k) _ x.0 (a_revision n k x.0 x.1)
      ∙ ap (λ z. also (shown_object n z) (λ o. must (leb (length o.1) room) (refused ShortBuffer n) (λ _. Ok o))) s
      ∙ fetched m.store.bytes n room c (cell_ends k n q c a at)

  fetch_past : (k n room : ℕ) (q : Revision) → RowAt rs k q → q.size ≤ n → ask_fetch m k n room ≡ Err (refused NotInUse n)
  unfolding ask_fetch shown_object
  fetch_past k n room q a l =
      let x = told.row k q a in
      let s = (cells_tell m.store.bytes cs x.0 q x.2).nothing n l in
      also_is (ask_revision m n k) _ x.0 (a_revision n k x.0 x.1)
      ∙ ap (λ z. also (shown_object n z) (λ o. must (leb (length o.1) room) (refused ShortBuffer n) (λ _. Ok o))) s

  draw_short : (k : ℕ) (q : Revision) → RowAt rs k q → q.end ≤ length m.store.bytes
  draw_short k q a = (tables_cut m.store.bytes b.opened rs cs k q b.accepted b.tables a).short

  draw_some : (k space : ℕ) (q : Revision) → RowAt rs k q →
      ask_draw m k space ≡ must (leb q.end space) (refused NoSpace 0) (λ _. Ok (take q.end m.store.bytes))
  unfolding ask_draw
  draw_some k space q a =
      let x = told.row k q a in
      let e = x.2.end in
      let n = length-take-le q.end m.store.bytes (draw_short k q a) in
      also_is (ask_revision m 0 k) _ x.0 (a_revision 0 k x.0 x.1)
      ∙ ap {B = Answer Bytes} (λ z. must (leb (length (take z m.store.bytes)) space) (refused NoSpace 0) (λ _. Ok (take z m.store.bytes))) e
      ∙ ap {B = Answer Bytes} (λ z. must (leb z space) (refused NoSpace 0) (λ _. Ok (take q.end m.store.bytes))) n

pub count_rows : CountFromRows
count_rows m rs cs b = the_count m rs cs b

pub list_rows : ListFromRows
unfolding ask_list
list_rows m rs cs k b = record {
  none = λ a. also_not (ask_revision m 0 k) _ (refused NoRevision 0) (no_revision m rs cs b 0 k a);
  there = λ q a. ((told m rs cs b).row k q a).2.within;
  some = list_some m rs cs b k;
}

pub fetch_cells : FetchFromCells
unfolding ask_fetch
fetch_cells m rs cs k n room b = record {
  none = λ a. also_not (ask_revision m n k) _ (refused NoRevision n) (no_revision m rs cs b n k a);
  past = fetch_past m rs cs b k n room;
  cell = fetch_cell m rs cs b k n room;
  there = λ q a l. let w = ((told m rs cs b).row k q a).2.within in omega arith;
  ends = cell_ends m rs cs b k n;
}

pub draw_rows : DrawFromRows
unfolding ask_draw
draw_rows m rs cs k space b = record {
  none = λ a. also_not (ask_revision m 0 k) _ (refused NoRevision 0) (no_revision m rs cs b 0 k a);
  some = draw_some m rs cs b k space;
  short = draw_short m rs cs b k;
}
