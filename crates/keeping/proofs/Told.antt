-- What rows and cells tell.
use Rattle.std.proofs.Common.{◌≡◌, ℕ, zero, suc, ◌+◌, ◌-◌, ◌<◌, List, [], ◌∷◌, length, get_or, drop, Some, None, Option, sym, refl, ap, ◌∙◌, subst, arith, length-drop, length-take}
use Rattle.std.proofs.lemmas.List.{get_or-take, get_or-drop, length-map}
use Rattle.format.specs.Book.{revision_at, blank, newest_or, is_used, is_worn_out}
use Rattle.format.specs.Bytes.{Bytes}
use Rattle.format.specs.Revisions as format
use Rattle.format.specs.Revisions.{nth}
use Rattle.format.specs.Updates.{shown_all, objects_of, new_numbers}
use Rattle.format.specs.Writing.{new_size}
use Rattle.chains.proofs.Ends.{ends_ascend}
use Rattle.chains.proofs.Needs.{needed}
use Rattle.chains.proofs.Openings.{newest_opened}
use Rattle.entries.specs.declared.cell.Cell.{Cell}
use Rattle.entries.specs.declared.cell.Cell.TheVariants.{Used, Free}
use Rattle.entries.specs.declared.revision.Revision.{Revision}
use Rattle.entries.specs.Cells.{state_in, EndsBy, AllEndBy}
use Rattle.entries.specs.Tables.{bare, cells_of, revision_in, TablesOf}
use Rattle.laws.proofs.Files.{at_newest}
use Rattle.tables.proofs.Applied.{nth_shown, shown_length}
use Rattle.tables.proofs.Finds.{nth_past}
use Rattle.keeping.specs.Staying.{RowAt}
use Rattle.keeping.specs.Telling.{RowOf, NoRow, Tells, TablesTell, LastRowIsNewest, CellAt, in_use, worn_out, CellsTold, CellsTell}
use Rattle.keeping.proofs.Parts.{nth_map_at, paired, paired_length}
use Rattle.keeping.proofs.Rows.{row_ends, row_before}

some_same : {A : Type 0} {x y : A} → ◌≡◌ {A = Option A} (Some x) (Some y) → x ≡ y
some_same e = cc

module _ (file : Bytes) (history : List format.Revision) (rs : List Revision) (cs : List Cell) (t : TablesOf file history rs cs) where
  row_of : (r : format.Revision) (i : ℕ) (q : Revision) → bare r ≡ revision_in file cs q → i < length rs → q ≡ get_or rs i q → RowOf file cs r q
  row_of r i q e l h = record {
    is = e;
    offset = ap (λ x. x.offset) e;
    end = ap (λ x. x.end) e;
    size = ap (λ x. x.size) e;
    root = ap (λ x. x.root) e;
    root_gen = ap (λ x. x.root_gen) e;
    states = ap (λ x. x.states) e;
    within = row_ends 0 (length cs) rs i q t.stacked l h;
    before = row_before cs rs i q t.within l h;
  }

  row : (k : ℕ) (q : Revision) → RowAt rs k q → (r : format.Revision) × (revision_at k history ≡ Some r) × RowOf file cs r q
  unfolding revision_at
  row zero q a = let l = a.low in absurd (omega arith)
  row (suc i) q a =
      let l = a.high in
      let e : suc i - 1 ≡ i = omega arith in
      let h = subst (λ n. q ≡ get_or rs n q) e a.read in
      let p = paired bare (revision_in file cs) history rs t.is i q (omega arith) h in
      (p.0, p.1, row_of p.0 i q p.2 (omega arith) h)

  none : (k : ℕ) → NoRow rs k → revision_at k history ≡ None
  unfolding revision_at
  none zero a = refl
  none (suc i) a =
      let n = paired_length bare (revision_in file cs) history rs t.is in
      nth_past i history (let b : i < length history → ⊥ = λ h. a (omega arith) (omega arith) in omega arith)

  tells : Tells file history rs cs
  tells = record {
    counted = paired_length bare (revision_in file cs) history rs t.is;
    row = row;
    none = none;
    last = λ q a.
        let n = paired_length bare (revision_in file cs) history rs t.is in
        let l = a.low in
        let x = row (length rs) q a in
        let e : revision_at (length rs) history ≡ Some (newest_or blank history) = ap (λ k. revision_at k history) n ∙ at_newest history (omega arith) in
        subst (λ r. RowOf file cs r q) (some_same (sym x.1 ∙ e)) x.2;
  }

pub tables_tell : TablesTell
tables_tell file history rs cs t = tells file history rs cs t

pub last_row : LastRowIsNewest
last_row file o rs cs e t =
    let x = (ends_ascend needed file o e).some in
    let T = tables_tell file o.history rs cs t in
    let n = T.counted in
    (omega arith, λ q a. subst (λ r. RowOf file cs r q) (sym (newest_opened file o e)) (T.last q a))

all_at : (limit : ℕ) (cs : List Cell) (n : ℕ) (c : Cell) → AllEndBy limit cs → n < length cs → c ≡ get_or cs n c → EndsBy limit c
all_at limit [] n c a l h = absurd (omega arith)
all_at limit (d ∷ cs) zero c a l h = subst (EndsBy limit) (sym h) a.0
all_at limit (d ∷ cs) (suc n) c a l h = all_at limit cs n c a.1 (omega arith) h

cell_used : (file : Bytes) (c : Cell) → is_used (Some (state_in file c)) ≡ in_use c
unfolding is_used
cell_used file (Used g s e) = refl
cell_used file (Free g n) = refl

cell_worn : (file : Bytes) (c : Cell) → is_worn_out (Some (state_in file c)) ≡ worn_out c
unfolding is_worn_out
cell_worn file (Used g s e) = refl
cell_worn file (Free g n) = refl

module _ (file : Bytes) (cs : List Cell) (r : format.Revision) (q : Revision) (w : RowOf file cs r q) where
  cells_long : length (cells_of cs q) ≡ q.size
  cells_long = let l = w.within in simp (length-take, length-drop) (omega arith)

  cell_at : (n : ℕ) (c : Cell) → CellAt cs q n c → c ≡ get_or (cells_of cs q) n c
  cell_at n c a = a.read ∙ sym (get_or-drop q.first cs n c) ∙ sym (get_or-take q.size (drop q.first cs) n c a.below)

  state_at : (n : ℕ) (c : Cell) → CellAt cs q n c → nth n r.states ≡ Some (state_in file c)
  state_at n c a =
      let l = a.below in
      let m = cells_long in
      ap (nth n) w.states ∙ nth_map_at (state_in file) (cells_of cs q) n c (omega arith) (cell_at n c a)

  states_long : length r.states ≡ q.size
  states_long = ap length w.states ∙ length-map (cells_of cs q) (state_in file) ∙ cells_long

  told : CellsTold file cs r q
  unfolding objects_of is_used is_worn_out new_size
  told = record {
    state = state_at;
    shown = λ n c a. nth_shown n r.states (state_in file c) (state_at n c a);
    ends = λ n c a. let l = a.below in let m = cells_long in all_at q.offset (cells_of cs q) n c w.before (omega arith) (cell_at n c a);
    past = λ n h. let m = states_long in nth_past n r.states (omega arith);
    nothing = λ n h. let m = states_long in let k = shown_length r.states in nth_past n (shown_all r.states) (omega arith);
    used = λ n c a. ap is_used (state_at n c a) ∙ cell_used file c;
    worn = λ n c a. ap is_worn_out (state_at n c a) ∙ cell_worn file c;
    unused = λ n h. let m = states_long in ap is_used (nth_past n r.states (omega arith));
    unworn = λ n h. let m = states_long in ap is_worn_out (nth_past n r.states (omega arith));
    size = λ u. ap (λ n. n + new_numbers n u) w.size;
  }

pub cells_tell : CellsTell
cells_tell file cs r q w = told file cs r q w
