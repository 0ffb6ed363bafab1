-- Tables stay: while the file grows, gains a revision, or is cut.
use Rattle.std.proofs.Common.{◌≡◌, ℕ, suc, ◌+◌, ◌-◌, ◌≤◌, List, [], ◌∷◌, ◌++◌, map, length, take, Some, Ok, sym, refl, ap, ◌∙◌, subst, arith, length-append}
use lib.Seq.{take-append_seam}
use Rattle.std.proofs.lemmas.List.{drop_at, length-take-le, map_push, take_all, take-map, take-take}
use Rattle.format.specs.Book.{revision_at, end_of_revision}
use Rattle.format.specs.Bytes.{Bytes}
use Rattle.format.specs.Revisions as format
use Rattle.format.specs.Revisions.{opens}
use Rattle.chains.proofs.Ends.{ends_ascend}
use Rattle.chains.proofs.Needs.{needed}
use Rattle.entries.specs.declared.cell.Cell.{Cell}
use Rattle.entries.specs.declared.revision.Revision.{Revision}
use Rattle.entries.specs.Cells.{AllEndBy}
use Rattle.entries.specs.Tables.{bare, cells_of, revision_in, Stacked, TablesOf}
use Rattle.laws.proofs.Unconditional.{prefixes}
use Rattle.keeping.specs.Staying.{StartBy, TablesGrow, TablesTakeOneMore, RowAt, TablesAreCut}
use Rattle.keeping.proofs.Rows.{rows_over, rows_with, within_alike, stacked_more, within_more, within_first, stacked_first}
use Rattle.keeping.proofs.Starts.{rows_start}
use Rattle.keeping.proofs.Told.{tables_tell}

-- tables of a file whose first bytes, up to where the sections start, are those of another
tables_over : (file file' : Bytes) (m : ℕ) → take m file ≡ take m file' → (history : List format.Revision) (rs : List Revision) (cs : List Cell) →
    StartBy m rs → TablesOf file history rs cs → TablesOf file' history rs cs
tables_over file file' m same history rs cs b t =
    record { is = t.is ∙ rows_over file file' m same cs rs b t.within; stacked = t.stacked; within = t.within }

pub tables_grow : TablesGrow
tables_grow file more history rs cs t b =
    tables_over file (file ++ more) (length file)
    (take_all (length file) file (omega arith) ∙ sym (take-append_seam file more)) history rs cs b t

-- the cells behind those of a table
pub next_cells : (cs new : List Cell) (q : Revision) → q.first ≡ length cs → length new ≡ q.size → cells_of (cs ++ new) q ≡ new
next_cells cs new q f s = ap (take q.size) (drop_at cs new q.first (sym f)) ∙ take_all q.size new (omega arith)

pub one_more : TablesTakeOneMore
one_more file history rs cs new r q t n =
    let same : take (length cs) cs ≡ take (length cs) (cs ++ new) = take_all (length cs) cs (omega arith) ∙ sym (take-append_seam cs new) in
    let old = rows_with cs (cs ++ new) (length cs) same file 0 rs t.stacked in
    let l = length-append cs new in
    let s = n.size in
    record {
      is =
          map_push bare history r
          ∙ ap (λ x. x ++ (bare r ∷ [])) (t.is ∙ old)
          ∙ ap (λ x. map (revision_in file (cs ++ new)) rs ++ (x ∷ [])) n.is
          ∙ sym (map_push (revision_in file (cs ++ new)) rs q);
      stacked = stacked_more 0 (length cs) (length (cs ++ new)) rs q t.stacked n.first (omega arith);
      within = within_more (cs ++ new) rs q (within_alike cs (cs ++ new) (length cs) same 0 rs t.stacked t.within)
          (subst (AllEndBy q.offset) (sym (next_cells cs new q n.first n.size)) n.within);
    }

-- the first rows, with their cells
first_rows : (file : Bytes) (history : List format.Revision) (rs : List Revision) (cs : List Cell) (k : ℕ) (q : Revision) →
    TablesOf file history rs cs → RowAt rs k q → q.first + q.size ≤ length cs →
    TablesOf file (take k history) (take k rs) (take (q.first + q.size) cs)
first_rows file history rs cs k q t a few =
    let c = q.first + q.size in
    let l = a.low in
    let h = a.high in
    let e : suc (k - 1) ≡ k = omega arith in
    let s : Stacked 0 c (take k rs) = subst (λ n. Stacked 0 c (take n rs)) e (stacked_first 0 (length cs) rs (k - 1) q t.stacked (omega arith) a.read) in
    let same : take c cs ≡ take c (take c cs) = sym (take-take c c cs (omega arith)) in
    record {
      is =
          sym (take-map bare k history)
          ∙ ap (take k) t.is
          ∙ take-map (revision_in file cs) k rs
          ∙ rows_with cs (take c cs) c same file 0 (take k rs) s;
      stacked = subst (λ n. Stacked 0 n (take k rs)) (sym (length-take-le c cs few)) s;
      within = within_alike cs (take c cs) c same 0 (take k rs) s (within_first cs k rs t.within);
    }

end_is : (k : ℕ) (h : List format.Revision) (r : format.Revision) → revision_at k h ≡ Some r → end_of_revision k h ≡ r.end
unfolding end_of_revision
end_is k h r e = rw (e, end_of_revision) refl

pub tables_cut : TablesAreCut
tables_cut file o rs cs k q e t a =
    let T = tables_tell file o.history rs cs t in
    let x = T.row k q a in
    let n = T.counted in
    let l = a.high in
    let end : end_of_revision k o.history ≡ q.end = end_is k o.history x.0 x.1 ∙ x.2.end in
    let inside = (ends_ascend needed file o e).within k in
    let opened : opens (take q.end file) ≡ Ok (record { header = o.header; history = take k o.history }) =
    subst (λ m. opens (take m file) ≡ Ok (record { header = o.header; history = take k o.history })) end (prefixes file o k e a.low (omega arith)) in
    let first = first_rows file o.history rs cs k q t a x.2.within in
    let long : length (take q.end file) ≡ q.end = length-take-le q.end file (omega arith) in
    let starts : StartBy q.end (take k rs) =
    subst (λ m. StartBy m (take k rs)) long
    (rows_start (take q.end file) (record { header = o.header; history = take k o.history }) file (take k rs) (take (q.first + q.size) cs) opened first.is) in
    record {
      end = end;
      short = omega arith;
      few = x.2.within;
      opened = opened;
      tables = tables_over file (take q.end file) q.end (sym (take-take q.end q.end file (omega arith))) (take k o.history) (take k rs) (take (q.first + q.size) cs) starts first;
    }
