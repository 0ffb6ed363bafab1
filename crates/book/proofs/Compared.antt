-- The objects of two revisions, compared by their cells.
use Rattle.std.proofs.Common.{◌≡◌, ℕ, ◌+◌, ◌-◌, ◌<◌, ◌≤◌, true, false, ◌&&◌, List, [], ◌∷◌, length, get_or, Some, None, Ok, Err, Option, refl, ap, ◌∙◌, ⊎_elim, arith, length-drop, length-take}
use Rattle.std.proofs.lemmas.List.{get_or_default}
use Rattle.std.proofs.lemmas.Bool.{cases_lt, eq-eqb}
use Rattle.faults.specs.declared.fault.Fault.{Fault}
use Rattle.faults.specs.declared.reason.Reason.TheVariants.{NoRevision}
use Rattle.faults.specs.Faults.{refused}
use Rattle.chains.proofs.Openings.{history_opened}
use Rattle.locality.proofs.Cases.{cases}
use Rattle.locality.proofs.Objects.{same_eq}
use Rattle.format.specs.Book.{Moment, revision_at, history}
use Rattle.format.specs.Bytes.{Bytes, same}
use Rattle.format.specs.Chain.{Answer, also}
use Rattle.format.specs.Questions.{ask_history, ask_revision}
use Rattle.format.specs.Revisions as format
use Rattle.format.specs.Revisions.{nth}
use Rattle.format.specs.Updates.{shown_of, objects_of}
use Rattle.entries.specs.Cells.{part, state_in}
use Rattle.entries.specs.declared.cell.Cell.{Cell}
use Rattle.entries.specs.declared.cell.Cell.TheVariants.{Used, Free}
use Rattle.entries.specs.declared.revision.Revision.{Revision}
use Rattle.keeping.specs.Answering.{OpenBook}
use Rattle.keeping.specs.Staying.{RowAt}
use Rattle.keeping.specs.Telling.{RowOf, CellAt}
use Rattle.keeping.proofs.Asked.{fetch_cells}
use Rattle.keeping.proofs.Told.{tables_tell, cells_tell}
use Rattle.book.specs.declared.rows.Body.{Body}
use Rattle.book.specs.Differences.{used, became, difference, ask_differ, LiesIf, body_in}
use Rattle.book.specs.Rows.{is_free, BodyFound}

-- bytes are the same as themselves, and of other lengths they are not
pub same_refl : (xs : Bytes) → same xs xs ≡ true
unfolding same
same_refl [] = refl
same_refl (x ∷ xs) = ap (λ t. t && same xs xs) (eq-eqb x x refl) ∙ same_refl xs

pub unlike_lengths : (xs ys : Bytes) → (length xs ≡ length ys → ⊥) → same xs ys ≡ false
unlike_lengths xs ys h = cases (same xs ys) (λ t. absurd (h (ap length (same_eq xs ys t)))) (λ f. f)

abbrev found : ℕ → Option format.Revision → Answer format.Revision
found n o = elim o [ None ↦ Err (refused NoRevision n) | Some r ↦ Ok r ]

-- revision k of an open book, by its row
pub revision_of : (m : Moment) (rs : List Revision) (cs : List Cell) (n k : ℕ) (q : Revision) → OpenBook m rs cs → RowAt rs k q →
    (r : format.Revision) × (ask_revision m n k ≡ Ok r) × RowOf m.store.bytes cs r q
unfolding ask_revision ask_history
revision_of m rs cs n k q b a =
    let x = (tables_tell m.store.bytes b.opened.history rs cs b.tables).row k q a in
    let e = ap (revision_at k) (history_opened m.store.bytes b.opened b.accepted) ∙ x.1 in
    let h : ask_history m n ≡ Ok (history m.store.bytes) = rw (b.unshut, ask_history) refl in
    let z : ask_revision m n k ≡ Ok x.0 = ap (λ a. also a (λ rs. found n (revision_at k rs))) h ∙ ap (found n) e in
    (x.0, z, x.2)

-- what the revision shows of a number, by its cell
pub shown_body : (file : Bytes) (cs : List Cell) (r : format.Revision) (q : Revision) (n : ℕ) (o : Option Body) → RowOf file cs r q → BodyFound cs q n o →
    used (nth n (objects_of r).numbers) ≡ body_in file o
unfolding shown_of
shown_body file cs r q n (Some b) w f = ap used ((cells_tell file cs r q w).shown n (Used b.generation b.start b.end) f)
shown_body file cs r q n None w f =
    ⊎_elim
    (λ (l : n < q.size).
    let i = w.within in
    let inside : q.first + n < length cs = omega arith in
    let c = get_or cs (q.first + n) (Free 0 0) in
    let at : CellAt cs q n c = record { below = l; read = get_or_default cs (q.first + n) (Free 0 0) c inside } in
    ap used ((cells_tell file cs r q w).shown n c at) ∙ by_free c (f c at))
    (λ (l : q.size ≤ n). ap used ((cells_tell file cs r q w).nothing n l))
    (cases_lt n q.size)
  where
    by_free : (c : Cell) → is_free c ≡ true → used (Some (shown_of (state_in file c))) ≡ None
    by_free (Used g s e) h = let z : ◌≡◌ {A = ℕ} 0 1 = cc in absurd (omega arith)
    by_free (Free g l) h = refl

-- it lies in the file
pub lies : (m : Moment) (rs : List Revision) (cs : List Cell) (k n : ℕ) (q : Revision) (o : Option Body) → OpenBook m rs cs → RowAt rs k q → BodyFound cs q n o → LiesIf m.store.bytes o
lies m rs cs k n q None b a f = tt
lies m rs cs k n q (Some x) b a f = (fetch_cells m rs cs k n 0 b).ends q _ a f

-- the question refused at the first revision, at the second, and answered by the cells of both
pub differ_first : (m : Moment) (j k n : ℕ) (f : Fault) → ask_revision m n j ≡ Err f → ask_differ m j k n ≡ Err f
unfolding ask_differ
differ_first m j k n f e = rw e refl

pub differ_second : (m : Moment) (j k n : ℕ) (r : format.Revision) (f : Fault) → ask_revision m n j ≡ Ok r → ask_revision m n k ≡ Err f → ask_differ m j k n ≡ Err f
unfolding ask_differ
differ_second m j k n r f e d = rw e (rw d refl)

pub differ_by_cells : (m : Moment) (rs : List Revision) (cs : List Cell) (j k n : ℕ) (q p : Revision) (x y : Option Body) → OpenBook m rs cs →
    RowAt rs j q → RowAt rs k p → BodyFound cs q n x → BodyFound cs p n y → ask_differ m j k n ≡ Ok (became (body_in m.store.bytes x) (body_in m.store.bytes y))
unfolding ask_differ difference
differ_by_cells m rs cs j k n q p x y b a c f g =
    let r = revision_of m rs cs n j q b a in
    let s = revision_of m rs cs n k p b c in
    let u = shown_body m.store.bytes cs r.0 q n x r.2 f in
    let v = shown_body m.store.bytes cs s.0 p n y s.2 g in
    rw r.1 (rw s.1 (rw (u, v) refl))

pub part_length : (file : Bytes) (s e : ℕ) → s ≤ e → e ≤ length file → length (part file s e) ≡ e - s
part_length file s e h k = simp (length-take, length-drop) (omega arith)

-- parts at the same place
pub same_part : (file : Bytes) (s e t d : ℕ) → s ≡ t → e - s ≡ d - t → same (part file s e) (part file t d) ≡ true
same_part file s e t d h k = let z : part file t d ≡ part file s e = cc in ap (same (part file s e)) z ∙ same_refl (part file s e)
