-- What a book's rows and cells answer to its questions.
use Rattle.std.proofs.Common.{◌≡◌, ℕ, ◌+◌, ◌-◌, ◌<◌, ◌≤◌, true, false, cond, not, leb, List, ◌∷◌, length, drop, get_or, Some, None, Ok, Err, Option, count_by, ok_or, sym, refl, ap, ◌∙◌, ⊎_elim, arith, length-drop, length-take}
use Rattle.std.proofs.lemmas.List.{get_or_default, get_or-drop, get_or-take}
use Rattle.std.proofs.lemmas.List.Recursion.{is_count_by}
use Rattle.std.proofs.lemmas.Bool.{cases_lt, le-leb, lt-leb}
use Rattle.faults.specs.declared.fault.Fault.{Fault}
use Rattle.faults.specs.declared.reason.Reason.TheVariants.{BookShut, NoRevision, NotInUse, ShortBuffer}
use Rattle.faults.specs.Faults.{refused}
use Rattle.chains.proofs.Openings.{history_opened}
use Rattle.format.specs.Book.{Phase, shut, standing, updating, Moment, revision_at, history}
use Rattle.format.specs.Bytes.{Bytes}
use Rattle.format.specs.Chain.{Answer, also, must}
use Rattle.format.specs.Revisions as format
use Rattle.format.specs.Updates.{Update}
use Rattle.format.specs.Questions.{is_shut, ask_history, ask_revision, ask_list, ask_fetch, ask_draw}
use Rattle.entries.specs.Cells.{part}
use Rattle.entries.specs.declared.cell.Cell.{Cell}
use Rattle.entries.specs.declared.cell.Cell.TheVariants.{Used, Free}
use Rattle.entries.specs.declared.revision.Revision.{Revision}
use Rattle.entries.specs.Tables.{cells_of}
use Rattle.keeping.specs.Answering.{OpenBook, used_among, fetched_from}
use Rattle.book.specs.Asked.{RowAsked}
use Rattle.book.specs.Rows.{is_free, BodyAmong, BodyFound, Found, NotUsed}
use Rattle.keeping.specs.Standing.{Stands, SoundIn}
use Rattle.keeping.specs.Staying.{RowAt}
use Rattle.keeping.specs.Telling.{NoRow, CellAt}
use Rattle.keeping.proofs.Asked.{fetch_cells}
use Rattle.keeping.proofs.Told.{tables_tell}
use Rattle.stores.specs.Meanings.{Meaning}
use Rattle.stores.specs.declared.store.Store.{Ghosts}
use Rattle.book.specs.declared.book.Book.{Book}
use Rattle.book.specs.declared.call.Phase as phases
use Rattle.book.specs.declared.call.Phase.TheVariants.{Shut, Standing, Updating}
use Rattle.book.specs.declared.rows.Body.{Body}
use Rattle.book.specs.Calls.{phase_of}
use Rattle.book.specs.Books.{update_in, moment_of, revisions_in, cells_in, Sound}

-- a book that is not in its first state is open
pub not_shut : (p : phases.Phase) (u : Update) → (p ≡ Shut → ⊥) → false ≡ is_shut (phase_of p u)
unfolding is_shut
not_shut Shut u h = absurd (h refl)
not_shut Standing u h = refl
not_shut Updating u h = refl

refuses : {A B : Type 0} (a : Answer A) (k : A → Answer B) (f : Fault) → a ≡ Err f → also a k ≡ Err f
refuses a k f e = ap (λ z. also z k) e

-- a shut book has no revision to show
pub shut_row : (m : Moment) (n k : ℕ) → is_shut m.phase ≡ true → ask_revision m n k ≡ Err (refused BookShut n)
unfolding ask_revision ask_history
shut_row m n k h = refuses (ask_history m n) _ (refused BookShut n) (rw (h, ask_history) refl)

-- the revision that is looked for, in the history of an open book
abbrev given : ℕ → Option format.Revision → Answer format.Revision
given n o = elim o [ None ↦ Err (refused NoRevision n) | Some r ↦ Ok r ]

abbrev sought : ℕ → ℕ → List format.Revision → Answer format.Revision
sought n k rs = given n (revision_at k rs)

shown_history : (m : Moment) (n : ℕ) → is_shut m.phase ≡ false → ask_history m n ≡ Ok (history m.store.bytes)
unfolding ask_history
shown_history m n h = rw (h, ask_history) refl

-- an open book has none where the row is not there
pub no_row : (m : Moment) (rs : List Revision) (cs : List Cell) (n k : ℕ) → OpenBook m rs cs → NoRow rs k → ask_revision m n k ≡ Err (refused NoRevision n)
unfolding ask_revision ask_history
no_row m rs cs n k b absent =
    let none : revision_at k (history m.store.bytes) ≡ None =
    ap (revision_at k) (history_opened m.store.bytes b.opened b.accepted) ∙ (tables_tell m.store.bytes b.opened.history rs cs b.tables).none k absent in
    let shown : ask_history m n ≡ Ok (history m.store.bytes) = shown_history m n b.unshut in
    ap (λ z. also z (sought n k)) shown ∙ ap (given n) none

-- what is looked for is there, or not
pub no_row_found : (rs : List Revision) (k : ℕ) (o : Option Revision) → Found rs k o → ((q : Revision) → o ≡ Some q → ⊥) → NoRow rs k
no_row_found rs k None f h = f
no_row_found rs k (Some q) f h = absurd (h q refl)

-- a body among a row's own cells is that of the row
pub body_found : (cs own : List Cell) (q : Revision) (n : ℕ) (o : Option Body) → own ≡ cells_of cs q → q.first + q.size ≤ length cs → BodyAmong own n o → BodyFound cs q n o
body_found cs own q n o e w h = by_cell o (rw e at h)
  where
    long : length (cells_of cs q) ≡ q.size
    long = simp (length-take, length-drop) (omega arith)

    there : (c : Cell) → n < q.size → get_or (cells_of cs q) n c ≡ get_or cs (q.first + n) c
    there c l = get_or-take q.size (drop q.first cs) n c l ∙ get_or-drop q.first cs n c

    by_cell : (x : Option Body) → BodyAmong (cells_of cs q) n x → BodyFound cs q n x
    by_cell None f = λ c a. f c (omega (arith, long, a.below)) (a.read ∙ sym (there c a.below))
    by_cell (Some b) f = record { below = omega (arith, long, f.0); read = f.1 ∙ there _ (omega (arith, long, f.0)) }

pub no_body_found : (cs : List Cell) (q : Revision) (n : ℕ) (o : Option Body) → BodyFound cs q n o → ((b : Body) → o ≡ Some b → ⊥) → NotUsed cs q n
no_body_found cs q n None f h = f
no_body_found cs q n (Some b) f h = absurd (h b refl)

-- the row that is looked for, or what refuses the question
pub row_asked : (m : Moment) (rs : List Revision) (cs : List Cell) (n k : ℕ) (o : Option Revision) → OpenBook m rs cs → Found rs k o → RowAsked m rs cs n k (ok_or o (refused NoRevision n))
row_asked m rs cs n k None b f = no_row m rs cs n k b f
row_asked m rs cs n k (Some q) b f = (b, f)

-- a question about a revision that is refused
pub list_refused : (m : Moment) (k : ℕ) (f : Fault) → ask_revision m 0 k ≡ Err f → ask_list m k ≡ Err f
unfolding ask_list
list_refused m k f e = refuses (ask_revision m 0 k) _ f e

pub fetch_refused : (m : Moment) (k n room : ℕ) (f : Fault) → ask_revision m n k ≡ Err f → ask_fetch m k n room ≡ Err f
unfolding ask_fetch
fetch_refused m k n room f e = refuses (ask_revision m n k) _ f e

pub draw_refused : (m : Moment) (k space : ℕ) (f : Fault) → ask_revision m 0 k ≡ Err f → ask_draw m k space ≡ Err f
unfolding ask_draw
draw_refused m k space f e = refuses (ask_revision m 0 k) _ f e

-- the tables of a book that is not shut
pub stands : (p : Phase) (file : Bytes) (rs : List Revision) (cs : List Cell) → SoundIn p file rs cs → is_shut p ≡ false → Stands file rs cs
unfolding is_shut
stands shut file rs cs s h = let z : ◌≡◌ {A = ℕ} 0 1 = cc in absurd (omega arith)
stands standing file rs cs s h = s
stands (updating u) file rs cs s h = s.0

pub open_book : {S : Type 0} {g : Ghosts S} (meaning : S → Meaning) (b : Book S g) → Sound meaning b → is_shut (moment_of meaning b).phase ≡ false → OpenBook (moment_of meaning b) (revisions_in b) (cells_in b)
open_book meaning b s h =
    let t = stands (moment_of meaning b).phase (meaning b.store).bytes (revisions_in b) (cells_in b) s h in
    record { unshut = h; opened = t.opened; accepted = t.accepted; tables = t.tables }

-- the cells of a row are among those of the tables
pub row_within : (m : Moment) (rs : List Revision) (cs : List Cell) (k : ℕ) (q : Revision) → OpenBook m rs cs → RowAt rs k q → q.first + q.size ≤ length cs
row_within m rs cs k q b a = ((tables_tell m.store.bytes b.opened.history rs cs b.tables).row k q a).2.within

-- the cells in use, counted one after the other
pub used_counted : (cs : List Cell) → used_among cs ≡ count_by (λ c. not (is_free c)) cs
used_counted = is_count_by used_among (λ c. not (is_free c)) refl step
  where
    step : (c : Cell) (cs : List Cell) → used_among (c ∷ cs) ≡ cond (not (is_free c)) (1 + used_among cs) (used_among cs)
    step (Used g s e) cs = refl
    step (Free g n) cs = omega arith

-- fetch of a number that is not in use
pub unused : (m : Moment) (rs : List Revision) (cs : List Cell) (k n room : ℕ) (q : Revision) → OpenBook m rs cs → RowAt rs k q → NotUsed cs q n → ask_fetch m k n room ≡ Err (refused NotInUse n)
unused m rs cs k n room q b a u =
    ⊎_elim
    (λ (l : n < q.size).
    let w = row_within m rs cs k q b a in
    let inside : q.first + n < length cs = omega arith in
    let c = get_or cs (q.first + n) (Free 0 0) in
    let at : CellAt cs q n c = record { below = l; read = get_or_default cs (q.first + n) (Free 0 0) c inside } in
    (fetch_cells m rs cs k n room b).cell q c a at ∙ by_free c (u c at))
    (λ (l : q.size ≤ n). (fetch_cells m rs cs k n room b).past q a l)
    (cases_lt n q.size)
  where
    by_free : (c : Cell) → is_free c ≡ true → fetched_from m.store.bytes n room c ≡ Err (refused NotInUse n)
    by_free (Used g s e) h = let z : ◌≡◌ {A = ℕ} 0 1 = cc in absurd (omega arith)
    by_free (Free g l) h = refl

pub too_short : (m : Moment) (rs : List Revision) (cs : List Cell) (k n room g s e : ℕ) (q : Revision) → OpenBook m rs cs → RowAt rs k q → CellAt cs q n (Used g s e) → room < e - s → ask_fetch m k n room ≡ Err (refused ShortBuffer n)
too_short m rs cs k n room g s e q b a f l =
    let t : leb (e - s) room ≡ false = lt-leb (e - s) room l in
    (fetch_cells m rs cs k n room b).cell q (Used g s e) a f ∙ ap (λ z. must z (refused ShortBuffer n) (λ _. Ok (g, part m.store.bytes s e))) t

pub fetched : (m : Moment) (rs : List Revision) (cs : List Cell) (k n room g s e : ℕ) (q : Revision) → OpenBook m rs cs → RowAt rs k q → CellAt cs q n (Used g s e) → e - s ≤ room → ask_fetch m k n room ≡ Ok (g, part m.store.bytes s e)
fetched m rs cs k n room g s e q b a f l =
    let t : leb (e - s) room ≡ true = le-leb (e - s) room l in
    (fetch_cells m rs cs k n room b).cell q (Used g s e) a f ∙ ap (λ z. must z (refused ShortBuffer n) (λ _. Ok (g, part m.store.bytes s e))) t

-- the same of a standing book
pub row_held : {S : Type 0} {g : Ghosts S} (meaning : S → Meaning) (b : Book S g) (k : ℕ) (q : Revision) → Sound meaning b → b.phase ≡ Standing → RowAt (revisions_in b) k q → q.first + q.size ≤ length (cells_in b)
unfolding is_shut
row_held meaning b k q s e a = row_within (moment_of meaning b) (revisions_in b) (cells_in b) k q (open_book meaning b s (ap (λ p. is_shut (phase_of p (update_in b))) e)) a
