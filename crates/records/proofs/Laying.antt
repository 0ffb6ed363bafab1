-- The cells of rows, and the table that is laid of them, number by number.
use Rattle.std.proofs.Common.{◌≡◌, ℕ, zero, suc, ◌+◌, ◌-◌, ◌<◌, ◌≤◌, Bool, true, false, ◌&&◌, eqb, List, [], ◌∷◌, ◌++◌, length, get_or, drop, Bor, IsSomeAnd, MatchOption, Option, Some, None, sym, refl, ap, ◌∙◌, ⊎_elim, append_assoc, add-one, arith}
use Rattle.std.proofs.lemmas.List.{append-nil, get_or_append_left, get_or-drop, length-drop}
use Rattle.format.specs.Bytes.{Bytes}
use Rattle.format.specs.Revisions.{State, find, nth, either, used_with, root_fits, covered}
use Rattle.entries.specs.declared.cell.Cell.{Cell}
use Rattle.entries.specs.declared.entry.Row.{Row}
use Rattle.entries.specs.Cells.{state_in, states_in}
use Rattle.entries.specs.Rows.{rows_of, slot_of}
use Rattle.std.proofs.lemmas.Bool.{cases_lt, ltb-true, ltb-false}
use Rattle.std.specs.List.{position_from}
use Rattle.std.specs.Slice.{IsItemAt}
use Rattle.locality.proofs.Cases.{cases}
use Rattle.tables.proofs.Finds.{some_none}
use Rattle.tables.proofs.SoundTables.{covered_at}
use Rattle.records.specs.Listing.{numbers_of, place_from}
use Rattle.records.specs.Laid.{Covers, numbers_in, laid, used_at}
use Rattle.records.proofs.Listings.{place_none, eqb_turned}

-- what stands at a place of a table
nth_at : {A : Type 0} (n : ℕ) (xs : List A) (d : A) → n < length xs → nth n xs ≡ Some (get_or xs n d)
unfolding nth
nth_at n [] d h = absurd (omega arith)
nth_at zero (x ∷ xs) d h = refl
nth_at (suc n) (x ∷ xs) d h = nth_at n xs d (omega arith)

state_at : (file : Bytes) (n : ℕ) (cells : List Cell) (d : Cell) → n < length cells → nth n (states_in file cells) ≡ Some (state_in file (get_or cells n d))
unfolding nth
state_at file n [] d h = absurd (omega arith)
state_at file zero (x ∷ xs) d h = refl
state_at file (suc n) (x ∷ xs) d h = state_at file n xs d (omega arith)

state_past : (file : Bytes) (n : ℕ) (cells : List Cell) → length cells ≤ n → nth n (states_in file cells) ≡ None
unfolding nth
state_past file zero [] h = refl
state_past file (suc n) [] h = refl
state_past file zero (x ∷ xs) h = absurd (omega arith)
state_past file (suc n) (x ∷ xs) h = state_past file n xs (omega arith)

-- a number in use with a generation
used_past : (file : Bytes) (n g : ℕ) (cells : List Cell) → length cells ≤ n → false ≡ used_at n g (states_in file cells)
unfolding used_at
used_past file n g cells h = rw (state_past file n cells h, used_at) refl

used_there : (file : Bytes) (n g : ℕ) (cells : List Cell) (d : Cell) → n < length cells → used_with g (state_in file (get_or cells n d)) ≡ used_at n g (states_in file cells)
unfolding used_at
used_there file n g cells d l = rw (state_at file n cells d l, used_at) refl

-- a place of a table that was read, and what was asked of its cell
pub used_told : (n g : ℕ) (cells : List Cell) (o : Option (Bor Cell)) (b : Bool) → IsItemAt cells n o → MatchOption o (b ≡ false) (λ x. (file : Bytes) → b ≡ used_with g (state_in file x.now)) → (file : Bytes) → b ≡ used_at n g (states_in file cells)
used_told n g cells None b i m file = m ∙ used_past file n g cells (ltb-false n (length cells) (sym i.0))
used_told n g cells (Some x) b i m file =
    m file ∙ ap (λ (c : Cell). used_with g (state_in file c)) i.1 ∙ used_there file n g cells x.now (ltb-true n (length cells) (sym i.0))

-- the row of a number that has a place
row_at : (k n i : ℕ) (rows : List Row) → place_from k n (numbers_of rows) ≡ Some i → (d : Row) → (j : ℕ) × (i ≡ k + j) × (j < length rows) × (find n (rows_of rows) ≡ Some (slot_of (get_or rows j d).entry))
unfolding place_from find
row_at k n i [] e d = some_none (sym e)
row_at k n i (r ∷ rs) e d =
    cases (eqb n r.number)
    (λ q.
    let z : Some k ≡ Some i = rw (q, place_from) at e in
    let y : k ≡ i = cc in
    (zero, omega arith, omega arith, rw (q, find) refl))
    (λ q.
    let w = row_at (suc k) n i rs (rw (q, place_from) at e) d in
    (suc w.0, omega (arith, w.1), omega (arith, w.2), rw (q, find) w.3))

-- Root by its row, and in the table before
pub root_listed : (root gen i : ℕ) (rows : List Row) (d : Row) (old : List State) → Some i ≡ place_from 0 root (numbers_of rows) →
    root_fits root gen (rows_of rows) old ≡ ((slot_of (get_or rows i d).entry).in_use && eqb (slot_of (get_or rows i d).entry).gen gen)
unfolding root_fits
root_listed root gen i rows d old e =
    let w = row_at 0 root i rows (sym e) d in
    let z : w.0 ≡ i = omega (arith, w.1) in
    rw (w.3, root_fits) (rw z refl)

pub root_before : (root gen : ℕ) (rows : List Row) (old : List State) → None ≡ place_from 0 root (numbers_of rows) → root_fits root gen (rows_of rows) old ≡ used_at root gen old
unfolding root_fits used_at
root_before root gen rows old e = rw (place_none 0 root rows (sym e), root_fits) refl

-- the number of a cell that was found, and of a row that its section lists
pub cell_at : (k n i : ℕ) (new : List (ℕ × Cell)) → position_from (λ (c : ℕ × Cell). eqb c.0 n) k new ≡ Some i → (d : ℕ × Cell) → (j : ℕ) × (i ≡ k + j) × (find n new ≡ Some (get_or new j d).1)
unfolding find
cell_at k n i [] e d = some_none (sym e)
cell_at k n i (x ∷ xs) e d =
    cases (eqb n x.0)
    (λ q.
    let t : eqb x.0 n ≡ true = eqb_turned x.0 n ∙ q in
    let z : Some k ≡ Some i = rw t at e in
    let y : k ≡ i = cc in
    (zero, omega arith, rw (q, find) refl))
    (λ q.
    let t : eqb x.0 n ≡ false = eqb_turned x.0 n ∙ q in
    let w = cell_at (k + 1) n i xs (rw t at e) d in
    (suc w.0, omega (arith, w.1), rw (q, find) w.2))

pub cell_none : (k n : ℕ) (new : List (ℕ × Cell)) → position_from (λ (c : ℕ × Cell). eqb c.0 n) k new ≡ None → find n new ≡ None
unfolding find
cell_none k n [] e = refl
cell_none k n (x ∷ xs) e =
    cases (eqb n x.0)
    (λ q. let t : eqb x.0 n ≡ true = eqb_turned x.0 n ∙ q in some_none (rw t at e))
    (λ q. let t : eqb x.0 n ≡ false = eqb_turned x.0 n ∙ q in rw (q, find) (cell_none (k + 1) n xs (rw t at e)))

none_same : (n : ℕ) (new : List (ℕ × Cell)) (rows : List Row) → numbers_in new ≡ numbers_of rows → find n new ≡ None → find n (rows_of rows) ≡ None
unfolding find
none_same n [] [] e f = refl
none_same n [] (r ∷ rs) e f = absurd (let q = ap length e in omega arith)
none_same n (x ∷ xs) [] e f = absurd (let q = ap length e in omega arith)
none_same n (x ∷ xs) (r ∷ rs) e f =
    let a : x.0 ≡ r.number = cc in
    let b : numbers_in xs ≡ numbers_of rs = cc in
    cases (eqb n x.0)
    (λ q. some_none (rw (q, find) at f))
    (λ q. let p : eqb n r.number ≡ false = ap (eqb n) (sym a) ∙ q in rw (p, find) (none_same n xs rs b (rw (q, find) at f)))

-- the cells of rows that cover a table cover it
pub covers : (size old : ℕ) (rows : List Row) (new : List (ℕ × Cell)) → covered size 0 (rows_of rows) old ≡ true → numbers_in new ≡ numbers_of rows → Covers size new old
covers size old rows new c p = λ n h e.
    ⊎_elim
    (λ (l : n < old). l)
    (λ (l : old ≤ n). absurd (covered_at size 0 (rows_of rows) old c n (omega arith) (omega arith) l (none_same n new rows p e)))
    (cases_lt n old)

-- one number further of a table
laid_step : (k n : ℕ) (new : List (ℕ × Cell)) (old : List Cell) (c : Cell) → either (find n new) (nth n old) ≡ Some c → laid (suc k) n new old ≡ c ∷ laid k (suc n) new old
unfolding laid
laid_step k n new old c e = rw (e, laid) refl

abbrev pub Laying : (items was : List Cell) (first size n : ℕ) → List (ℕ × Cell) → Type 0
Laying items was first size n new = items ++ laid (size - n) n new (drop first was) ≡ was ++ laid size 0 new (drop first was)

lay_on : (items was : List Cell) (first size n : ℕ) (new : List (ℕ × Cell)) (c : Cell) → n < size → either (find n new) (nth n (drop first was)) ≡ Some c → Laying items was first size n new → Laying (items ++ c ∷ []) was first size (n + 1) new
lay_on items was first size n new c h e l =
    let a : size - n ≡ suc (size - (n + 1)) = omega arith in
    append_assoc items (c ∷ []) _
    ∙ ap (λ (t : List Cell). items ++ t) (ap (λ (m : ℕ). c ∷ laid (size - (n + 1)) m new (drop first was)) (add-one n) ∙ sym (laid_step (size - (n + 1)) n new (drop first was) c e) ∙ ap (λ (m : ℕ). laid m n new (drop first was)) (sym a))
    ∙ l

lay_listed : (items was : List Cell) (first size n : ℕ) (new : List (ℕ × Cell)) (c : Cell) → n < size → Some c ≡ find n new → Laying items was first size n new → Laying (items ++ c ∷ []) was first size (n + 1) new
lay_listed items was first size n new c h e l = lay_on items was first size n new c h (ap (λ o. either o (nth n (drop first was))) (sym e)) l

-- the cell before is still there, since the cells only grow
kept_cell : (items was more rest : List Cell) (i : ℕ) (d : Cell) → items ++ more ≡ was ++ rest → i < length items → i < length was → get_or items i d ≡ get_or was i d
kept_cell items was more rest i d e a b = sym (get_or_append_left items more d i a) ∙ ap (λ (t : List Cell). get_or t i d) e ∙ get_or_append_left was rest d i b

lay_before : (items was : List Cell) (first size n : ℕ) (new : List (ℕ × Cell)) (d : Cell) → n < size → None ≡ find n new → first + n < length was → first + n < length items →
    Laying items was first size n new → Laying (items ++ get_or items (first + n) d ∷ []) was first size (n + 1) new
lay_before items was first size n new d h e b a l =
    let g : get_or (drop first was) n d ≡ get_or items (first + n) d = get_or-drop first was n d ∙ sym (kept_cell items was _ _ (first + n) d l a b) in
    let z : nth n (drop first was) ≡ Some (get_or items (first + n) d) = nth_at n (drop first was) d (simp length-drop (omega arith)) ∙ ap Some g in
    lay_on items was first size n new (get_or items (first + n) d) h (ap (λ o. either o (nth n (drop first was))) (sym e) ∙ z) l

pub lay_end : (items was : List Cell) (first size n : ℕ) (new : List (ℕ × Cell)) → size ≤ n → Laying items was first size n new → items ≡ was ++ laid size 0 new (drop first was)
unfolding laid
lay_end items was first size n new h l =
    let z : size - n ≡ 0 = omega arith in
    sym (append-nil items) ∙ ap (λ (t : List Cell). items ++ t) (sym (ap (λ (m : ℕ). laid m n new (drop first was)) z)) ∙ l

lay_by : (items was after : List Cell) (first size n : ℕ) (new : List (ℕ × Cell)) (c x : Cell) → after ≡ items ++ c ∷ [] → c ≡ x → Laying (items ++ x ∷ []) was first size n new → Laying after was first size n new
lay_by items was after first size n new c x e q l = rw (e, q) l

-- the cell that comes next: the one that is listed, or else the one before
pub lay_told : (items was after : List Cell) (first size n : ℕ) (new : List (ℕ × Cell)) (o : Option Cell) (c : Cell) → n < size → o ≡ find n new → (find n new ≡ None → (first + n < length was) × (first + n < length items)) →
    MatchOption o (c ≡ get_or items (first + n) c) (λ x. c ≡ x) → after ≡ items ++ c ∷ [] → Laying items was first size n new → Laying after was first size (n + 1) new
lay_told items was after first size n new None c h e k m q l =
    let there = k (sym e) in
    lay_by items was after first size (n + 1) new c (get_or items (first + n) c) q m (lay_before items was first size n new c h e there.0 there.1 l)
lay_told items was after first size n new (Some x) c h e k m q l = lay_by items was after first size (n + 1) new c x q m (lay_listed items was first size n new x h e l)
