-- What a section lists, row by row: the definitions one row further, and at the end.
use Rattle.std.proofs.Common.{◌≡◌, ℕ, zero, suc, ◌+◌, ◌-◌, ◌<◌, ◌≤◌, max, Bool, true, false, cond, not, ◌&&◌, eqb, ltb, leb, List, [], ◌∷◌, length, get_or, ℤ, is_some, unsigned_abs, Some, None, Ok, Err, Option, Result, MatchResult, w64, SFits, sym, refl, ap, ◌∙◌, add-one, arith, le-ltb, lt-ltb, eq-eqb, ne_eqb, le-leb, leb-true, ⊎_elim}
use Rattle.faults.specs.declared.reason.Reason.TheVariants.{ChainRule}
use Rattle.format.specs.Chain.{Answer, in_bound}
use Rattle.format.specs.Failures.{chain_fault}
use Rattle.format.specs.Lines.{Slot}
use Rattle.std.proofs.lemmas.Iterator.Adapters.{position_from-zero}
use Rattle.std.proofs.lemmas.Bool.{cases_lt, eqb-true}
use Rattle.std.specs.Int.{FitsUnsignedBits}
use Rattle.std.specs.Result.{OkIff}
use Rattle.std.specs.List.{list_all, find, fold, position_from, position_or_len, range_with_len}
use Rattle.format.specs.Revisions as format
use Rattle.format.specs.Revisions.{highest, under_size, slot_fits, slots_fit, covered}
use Rattle.format.specs.Sections.{Listed}
use Rattle.entries.specs.declared.entry.Entry.TheVariants.{Used}
use Rattle.entries.specs.declared.entry.Row.{Row}
use Rattle.entries.specs.Rows.{rows_of, slot_of}
use Rattle.locality.proofs.Cases.{cases, cases_o}
use Rattle.locality.proofs.Tests.{and_left, and_right}
use Rattle.records.proofs.Converted.{converted_ok, converted_err}
use Rattle.records.specs.Listing.{numbers_of, place_from}
use Rattle.tables.proofs.Finds.{some_none, true_false}

-- the answer to a search for a row that does not fit
abbrev pub answer_of : ℕ → Option Row → Answer (Unit {0})
answer_of off None = Ok tt
answer_of off (Some r) = Err (chain_fault ChainRule off r.number)

-- the row that a read past the end would give
abbrev pub no_row : Row
no_row = record { number = 0; entry = Used 0 0 }

-- the number bound: no number is above it
pub bound_all : (rows : List Row) → list_all (λ (r : Row). leb r.number 999) rows ≡ in_bound (rows_of rows)
unfolding in_bound
bound_all [] = refl
bound_all (r ∷ rs) = ap (λ b. leb r.number 999 && b) (bound_all rs)

pub bound_number : (rows : List Row) (i : ℕ) (d : Row) → i < length rows → in_bound (rows_of rows) ≡ true → (get_or rows i d).number ≤ 999
unfolding in_bound
bound_number [] i d h e = absurd (omega arith)
bound_number (r ∷ rs) zero d h e = leb-true r.number 999 (and_left _ _ e)
bound_number (r ∷ rs) (suc i) d h e = bound_number rs i d (omega arith) (and_right _ _ e)

-- the entries: the first that does not fit, if there is one
pub slots_found : (off : ℕ) (size : ℤ) (rows : List Row) → slots_fit off size (rows_of rows) ≡ answer_of off (find (λ (r : Row). not (slot_fits off size r.number (slot_of r.entry))) rows)
unfolding slots_fit
slots_found off size [] = refl
slots_found off size (r ∷ rs) =
    cases (slot_fits off size r.number (slot_of r.entry))
    (λ q. rw q (slots_found off size rs))
    (λ q. rw q refl)

-- the highest number
pub highest_fold : (m : ℕ) (rows : List Row) → fold (λ (n : ℕ) (r : Row). max n (r.number + 1)) m rows ≡ highest m (rows_of rows)
unfolding highest
highest_fold m [] = refl
highest_fold m (r ∷ rs) = ap (λ k. fold (λ (n : ℕ) (r : Row). max n (r.number + 1)) (max m k) rs) (add-one r.number) ∙ highest_fold (max m (suc r.number)) rs

pub highest_bound : (m : ℕ) (rows : Listed) → in_bound rows ≡ true → m ≤ 1000 → highest m rows ≤ 1000
unfolding in_bound highest
highest_bound m [] b h = h
highest_bound m (r ∷ rs) b h =
    let k = leb-true r.0 999 (and_left (leb r.0 999) (in_bound rs) b) in
    highest_bound (max m (suc r.0)) rs (and_right (leb r.0 999) (in_bound rs) b) (omega arith)

-- the order of a test does not matter
pub eqb_turned : (a b : ℕ) → eqb a b ≡ eqb b a
eqb_turned a b =
    cases (eqb b a)
    (λ q. eq-eqb a b (sym (eqb-true b a q)) ∙ sym q)
    (λ q. ne_eqb a b (λ z. true_false (sym (eq-eqb b a (sym z)) ∙ q)) ∙ sym q)

-- the place of a number
place_position : (k n : ℕ) (rows : List Row) → position_from (λ (r : Row). eqb r.number n) k rows ≡ place_from k n (numbers_of rows)
unfolding place_from
place_position k n [] = refl
place_position k n (r ∷ rs) =
    cases (eqb n r.number)
    (λ q. let e : eqb r.number n ≡ true = eqb_turned r.number n ∙ q in rw (e, q, place_from) refl)
    (λ q.
    let e : eqb r.number n ≡ false = eqb_turned r.number n ∙ q in
    rw (e, q, place_from) (ap (λ m. position_from (λ (r : Row). eqb r.number n) m rs) (add-one k) ∙ place_position (suc k) n rs))

pub place_found : (n : ℕ) (rows : List Row) →
    cond (ltb (position_or_len (λ (r : Row). eqb r.number n) rows) (length rows)) (Some (position_or_len (λ (r : Row). eqb r.number n) rows)) None ≡ place_from 0 n (numbers_of rows)
place_found n rows = position_from-zero (λ (r : Row). eqb r.number n) rows ∙ place_position 0 n rows

-- a number that has a place is listed, and no other
pub place_none : (k n : ℕ) (rows : List Row) → place_from k n (numbers_of rows) ≡ None → format.find n (rows_of rows) ≡ None
unfolding place_from format.find
place_none k n [] e = refl
place_none k n (r ∷ rs) e =
    cases (eqb n r.number)
    (λ q. some_none (rw (q, place_from) at e))
    (λ q. rw (q, format.find) (place_none (suc k) n rs (rw (q, place_from) at e)))

place_some : (k n i : ℕ) (rows : List Row) → place_from k n (numbers_of rows) ≡ Some i → (s : Slot) × (format.find n (rows_of rows) ≡ Some s)
unfolding place_from format.find
place_some k n i [] e = some_none (sym e)
place_some k n i (r ∷ rs) e =
    cases (eqb n r.number)
    (λ q. (slot_of r.entry, rw (q, format.find) refl))
    (λ q. let w = place_some (suc k) n i rs (rw (q, place_from) at e) in (w.0, rw (q, format.find) w.1))

-- one number further of those that have to be covered
covered_old : (k n : ℕ) (rows : Listed) (old : ℕ) → n < old → covered (suc k) n rows old ≡ covered k (suc n) rows old
unfolding covered
covered_old k n rows old h = rw (lt-ltb n old h, covered) refl

covered_listed : (k n : ℕ) (rows : Listed) (old : ℕ) (s : Slot) → format.find n rows ≡ Some s → covered (suc k) n rows old ≡ covered k (suc n) rows old
unfolding covered
covered_listed k n rows old s e = cases (ltb n old) (λ q. rw (q, covered) refl) (λ q. rw (q, covered) (rw (e, covered) refl))

covered_not : (k n : ℕ) (rows : Listed) (old : ℕ) → old ≤ n → format.find n rows ≡ None → covered (suc k) n rows old ≡ false
unfolding covered
covered_not k n rows old h e = rw (le-ltb n old h, covered) (rw (e, covered) refl)

-- the rule of an entry in use, and that of a free one
pub used_rule : (off : ℕ) (size : ℤ) (n : ℕ) (s : Slot) → s.in_use ≡ true → slot_fits off size n s ≡ (leb 1 n && (leb s.gen 65534 && ltb s.field off))
unfolding slot_fits
used_rule off size zero s e = rw (e, slot_fits) refl
used_rule off size (suc n) s e = let l : 1 ≤ suc n = omega arith in rw (e, slot_fits) (rw (le-leb 1 (suc n) l) refl)

pub free_rule : (off : ℕ) (size : ℤ) (n : ℕ) (s : Slot) → s.in_use ≡ false → slot_fits off size n s ≡ (cond (eqb n 0) (eqb s.gen 65535) (leb s.gen 65535) && under_size s.field size)
unfolding slot_fits
free_rule off size zero s e = rw (e, slot_fits) refl
free_rule off size (suc n) s e = let l : suc n ≡ 0 → ⊥ = λ z. omega arith in rw (e, slot_fits) (rw (ne_eqb (suc n) 0 l) refl)

-- a link below Size
pub under_told : {E : Type 0} (n : ℕ) (z y : ℤ) (r : Result ℕ E) (b : Bool) → SFits w64 z → y ≡ z → OkIff r (FitsUnsignedBits 64 y) (unsigned_abs y) → MatchResult r (λ k. b ≡ ltb n k) (λ _. b ≡ false) → b ≡ under_size n z
unfolding under_size
under_told {E} n z y (Ok k) b f e o m = m ∙ ap (under_size n) (sym (converted_ok {E = E} z y (Ok k) f e o k refl))
under_told {E} n z y (Err d) b f e o m = let q = converted_err {E = E} z y (Err d) f e o d refl in m ∙ ap (under_size n) (sym q.1)

-- the numbers that stood in the table before are covered
covered_from : (j size : ℕ) (rows : Listed) (old : ℕ) → j ≤ old → j ≤ size → covered size 0 rows old ≡ covered (size - j) j rows old
covered_from zero size rows old a b = let e : size ≡ size - 0 = omega arith in ap (λ k. covered k 0 rows old) e
covered_from (suc j) size rows old a b =
    let e : size - j ≡ suc (size - suc j) = omega arith in
    covered_from j size rows old (omega arith) (omega arith) ∙ ap (λ k. covered k j rows old) e ∙ covered_old (size - suc j) j rows old (omega arith)

-- the others are, if they are listed
covered_rest : (k n : ℕ) (rows : List Row) (old : ℕ) → old ≤ n → list_all (λ m. is_some (place_from 0 m (numbers_of rows))) (range_with_len n k) ≡ covered k n (rows_of rows) old
unfolding covered
covered_rest zero n rows old h = refl
covered_rest (suc k) n rows old h =
    let rest : list_all (λ m. is_some (place_from 0 m (numbers_of rows))) (range_with_len (n + 1) k) ≡ covered k (suc n) (rows_of rows) old =
    ap (λ m. list_all (λ m. is_some (place_from 0 m (numbers_of rows))) (range_with_len m k)) (add-one n) ∙ covered_rest k (suc n) rows old (omega arith) in
    cases_o (place_from 0 n (numbers_of rows))
    (λ q. rw q (sym (covered_not k n (rows_of rows) old h (place_none 0 n rows q))))
    (λ i q. let s = place_some 0 n i rows q in rw q (rest ∙ sym (covered_listed k n (rows_of rows) old s.0 s.1)))

pub covered_all : (size : ℕ) (rows : List Row) (old : ℕ) → list_all (λ m. is_some (place_from 0 m (numbers_of rows))) (range_with_len old (size - old)) ≡ covered size 0 (rows_of rows) old
unfolding covered
covered_all size rows old =
    ⊎_elim
    (λ (h : size < old).
    let a : size - old ≡ 0 = omega arith in
    let b : size - size ≡ 0 = omega arith in
    rw a (sym (covered_from size size (rows_of rows) old (omega arith) (omega arith) ∙ ap (λ k. covered k size (rows_of rows) old) b)))
    (λ (h : old ≤ size). covered_rest (size - old) old rows old (omega arith) ∙ sym (covered_from old size (rows_of rows) old (omega arith) h))
    (cases_lt size old)
