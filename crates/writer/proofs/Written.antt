-- The objects of an update, number by number.
use Rattle.std.proofs.Common.{◌≡◌, ℕ, suc, ◌+◌, ◌-◌, ◌<◌, ◌≤◌, List, [], ◌∷◌, ◌++◌, map, length, sym, refl, ap, ◌∙◌, append_assoc, append-nil, add-one, arith, length-append}
use Rattle.entries.specs.declared.cell.Cell.{Cell}
use Rattle.entries.specs.Cells.{states_in}
use Rattle.format.specs.Bytes.{Bytes}
use Rattle.format.specs.Revisions.{State, find, nth}
use Rattle.format.specs.Updates.{Update}
use Rattle.format.specs.Writing as format
use Rattle.format.specs.Writing.{cell, cell_bytes, cells, object_bytes}
use Rattle.writer.specs.declared.draft.Draft.{Draft}
use Rattle.writer.specs.Drafts.{Adds, written, count, limit_of}
use Rattle.writer.specs.Planned.{planned_of}
use Rattle.writer.specs.Plans.{Plan, Writes, WritesAll, all_made, made_of, rows_of}

-- the cells from a number on: the number's own, and those behind it
cells_step : (size n p p' : ℕ) (old : List State) (u : Update) → n < size → p' ≡ p + length (cell_bytes n (cell p (nth n old) (find n u))) →
    cells (size - n) n p old u ≡ cell p (nth n old) (find n u) ∷ cells (size - (n + 1)) (n + 1) p' old u
unfolding cells
cells_step size n p p' old u h e =
    let k : size - n ≡ suc (size - (n + 1)) = omega arith in
    rw (k, e, add-one n) refl

-- what is left to write, from a number on
abbrev left : Bytes → List Cell → Update → ℕ → ℕ → ℕ → Draft → List format.Cell
left file cs u len size n d = cells (size - n) n (len + count d) (states_in file cs) u

-- what is written and what is left make all
pub record Halfway (file : Bytes) (cs : List Cell) (u : Update) (len size n : ℕ) (d₀ d : Draft) (p : Plan) : Type 0 where
  pub bytes : written d ++ object_bytes n (left file cs u len size n d) ≡ written d₀ ++ object_bytes 0 (all_made file cs u len size)
  pub rows : rows_of p ++ map planned_of (left file cs u len size n d) ≡ map planned_of (all_made file cs u len size)

objects_step : (n : ℕ) (c : format.Cell) (cs : List format.Cell) → object_bytes n (c ∷ cs) ≡ cell_bytes n c ++ object_bytes (n + 1) cs
unfolding object_bytes
objects_step n c cs = rw (add-one n) refl

pub halfway_start : (file : Bytes) (cs : List Cell) (u : Update) (len size : ℕ) (d : Draft) (p : Plan) → count d ≡ 0 → rows_of p ≡ [] → Halfway file cs u len size 0 d d p
halfway_start file cs u len size d p e f =
    let a : len + count d ≡ len = omega arith in
    let b : size - 0 ≡ size = omega arith in
    let all : left file cs u len size 0 d ≡ all_made file cs u len size = rw (a, b) refl in
    record {
      bytes = ap (λ xs. written d ++ object_bytes 0 xs) all;
      rows = ap (λ xs. xs ++ map planned_of (left file cs u len size 0 d)) f ∙ ap (map planned_of) all;
    }

pub halfway_step : (file : Bytes) (cs : List Cell) (u : Update) (len size n : ℕ) (d₀ d d' : Draft) (p p' : Plan) → n < size →
    Halfway file cs u len size n d₀ d p → Writes file cs u len n d p d' p' → Halfway file cs u len size (n + 1) d₀ d' p'
halfway_step file cs u len size n d₀ d d' p p' h was w =
    let c = made_of file cs u len d n in
    let g = w.bytes.grown in
    let e : len + count d' ≡ len + count d + length (cell_bytes n c) = omega arith in
    let step : left file cs u len size n d ≡ c ∷ left file cs u len size (n + 1) d' = cells_step size n (len + count d) (len + count d') (states_in file cs) u h e in
    let rest = left file cs u len size (n + 1) d' in
    record {
      bytes =
          ap (λ xs. xs ++ object_bytes (n + 1) rest) w.bytes.bytes
          ∙ append_assoc (written d) (cell_bytes n c) (object_bytes (n + 1) rest)
          ∙ ap (λ xs. written d ++ xs) (sym (objects_step n c rest))
          ∙ ap (λ xs. written d ++ object_bytes n xs) (sym step)
          ∙ was.bytes;
      rows =
          ap (λ xs. xs ++ map planned_of rest) w.rows
          ∙ append_assoc (rows_of p) (planned_of c ∷ []) (map planned_of rest)
          ∙ ap (λ xs. rows_of p ++ map planned_of xs) (sym step)
          ∙ was.rows;
    }

-- a draft that has some bytes more
pub adds_from : (d e : Draft) (x : Bytes) → written e ≡ written d ++ x → limit_of e ≡ limit_of d → Adds d x e
adds_from d e x h l =
    let a = ap length h in
    let b = length-append (written d) x in
    let m = d.bytes.ok in
    let n = e.bytes.ok in
    record { bytes = h; grown = omega arith; limit = l }

pub halfway_all : (file : Bytes) (cs : List Cell) (u : Update) (len size n : ℕ) (d₀ d : Draft) (p : Plan) → size ≤ n → limit_of d ≡ limit_of d₀ →
    Halfway file cs u len size n d₀ d p → WritesAll file cs u len size d₀ d p
unfolding cells object_bytes
halfway_all file cs u len size n d₀ d p h l was =
    let k : size - n ≡ 0 = omega arith in
    let none : left file cs u len size n d ≡ [] = rw k refl in
    record {
      bytes = adds_from d₀ d (object_bytes 0 (all_made file cs u len size)) (sym (append-nil (written d)) ∙ ap (λ xs. written d ++ object_bytes n xs) (sym none) ∙ was.bytes) l;
      rows = sym (append-nil (rows_of p)) ∙ ap (λ xs. rows_of p ++ map planned_of xs) (sym none) ∙ was.rows;
    }
