-- The bytes of a whole update.
use Rattle.std.proofs.Common.{◌≡◌, ℕ, zero, suc, ◌+◌, List, [], ◌∷◌, ◌++◌, map, length, Some, sym, refl, ap, ◌∙◌}
use Rattle.entries.specs.declared.cell.Cell.{Cell}
use Rattle.format.specs.Bytes.{Bytes}
use Rattle.format.specs.Revisions.{Revision, used, free}
use Rattle.format.specs.Updates.{Update, new_numbers}
use Rattle.format.specs.Writing as format
use Rattle.format.specs.Writing.{kept, wrote, freed, cells, object_bytes, next_free, entry_for, entries_for, runs, section_bytes, new_size, cells_of, update_objects, update_section, update_bytes}
use Rattle.writer.specs.declared.plan.Planned.{Planned}
use Rattle.writer.specs.Listing.{listed_at}
use Rattle.writer.specs.Planned.{planned_of, cell_of}
use Rattle.writer.specs.Plans.{all_made}
use Rattle.writer.specs.Tables.{TableOf}

-- the entries listed are told by what is planned
next_same : (n : ℕ) (cs : List format.Cell) → next_free n (map cell_of (map planned_of cs)) ≡ next_free n cs
unfolding next_free
next_same n [] = refl
next_same n (kept (used g b) ∷ cs) = next_same (suc n) cs
next_same n (kept (free g l) ∷ cs) = refl
next_same n (wrote g p b ∷ cs) = next_same (suc n) cs
next_same n (freed g ∷ cs) = refl

entry_same : (n l : ℕ) (c : format.Cell) → entry_for n l (cell_of (planned_of c)) ≡ entry_for n l c
unfolding entry_for
entry_same zero l (kept (used g b)) = refl
entry_same (suc n) l (kept (used g b)) = refl
entry_same n l (kept (free g m)) = refl
entry_same zero l (wrote g p b) = refl
entry_same (suc n) l (wrote g p b) = refl
entry_same n l (freed g) = refl

entries_same : (n : ℕ) (cs : List format.Cell) → entries_for n (map cell_of (map planned_of cs)) ≡ entries_for n cs
unfolding entries_for
entries_same n [] = refl
entries_same n (c ∷ cs) =
    ap (λ l. entry_for n l (cell_of (planned_of c)) ∷ entries_for (suc n) (map cell_of (map planned_of cs))) (next_same (suc n) cs)
    ∙ ap (λ o. o ∷ entries_for (suc n) (map cell_of (map planned_of cs))) (entry_same n (next_free (suc n) cs) c)
    ∙ ap (λ xs. entry_for n (next_free (suc n) cs) c ∷ xs) (entries_same (suc n) cs)

-- the new Size
pub size_is_fact : (file : Bytes) (cs : List Cell) (v : Revision) (u : Update) (size : ℕ) → TableOf file cs v → size ≡ length cs + new_numbers (length cs) u → new_size v u ≡ size
unfolding new_size
size_is_fact file cs v u size t e = ap (λ n. n + new_numbers n u) t.size ∙ sym e

-- the cells of an update on the revision that the table is of
cells_are : (file : Bytes) (cs : List Cell) (v : Revision) (u : Update) (len size : ℕ) → TableOf file cs v → new_size v u ≡ size → cells_of len v u ≡ all_made file cs u len size
unfolding cells_of
cells_are file cs v u len size t e = ap (λ n. cells n 0 len v.states u) e ∙ ap (λ old. cells size 0 len old u) t.states

pub objects_are : (file : Bytes) (cs : List Cell) (v : Revision) (u : Update) (len size : ℕ) → TableOf file cs v → new_size v u ≡ size → object_bytes 0 (all_made file cs u len size) ≡ update_objects len v u
unfolding update_objects
objects_are file cs v u len size t e = ap (object_bytes 0) (sym (cells_are file cs v u len size t e))

-- the section, by the plan
pub section_is : (file : Bytes) (cs : List Cell) (v : Revision) (u : Update) (len size at prev : ℕ) (plan : List Planned) → TableOf file cs v → new_size v u ≡ size →
    plan ≡ map planned_of (all_made file cs u len size) → at ≡ len + length (update_objects len v u) → v.offset ≡ prev →
    section_bytes at (runs 0 (listed_at plan 0)) v.trailer size (Some prev) ≡ update_section len v u
unfolding update_section
section_is file cs v u len size at prev plan t e f g h =
    let same : listed_at plan 0 ≡ entries_for 0 (cells_of len v u) =
    ap (λ ps. entries_for 0 (map cell_of ps)) f ∙ entries_same 0 (all_made file cs u len size) ∙ ap (entries_for 0) (sym (cells_are file cs v u len size t e)) in
    ap (λ xs. section_bytes at (runs 0 xs) v.trailer size (Some prev)) same
    ∙ ap (λ k. section_bytes k (runs 0 (entries_for 0 (cells_of len v u))) v.trailer size (Some prev)) g
    ∙ ap (λ k. section_bytes (len + length (update_objects len v u)) (runs 0 (entries_for 0 (cells_of len v u))) v.trailer k (Some prev)) (sym e)
    ∙ ap (λ k. section_bytes (len + length (update_objects len v u)) (runs 0 (entries_for 0 (cells_of len v u))) v.trailer (new_size v u) (Some k)) (sym h)

pub update_is : (len : ℕ) (v : Revision) (u : Update) (xs ys : Bytes) → xs ≡ update_objects len v u → ys ≡ update_section len v u → xs ++ ys ≡ update_bytes len v u
unfolding update_bytes
update_is len v u xs ys e f = ap (λ zs. zs ++ ys) e ∙ ap (λ zs. update_objects len v u ++ zs) f
