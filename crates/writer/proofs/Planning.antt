-- What is planned of a number.
use Rattle.std.proofs.Common.{◌≡◌, ℕ, zero, suc, ◌+◌, ◌^◌, ◌<◌, ◌≤◌, List, [], ◌∷◌, length, Some, None, Option, sym, refl, ap, ◌∙◌, arith}
use Rattle.std.specs.Option.{option_map}
use Rattle.entries.specs.declared.cell.Cell.{Cell}
use Rattle.entries.specs.declared.cell.Cell.TheVariants.{Used, Free}
use Rattle.entries.specs.Cells.{part, state_in, states_in}
use Rattle.format.specs.Bytes.{Bytes}
use Rattle.format.specs.Revisions.{State, nth}
use Rattle.format.specs.Updates.{Change, body, removed}
use Rattle.format.specs.Writing.{entry_gen, cell, cell_bytes}
use Rattle.writer.specs.declared.change.Content.{Content}
use Rattle.writer.specs.declared.change.Content.TheVariants.{Body}
use Rattle.writer.specs.declared.plan.Planned.TheVariants.{Wrote, Freed}
use Rattle.writer.specs.Changes.{content_in}
use Rattle.writer.specs.Planned.{planned_of}
use Rattle.writer.specs.Plans.{GenerationsFit, change_bytes, room_for}
use Rattle.writer.proofs.Lengths.{framed_at_most}
use Rattle.writer.proofs.Tables.{nth_map}

pub body_planned : (g p : ℕ) (o : Option State) (b : Bytes) → g ≡ entry_gen o → Wrote g p ≡ planned_of (cell p o (Some (body b)))
unfolding cell
body_planned g p None b e = ap (λ h. Wrote h p) e
body_planned g p (Some s) b e = ap (λ h. Wrote h p) e

pub removed_planned : (g p : ℕ) (o : Option State) → g ≡ entry_gen o → Freed (g + 1) ≡ planned_of (cell p o (Some removed))
unfolding cell
removed_planned g p None e = ap Freed (let f : g + 1 ≡ suc (entry_gen None) = omega arith in f)
removed_planned g p (Some s) e = ap Freed (let f : g + 1 ≡ suc (entry_gen (Some s)) = omega arith in f)

-- the bytes of a number, by its change
pub bytes_by_change : (n g p : ℕ) (o : Option State) (c : Option Change) → g ≡ entry_gen o → change_bytes n g c ≡ cell_bytes n (cell p o c)
unfolding cell cell_bytes
bytes_by_change n g p None None e = refl
bytes_by_change n g p (Some s) None e = refl
bytes_by_change n g p None (Some (body b)) e = ap (λ h. change_bytes n h (Some (body b))) e
bytes_by_change n g p (Some s) (Some (body b)) e = ap (λ h. change_bytes n h (Some (body b))) e
bytes_by_change n g p None (Some removed) e = refl
bytes_by_change n g p (Some s) (Some removed) e = refl

-- the generation of a number of the table is small
pub small_generation : (n : ℕ) (file : Bytes) (cs : List Cell) → GenerationsFit cs → entry_gen (option_map (state_in file) (nth n cs)) ≤ 65535
unfolding entry_gen nth
small_generation n file [] h = omega arith
small_generation zero file (Used g s e ∷ cs) h = h.0
small_generation zero file (Free g l ∷ cs) h = h.0
small_generation (suc n) file (c ∷ cs) h = small_generation n file cs h.1

-- a change's bytes fit the room kept for them
pub change_fits : (n g : ℕ) (c : Option Change) → n < 10 ^ 10 → g < 10 ^ 10 → length (change_bytes n g c) ≤ room_for c
change_fits n g None hn hg = omega arith
change_fits n g (Some (body b)) hn hg = let h = framed_at_most n g b hn hg in omega arith
change_fits n g (Some removed) hn hg = omega arith

-- a body's change
pub body_there : (pool : Bytes) (o : Option Content) (s e : ℕ) → o ≡ Some (Body s e) → option_map (content_in pool) o ≡ Some (body (part pool s e))
body_there pool o s e h = ap (option_map (content_in pool)) h

-- the state of a number, by its cell
pub state_by : (file : Bytes) (cs : List Cell) (n : ℕ) (o : Option Cell) → o ≡ nth n cs → option_map (state_in file) o ≡ nth n (states_in file cs)
state_by file cs n o e = ap (option_map (state_in file)) e ∙ sym (nth_map (state_in file) n cs)

-- what is planned of a number
pub planned_by : (p q : ℕ) (o o' : Option State) (c c' : Option Change) → p ≡ q → o ≡ o' → c ≡ c' → planned_of (cell p o c) ≡ planned_of (cell q o' c')
planned_by p q o o' c c' e f g = ap (λ x. planned_of (cell x o c)) e ∙ ap (λ x. planned_of (cell q x c)) f ∙ ap (λ x. planned_of (cell q o' x)) g

-- where the states of a table have small generations, so have its cells
pub generations_from : (file : Bytes) (cs : List Cell) → ((n : ℕ) → entry_gen (nth n (states_in file cs)) ≤ 65535) → GenerationsFit cs
unfolding entry_gen nth
generations_from file [] h = tt
generations_from file (Used g s e ∷ cs) h = (h 0, generations_from file cs (λ n. h (suc n)))
generations_from file (Free g l ∷ cs) h = (h 0, generations_from file cs (λ n. h (suc n)))
