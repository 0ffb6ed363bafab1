-- The bytes of an update, to the byte.
use Rattle.std.specs.Prelude.{ℕ, zero, suc, ◌+◌, ◌/◌, ◌%◌, Bool, true, false, ◌||◌, List, [], ◌∷◌, ◌++◌, length, Some, None, codes, Option, ◌==◌, nat_lt}
use Rattle.format.specs.Bytes.{Bytes, same}
use Rattle.format.specs.Lines.{Slot}
use Rattle.format.specs.Objects.{Entries, no_entries, more_entries}
use Rattle.format.specs.Revisions.{State, used, free, Revision, find, nth}
use Rattle.format.specs.Updates.{Change, body, removed, Update, new_numbers}

-- a number in decimal before what is given, of at most k digits
unfoldable pub decimal_on : (k : ℕ) → ℕ → Bytes → Bytes
decimal_on zero n acc = acc
decimal_on (suc k) n acc = elim (nat_lt n 10) [ true ↦ (48 + n) ∷ acc | false ↦ decimal_on k (n / 10) ((48 + n % 10) ∷ acc) ]

-- a number below 10,000,000,000 in decimal
unfoldable pub decimal : ℕ → Bytes
decimal n = decimal_on 10 n []

-- the last k digits of a number, zeros in front, before what is given
unfoldable pub padded : (k : ℕ) → ℕ → Bytes → Bytes
padded zero n acc = acc
padded (suc k) n acc = padded k (n / 10) ((48 + n % 10) ∷ acc)

-- an object as it is written: `n g obj` LF body LF `endobj` LF
unfoldable pub framed_bytes : (number gen : ℕ) → Bytes → Bytes
framed_bytes n g b = decimal n ++ (codes " " ++ (decimal g ++ (codes " obj\n" ++ (b ++ codes "\nendobj\n"))))

-- what an update makes of a number: as it was; a body written at an offset; freed
pub data Cell : Type 0 where
  kept : State → Cell
  wrote : (gen : ℕ) → (offset : ℕ) → Bytes → Cell
  freed : (gen : ℕ) → Cell

-- the generation of a number's entry, 0 if it has none
unfoldable pub entry_gen : Option State → ℕ
entry_gen None = 0
entry_gen (Some (used g b)) = g
entry_gen (Some (free g l)) = g

-- the cell of a number, given its state before, its change, and the place where the next object goes
unfoldable pub cell : ℕ → Option State → Option Change → Cell
cell p None None = kept (free 0 0)
cell p (Some s) None = kept s
cell p o (Some (body b)) = wrote (entry_gen o) p b
cell p o (Some removed) = freed (suc (entry_gen o))

-- the bytes that the cell of the number n adds
unfoldable pub cell_bytes : ℕ → Cell → Bytes
cell_bytes n (kept s) = []
cell_bytes n (wrote g p b) = framed_bytes n g b
cell_bytes n (freed g) = []

-- k cells from the number n on, the next object at p
unfoldable pub cells : (k n p : ℕ) → List State → Update → List Cell
cells zero n p old u = []
cells (suc k) n p old u =
    let c = cell p (nth n old) (find n u) in
    c ∷ cells k (suc n) (p + length (cell_bytes n c)) old u

-- the objects put, ascending
unfoldable pub object_bytes : ℕ → List Cell → Bytes
object_bytes n [] = []
object_bytes n (c ∷ cs) = cell_bytes n c ++ object_bytes (suc n) cs

-- The free list runs from 0 through all free numbers ascending and back to 0: the first free number from n on, or 0.
unfoldable pub next_free : ℕ → List Cell → ℕ
next_free n [] = 0
next_free n (kept (used g b) ∷ cs) = next_free (suc n) cs
next_free n (kept (free g l) ∷ cs) = n
next_free n (wrote g p b ∷ cs) = next_free (suc n) cs
next_free n (freed g ∷ cs) = n

abbrev pub used_slot : ℕ → ℕ → Slot
used_slot p g = record { in_use = true; field = p; gen = g }

abbrev pub free_slot : ℕ → ℕ → Slot
free_slot l g = record { in_use = false; field = l; gen = g }

-- The entry of the number n, if it is listed, where l is the next free number.
-- Listed are 0, each changed number, and each free number whose entry changes.
unfoldable pub entry_for : ℕ → ℕ → Cell → Option Slot
entry_for n l (kept (used g b)) = None
entry_for zero l (kept (free g m)) = Some (free_slot l g)
entry_for (suc n) l (kept (free g m)) = elim (l == m) [ true ↦ None | false ↦ Some (free_slot l g) ]
entry_for n l (wrote g p b) = Some (used_slot p g)
entry_for n l (freed g) = Some (free_slot l g)

unfoldable pub entries_for : ℕ → List Cell → List (Option Slot)
entries_for n [] = []
entries_for n (c ∷ cs) = entry_for n (next_free (suc n) cs) c ∷ entries_for (suc n) cs

-- an unbroken run of listed numbers: the first one, and the entries
abbrev pub Run : Type 0
Run = ℕ × List Slot

-- the entry of the number n in front of the runs behind it
unfoldable pub ahead : ℕ → Slot → List Run → List Run
ahead n s [] = (n, s ∷ []) ∷ []
ahead n s (r ∷ rs) = elim (r.0 == suc n) [ true ↦ (n, s ∷ r.1) ∷ rs | false ↦ (n, s ∷ []) ∷ r ∷ rs ]

unfoldable pub runs : ℕ → List (Option Slot) → List Run
runs n [] = []
runs n (None ∷ ss) = runs (suc n) ss
runs n (Some s ∷ ss) = ahead n s (runs (suc n) ss)

unfoldable pub mark_of : Bool → ℕ
mark_of true = 110
mark_of false = 102

-- the 20 bytes of an entry, which end in space and LF
unfoldable pub slot_bytes : Slot → Bytes
slot_bytes s = padded 10 s.field (32 ∷ padded 5 s.gen (32 ∷ mark_of s.in_use ∷ 32 ∷ 10 ∷ []))

-- entries, and then what is given
unfoldable pub slots_on : List Slot → Bytes → Bytes
slots_on [] ys = ys
slots_on (s ∷ ss) ys = slot_bytes s ++ slots_on ss ys

-- `first count` LF and the entries of a run, and then what is given
unfoldable pub run_on : Run → Bytes → Bytes
run_on r ys = decimal r.0 ++ (32 ∷ (decimal (length r.1) ++ (10 ∷ slots_on r.1 ys)))

unfoldable pub runs_on : List Run → Bytes → Bytes
runs_on [] ys = ys
runs_on (r ∷ rs) ys = run_on r (runs_on rs ys)

-- Size and Prev are written anew: they are left out by their decoded key
unfoldable pub is_rewritten : Bytes → Bool
is_rewritten k = same k (codes "Size") || same k (codes "Prev")

-- each entry of the previous trailer but Size and Prev, in order: key bytes, space, value bytes, LF
unfoldable pub copied : Entries → Bytes
copied no_entries = []
copied (more_entries k kb vb o es) =
    elim (is_rewritten k) [ true ↦ copied es | false ↦ kb ++ (32 ∷ (vb ++ (10 ∷ copied es))) ]

-- `/Prev P` LF, where there is a previous section
unfoldable pub prev_bytes : Option ℕ → Bytes
prev_bytes None = []
prev_bytes (Some p) = codes "/Prev " ++ (decimal p ++ codes "\n")

-- A section as it is written at the offset `at`: runs, trailer entries copied, Size, Prev, tail.
unfoldable pub section_bytes : (at : ℕ) → List Run → Entries → (size : ℕ) → (prev : Option ℕ) → Bytes
section_bytes at rs es size prev =
    codes "xref\n"
    ++ runs_on rs
    (codes "trailer\n<<\n"
    ++ (copied es
    ++ (codes "/Size "
    ++ (decimal size ++ (codes "\n" ++ (prev_bytes prev ++ (codes ">>\nstartxref\n" ++ (decimal at ++ codes "\n%%EOF\n"))))))))

-- An update behind a file of the given length whose newest revision is r: its new Size, its objects, its section.
unfoldable pub new_size : Revision → Update → ℕ
new_size r u = r.size + new_numbers r.size u

unfoldable pub cells_of : ℕ → Revision → Update → List Cell
cells_of len r u = cells (new_size r u) 0 len r.states u

unfoldable pub update_objects : ℕ → Revision → Update → Bytes
update_objects len r u = object_bytes 0 (cells_of len r u)

unfoldable pub update_section : ℕ → Revision → Update → Bytes
update_section len r u =
    section_bytes (len + length (update_objects len r u)) (runs 0 (entries_for 0 (cells_of len r u))) r.trailer (new_size r u) (Some r.offset)

unfoldable pub update_bytes : ℕ → Revision → Update → Bytes
update_bytes len r u = update_objects len r u ++ update_section len r u

-- what a proof by computation unfolds
unfoldable pub computes_writing : Unit {0}
unfolding decimal_on decimal padded framed_bytes entry_gen cell cell_bytes cells object_bytes next_free entry_for entries_for ahead runs mark_of slot_bytes slots_on run_on runs_on is_rewritten copied prev_bytes section_bytes new_size cells_of update_objects update_section update_bytes
computes_writing = tt
