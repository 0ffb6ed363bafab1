-- The tables and objects of the revisions, and opening a file (ISO 32000-1, 7.5.2 to 7.5.6).
use Rattle.std.specs.Prelude.{ℕ, zero, suc, ◌-◌, min, max, Bool, true, false, ◌&&◌, List, [], ◌∷◌, length, take, drop, ℤ, pos, negsuc, Some, None, Ok, Err, codes, Option, ◌==◌, nat_eq, nat_le, nat_lt}
use Rattle.faults.specs.declared.reason.Reason.TheVariants.{NoHeader, NoTail, ChainRule, FileBound}
use Rattle.faults.specs.Faults.{of_object}
use Rattle.format.specs.Bytes.{Bytes, Got, ok, bad}
use Rattle.format.specs.Failures.{chain_fault}
use Rattle.format.specs.Frames.{Framed, frame, behind}
use Rattle.format.specs.Lines.{Slot}
use Rattle.format.specs.Objects.{Entries}
use Rattle.format.specs.Sections.{Sub, Listed, listed, last_offset}
use Rattle.format.specs.Chain.{Answer, also, must, window_bytes, Link, walk}

-- what a revision's table has for a number: in use, with the body; or free, with the next free number
pub data State : Type 0 where
  used : (gen : ℕ) → (body : Bytes) → State
  free : (gen : ℕ) → (next : ℕ) → State

-- a revision: its section's offset, its end, its Size, its Root, its trailer's entries, and the state of each number below Size
pub record Revision : Type 0 where
  pub offset : ℕ
  pub end : ℕ
  pub size : ℕ
  pub root : ℕ
  pub root_gen : ℕ
  pub trailer : Entries
  pub states : List State

-- the first row of a number
unfoldable pub find : {A : Type 0} → ℕ → List (ℕ × A) → Option A
find n [] = None
find n (r ∷ rs) = elim (n == r.0) [ true ↦ Some r.1 | false ↦ find n rs ]

-- what stands at a place of a list
unfoldable pub nth : {A : Type 0} → ℕ → List A → Option A
nth n [] = None
nth zero (x ∷ xs) = Some x
nth (suc n) (x ∷ xs) = nth n xs

abbrev pub either : {A : Type 0} → Option A → Option A → Option A
either (Some a) o = Some a
either None o = o

-- 1 plus the highest number, of m and of those listed
unfoldable pub highest : ℕ → Listed → ℕ
highest m [] = m
highest m (r ∷ rs) = highest (max m (suc r.0)) rs

unfoldable pub size_is : ℤ → ℕ → Bool
size_is (pos n) m = n == m
size_is (negsuc n) m = false

unfoldable pub under_size : ℕ → ℤ → Bool
under_size k (pos n) = nat_lt k n
under_size k (negsuc n) = false

-- An entry in a section at `off` whose trailer gives that Size. In use: number 1 or more, generation at most 65534, offset below its section.
-- Free: a link below Size, generation at most 65535. Entry 0 is free with 65535.
unfoldable pub slot_fits : ℕ → ℤ → ℕ → Slot → Bool
slot_fits off size zero s = elim s.in_use [ true ↦ false | false ↦ (s.gen == 65535) && under_size s.field size ]
slot_fits off size (suc n) s =
    elim s.in_use [
      | true ↦ nat_le s.gen 65534 && nat_lt s.field off
      | false ↦ nat_le s.gen 65535 && under_size s.field size
    ]

unfoldable pub slots_fit : ℕ → ℤ → Listed → Answer (Unit {0})
slots_fit off size [] = Ok tt
slots_fit off size (r ∷ rs) =
    must (slot_fits off size r.0 r.1) (chain_fault ChainRule off r.0) (λ _. slots_fit off size rs)

-- the object at `at` that a section at `off` lists: at most 32,768 bytes, and never past the section's start
unfoldable pub frame_in : Bytes → ℕ → ℕ → Got Framed
frame_in file off at = frame at (take (min window_bytes (off - at)) (drop at file))

-- the object read bears the number and the generation of its entry
unfoldable pub framed_state : ℕ → ℕ → Slot → Got Framed → Answer State
framed_state off n s (bad f) = Err (of_object n f)
framed_state off n s (ok r p rest) =
    must (r.number == n && r.gen == s.gen) (chain_fault ChainRule off n) (λ _. Ok (used s.gen r.body))

unfoldable pub state_of : Bytes → ℕ → ℕ → Slot → Answer State
state_of file off n s =
    elim s.in_use [ false ↦ Ok (free s.gen s.field) | true ↦ framed_state off n s (frame_in file off s.field) ]

unfoldable pub states_of : Bytes → ℕ → Listed → Answer (List (ℕ × State))
states_of file off [] = Ok []
states_of file off (r ∷ rs) =
    also (state_of file off r.0 r.1) (λ t. also (states_of file off rs) (λ ts. Ok ((r.0, t) ∷ ts)))

-- every number below n + k, from n on, is listed or stood in the table before, which had `old` numbers
unfoldable pub covered : (k n : ℕ) → Listed → (old : ℕ) → Bool
covered zero n new old = true
covered (suc k) n new old =
    elim (nat_lt n old) [
      | true ↦ covered k (suc n) new old
      | false ↦ elim (find n new) [ None ↦ false | Some s ↦ covered k (suc n) new old ]
    ]

-- the table: for k numbers from n on, the newest state, listed now or before
unfoldable pub overlaid : (k n : ℕ) → List (ℕ × State) → List State → List State
overlaid zero n new old = []
overlaid (suc k) n new old =
    elim (either (find n new) (nth n old)) [ None ↦ [] | Some s ↦ s ∷ overlaid k (suc n) new old ]

-- the oldest section has one subsection, from 0
unfoldable pub one_from_zero : List Sub → Bool
one_from_zero [] = false
one_from_zero (s ∷ []) = s.first == 0
one_from_zero (s ∷ t ∷ ss) = false

unfoldable pub used_with : ℕ → State → Bool
used_with g (used h b) = h == g
used_with g (free h l) = false

-- Root is in use with its generation, by the newest entry
unfoldable pub root_fits : ℕ → ℕ → Listed → List State → Bool
root_fits n g new old =
    elim (find n new) [
      | Some s ↦ s.in_use && s.gen == g
      | None ↦ elim (nth n old) [ None ↦ false | Some t ↦ used_with g t ]
    ]

-- A revision, given whether it is the oldest and the states of the one before.
-- The order of the checks: the oldest's subsection, entries ascending, Size, Root, objects ascending.
unfoldable pub revision : Bytes → (oldest : Bool) → List State → Link → Answer Revision
revision file oldest old l =
    let s = l.sec in
    let t = l.says in
    let new = listed s.subsections in
    let off = s.offset in
    let size = highest (length old) new in
    must (elim oldest [ true ↦ one_from_zero s.subsections | false ↦ true ]) (chain_fault ChainRule off 0)
    (λ _.
    also (slots_fit off t.size new)
    (λ _.
    must (size_is t.size size && covered size 0 new (length old)) (chain_fault ChainRule off 0)
    (λ _.
    must (root_fits t.root t.root_gen new old) (chain_fault ChainRule off t.root)
    (λ _.
    also (states_of file off new)
    (λ ts.
    Ok (record { offset = off; end = s.end; size = size; root = t.root; root_gen = t.root_gen; trailer = s.trailer; states = overlaid size 0 ts old }))))))

-- the revisions from the oldest on
unfoldable pub revisions : Bytes → (oldest : Bool) → List State → List Link → Answer (List Revision)
revisions file oldest old [] = Ok []
revisions file oldest old (l ∷ ls) =
    also (revision file oldest old l) (λ r. also (revisions file false r.states ls) (λ rs. Ok (r ∷ rs)))

-- The header: `%PDF-1.` and a digit 0 to 7.
unfoldable pub version_fits : Bytes → Bool
version_fits [] = false
version_fits (x ∷ xs) = nat_le 48 x && nat_le x 55

unfoldable pub header_fits : Bytes → Bool
header_fits file = elim (behind (codes "%PDF-1.") file) [ None ↦ false | Some rest ↦ version_fits rest ]

-- the most bytes of a file, and the most revisions
abbrev pub file_bytes : ℕ
file_bytes = 9999999

abbrev pub most_revisions : ℕ
most_revisions = 64

-- an accepted file: the 8 bytes of its header, and its revisions, the oldest first
pub record Opened : Type 0 where
  pub header : Bytes
  pub history : List Revision

unfoldable pub opens_from : Bytes → Option ℕ → Answer Opened
opens_from file None = Err (chain_fault NoTail (length file) 0)
opens_from file (Some off) =
    also (walk most_revisions file off (λ e. nat_eq e (length file)) [])
    (λ ls. also (revisions file true [] ls) (λ rs. Ok (record { header = take 8 file; history = rs })))

-- Opening a file: its revisions, or the first breach of the rules. Checks: length, header, tail; each section, newest first; each revision, oldest first.
unfoldable pub opens : Bytes → Answer Opened
opens file =
    must (nat_le (length file) file_bytes) (chain_fault FileBound 0 0)
    (λ _. must (header_fits file) (chain_fault NoHeader 0 0) (λ _. opens_from file (last_offset file)))

-- what a proof by computation unfolds
unfoldable pub computes_revisions : Unit {0}
unfolding find nth highest size_is under_size slot_fits slots_fit frame_in framed_state state_of states_of covered overlaid one_from_zero used_with root_fits revision revisions version_fits header_fits opens_from opens
computes_revisions = tt
