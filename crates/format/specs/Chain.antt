-- The chain of sections, from the newest back to the oldest (ISO 32000-1, 7.5.5 and 7.5.6).
use Rattle.std.specs.Prelude.{ℕ, zero, suc, Bool, true, false, ◌&&◌, leb, List, [], ◌∷◌, length, take, drop, ℤ, pos, negsuc, Some, None, Ok, Err, codes, Option, Result, nat_le, nat_lt}
use Rattle.faults.specs.declared.fault.Fault.{Fault}
use Rattle.faults.specs.declared.reason.Reason.TheVariants.{BytesEnd, BadTrailer, ChainRule, FileBound}
use Rattle.format.specs.Bytes.{Bytes, Got, ok, bad}
use Rattle.format.specs.Failures.{section_fault, chain_fault}
use Rattle.format.specs.Objects.{Obj, null, boolean, integer, decimal, literal, hexadecimal, named, array, dict, ref, Entries, value_of}
use Rattle.format.specs.Sections.{Listed, listed, Section, section}

-- what is answered without a place behind it
abbrev pub Answer : Type 0 → Type 0
Answer A = Result A Fault

abbrev pub also : {A B : Type 0} → Answer A → (A → Answer B) → Answer B
also (Ok a) k = k a
also (Err f) k = Err f

-- a rule that must hold, or else the fault
abbrev pub must : {A : Type 0} → Bool → Fault → (Unit {0} → Answer A) → Answer A
must true f k = k tt
must false f k = Err f

-- the most bytes that a section, and an object in the file, may take
abbrev pub window_bytes : ℕ
window_bytes = 32768

-- what the trailer's entry for a key is; a null value counts as absent
pub data Entry : Type 0 where
  absent : Entry
  number : ℤ → Entry
  reference : ℕ → ℕ → Entry
  other : Entry

unfoldable pub entry_of : Obj → Entry
entry_of null = absent
entry_of (integer z) = number z
entry_of (ref n g) = reference n g
entry_of (boolean b) = other
entry_of (decimal w) = other
entry_of (literal w) = other
entry_of (hexadecimal w) = other
entry_of (named d) = other
entry_of (array os) = other
entry_of (dict es) = other

unfoldable pub trailer_entry : Bytes → Entries → Entry
trailer_entry k es = elim (value_of k es) [ None ↦ absent | Some o ↦ entry_of o ]

unfoldable pub is_absent : Entry → Bool
is_absent absent = true
is_absent (number z) = false
is_absent (reference n g) = false
is_absent other = false

-- what a trailer says: Size, Prev if there is one, and Root by number and generation
pub record Told : Type 0 where
  pub size : ℤ
  pub prev : Option ℤ
  pub root : ℕ
  pub root_gen : ℕ

-- Prev, where its kind fits: absent or a direct integer
unfoldable pub prev_of : Entry → Option (Option ℤ)
prev_of absent = Some None
prev_of (number z) = Some (Some z)
prev_of (reference n g) = None
prev_of other = None

unfoldable pub size_of : Entry → Option ℤ
size_of (number z) = Some z
size_of absent = None
size_of (reference n g) = None
size_of other = None

unfoldable pub root_of : Entry → Option (ℕ × ℕ)
root_of (reference n g) = Some (n, g)
root_of absent = None
root_of (number z) = None
root_of other = None

unfoldable pub told_by : Option ℤ → Option (Option ℤ) → Option (ℕ × ℕ) → Bool → Option Told
told_by (Some z) (Some p) (Some r) true = Some (record { size = z; prev = p; root = r.0; root_gen = r.1 })
told_by (Some z) (Some p) (Some r) false = None
told_by (Some z) (Some p) None b = None
told_by (Some z) None r b = None
told_by None p r b = None

-- Size and Prev are direct integers, Root is a reference, Encrypt and XRefStm are absent; only Prev may be absent
unfoldable pub told : Entries → Option Told
told es =
    told_by (size_of (trailer_entry (codes "Size") es)) (prev_of (trailer_entry (codes "Prev") es)) (root_of (trailer_entry (codes "Root") es))
    (is_absent (trailer_entry (codes "Encrypt") es) && is_absent (trailer_entry (codes "XRefStm") es))

-- every listed number is at most 999
unfoldable pub in_bound : Listed → Bool
in_bound [] = true
in_bound (r ∷ rs) = nat_le r.0 999 && in_bound rs

-- a section with what its trailer says
pub record Link : Type 0 where
  pub sec : Section
  pub says : Told

-- Prev, from 0 and below its section's offset
unfoldable pub below : ℕ → ℤ → Option ℕ
below off (pos n) = elim (nat_lt n off) [ true ↦ Some n | false ↦ None ]
below off (negsuc n) = None

-- the offset of the section before, if there is one
unfoldable pub before : ℕ → Option ℤ → Answer (Option ℕ)
before off None = Ok None
before off (Some z) = elim (below off z) [ None ↦ Err (chain_fault ChainRule off 0) | Some b ↦ Ok (Some b) ]

-- the section at an offset, through at most 32,768 bytes; an offset past the file finds no bytes
unfoldable pub section_in : Bytes → ℕ → Got Section
section_in file off =
    elim (nat_le off (length file)) [
      | true ↦ section off (take window_bytes (drop off file))
      | false ↦ bad (section_fault BytesEnd (length file))
    ]

-- the checks of one section behind its form: number bound, trailer, Prev, end
unfoldable pub checked_section : (ℕ → Bool) → Section → Answer (Link × Option ℕ)
checked_section fits s =
    must (in_bound (listed s.subsections)) (chain_fault FileBound 0 0)
    (λ _.
    elim (told s.trailer) [
      | None ↦ Err (section_fault BadTrailer s.marked)
      | Some t ↦
          also (before s.offset t.prev)
          (λ b. must (fits s.end) (chain_fault ChainRule s.offset 0) (λ _. Ok (record { sec = s; says = t }, b)))
    ])

-- one section, and the offset of the one before it; `fits` says whether the revision may end at a place
unfoldable pub link : Bytes → ℕ → (ℕ → Bool) → Answer (Link × Option ℕ)
link file off fits = elim (section_in file off) [ bad f ↦ Err f | ok s e rest ↦ checked_section fits s ]

-- The sections before those of `newer`, at most n of them, the newest first; the answer has the oldest first.
-- A revision ends at or before the next section's offset.
unfoldable pub walk : (n : ℕ) → Bytes → ℕ → (ℕ → Bool) → List Link → Answer (List Link)
walk zero file off fits newer = Err (chain_fault FileBound 0 0)
walk (suc n) file off fits newer =
    also (link file off fits)
    (λ l.
    elim l.1 [
      | None ↦ Ok (l.0 ∷ newer)
      | Some b ↦ walk n file b (λ e. leb e off) (l.0 ∷ newer)
    ])

-- what a proof by computation unfolds
unfoldable pub computes_chain : Unit {0}
unfolding entry_of trailer_entry is_absent prev_of size_of root_of told_by told in_bound below before section_in checked_section link walk
computes_chain = tt
