-- What an overlay means, where `meaning` says what the store below means.
use Rattle.std.specs.Prelude.{ℕ, ◌-◌, ◌≤◌, min, List, ◌++◌, length, take}
use Rattle.stores.specs.declared.overlay.Overlay.{Overlay}
use Rattle.stores.specs.declared.store.Store.{Ghosts}
use Rattle.stores.specs.Figures.{longest, tail_size}
use Rattle.stores.specs.Meanings.{Meaning}

-- the store below, inside an overlay
abbrev pub beneath : {S : Type 0} {g : Ghosts S} → Overlay S g → S
beneath s = s.below

-- the part of the store below that an overlay shows
abbrev pub shown_part : {S : Type 0} {g : Ghosts S} → (S → Meaning) → Overlay S g → List ℕ
shown_part meaning s = take s.shown (meaning (beneath s)).bytes

-- how many bytes that part has
abbrev pub part_size : {S : Type 0} {g : Ghosts S} → (S → Meaning) → Overlay S g → ℕ
part_size meaning s = min s.shown (length (meaning (beneath s)).bytes)

-- an overlay shows the first bytes of the store below, then those of its tail; what is left of the tail is its space
abbrev pub overlay_meaning : {S : Type 0} {g : Ghosts S} → (S → Meaning) → Overlay S g → Meaning
overlay_meaning meaning s =
    record {
      bytes = shown_part meaning s ++ take s.used s.tail;
      space = tail_size - s.used;
    }

-- the space of an overlay once it is cut to n bytes: a cut into the part below empties the tail
abbrev pub space_cut_to : {S : Type 0} {g : Ghosts S} → (S → Meaning) → Overlay S g → ℕ → ℕ
space_cut_to meaning s n = tail_size - (n - part_size meaning s)

-- a new overlay: all the bytes of the store below, and a whole tail of space
abbrev pub shown_over : Meaning → Meaning
shown_over below = record { bytes = below.bytes; space = tail_size }

-- the store below has not too many bytes
abbrev pub OverlayFits : Meaning → Type 0
OverlayFits below = length below.bytes ≤ longest
