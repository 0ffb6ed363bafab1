-- What a flat store means.
use Rattle.std.specs.Prelude.{◌≡◌, ℕ, ◌+◌, ◌-◌, ◌≤◌, length, take, vec_items, vec_len}
use Rattle.std.specs.Global.{Vec}
use Rattle.stores.specs.declared.flat.Flat.{Flat}
use Rattle.stores.specs.Figures.{longest}
use Rattle.stores.specs.Meanings.{Meaning}

-- the first n bytes of a memory as a store: what is behind them is its space
abbrev pub start_of : Vec ℕ → ℕ → Meaning
start_of memory n = record { bytes = take n (vec_items memory); space = vec_len memory - n }

-- the memory inside a flat store
abbrev pub memory_of : Flat → Vec ℕ
memory_of s = s.memory

-- a flat store is the start of its memory
abbrev pub flat_meaning : Flat → Meaning
flat_meaning s = start_of (memory_of s) s.used

-- n bytes lie in the memory, and are not too many
abbrev pub FlatFits : Vec ℕ → ℕ → Type 0
FlatFits memory n = (n ≤ vec_len memory) × (n ≤ longest)

-- a memory begins with the bytes of a store, and is as large as they and the space together
pub record Holds (memory : Vec ℕ) (m : Meaning) : Type 0 where
  pub bytes : take (length m.bytes) (vec_items memory) ≡ m.bytes
  pub size : vec_len memory ≡ length m.bytes + m.space
