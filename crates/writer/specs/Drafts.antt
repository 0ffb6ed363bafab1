-- What a draft holds, and what an append does to it.
use Rattle.std.specs.Prelude.{◌≡◌, ℕ, ◌+◌, ◌≤◌, ◌++◌, length, vec_items, vec_len}
use Rattle.format.specs.Bytes.{Bytes}
use Rattle.writer.specs.declared.draft.Draft.{Draft}

-- the bytes of a draft
abbrev pub written : Draft → Bytes
written d = vec_items d.bytes

-- how many they are
abbrev pub count : Draft → ℕ
count d = vec_len d.bytes

-- how many they may become
abbrev pub limit_of : Draft → ℕ
limit_of d = d.limit

-- There is room for n bytes more. Each append asks it for the bytes that it writes: no fact of the draft alone says it, since it speaks of what comes next as much.
abbrev pub Room : Draft → ℕ → Type 0
Room d n = count d + n ≤ limit_of d

-- a draft, bytes behind it, and the draft with these
pub record Adds (d : Draft) (more : Bytes) (e : Draft) : Type 0 where
  pub bytes : written e ≡ written d ++ more
  pub grown : count e ≡ count d + length more
  pub limit : limit_of e ≡ limit_of d
