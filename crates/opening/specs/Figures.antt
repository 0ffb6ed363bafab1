-- How many rows a section can have.
use Rattle.std.specs.Prelude.{ℕ, ◌/◌}
use Rattle.format.specs.Chain.{window_bytes}

-- an entry takes 20 bytes of a section
abbrev pub most_rows : ℕ
most_rows = window_bytes / 20
