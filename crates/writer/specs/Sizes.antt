-- How large an update may become.
use Rattle.std.specs.Prelude.{ℕ}

-- as many numbers as a table and an open update have together
abbrev pub most_numbers : ℕ
most_numbers = 1032

-- the objects of an update: its bodies, and 34 bytes more for each of its changes
abbrev pub most_object_bytes : ℕ
most_object_bytes = 17472

-- a section: 42 bytes for each number, a copied trailer of up to twice a window, and its fixed lines
abbrev pub most_section_bytes : ℕ
most_section_bytes = 108960

-- both of them fit
abbrev pub most_bytes : ℕ
most_bytes = 131072
