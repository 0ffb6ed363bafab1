-- What is found from the end of a file.
use Rattle.std.specs.Prelude.{◌≡◌, ℕ, ◌^◌, ◌<◌, ◌++◌, Some, codes}
use Rattle.format.specs.Bytes.{Bytes, ok}
use Rattle.format.specs.Sections.{Section, section, last_offset}
use Rattle.format.specs.Writing.{decimal}

-- Bytes that end with a tail as it is written give its offset from their end.
abbrev pub WrittenTailsAreFound : Type 0
WrittenTailsAreFound =
    (xs : Bytes) (n : ℕ) → n < 10 ^ 10 → last_offset (xs ++ (codes "startxref\n" ++ (decimal n ++ codes "\n%%EOF\n"))) ≡ Some n

-- Bytes that end with a section that can be read give its offset from their end.
abbrev pub ReadTailsAreFound : Type 0
ReadTailsAreFound =
    (off : ℕ) (pre : Bytes) (s : Section) (e : ℕ) (rest before : Bytes) → section off (pre ++ rest) ≡ ok s e rest →
    last_offset (before ++ pre) ≡ Some off

-- Both: the tail at the end of a file is found from there.
abbrev pub TailsAreFound : Type 0
TailsAreFound = WrittenTailsAreFound × ReadTailsAreFound
