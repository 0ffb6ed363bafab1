-- The bytes of a section: its lines, its subsections, its entries, its trailer and its tail (ISO 32000-1, 7.5.4 and 7.5.5).
use Rattle.std.specs.Prelude.{◌≡◌, ℕ, suc, ◌+◌, ◌≤◌, Bool, true, false, List, [], ◌∷◌, ◌++◌, length, codes}
use Rattle.format.specs.Bytes.{Bytes, is_digit, every, value}
use Rattle.format.specs.Lines.{Slot}
use Rattle.format.specs.Objects.{dict, Entries}
use Rattle.format.specs.Sections.{Listed, Sub, Section}
use Rattle.grammar.specs.Gaps.{Gap}
use Rattle.grammar.specs.Trees.{SpelledAt}
use Rattle.rules.specs.Whole.{Ending, ending, Spelt, Tail}

-- exactly k digits that spell the number n
pub record Padded (k n : ℕ) (ds : Bytes) : Type 0 where
  pub long : length ds ≡ k
  pub digits : every is_digit ds ≡ true
  pub spells : value ds ≡ n

-- the last two bytes of an entry: space CR, space LF or CR LF
pub data EntryEnd : Type 0 where
  space_cr : EntryEnd
  space_lf : EntryEnd
  cr_lf : EntryEnd

abbrev pub entry_end : EntryEnd → Bytes
entry_end space_cr = 32 ∷ 13 ∷ []
entry_end space_lf = 32 ∷ 10 ∷ []
entry_end cr_lf = 13 ∷ 10 ∷ []

-- `n` in use, `f` free
abbrev pub use_byte : Bool → ℕ
use_byte true = 110
use_byte false = 102

-- an entry is 20 bytes: ten digits, a space, five digits, a space, `n` or `f`, and its end
pub record EntryBytes (e : Slot) (xs : Bytes) : Type 0 where
  pub field : Bytes
  pub gen : Bytes
  pub end : EntryEnd
  pub ten : Padded 10 e.field field
  pub five : Padded 5 e.gen gen
  pub is : xs ≡ field ++ (32 ∷ (gen ++ (32 ∷ (use_byte e.in_use ∷ entry_end end))))

-- entries one behind another, with their numbers from n on
abbrev pub RowBytes : ℕ → Listed → Bytes → Type 0
RowBytes n [] xs = xs ≡ []
RowBytes n (r ∷ rs) xs = (r.0 ≡ n) × (own : Bytes) × (rest : Bytes) × EntryBytes r.1 own × (xs ≡ own ++ rest) × RowBytes (suc n) rs rest

-- a subsection: a line with its first number, one space and its count, which is 1 or more, and that many entries from its first number on
pub record SubBytes (s : Sub) (xs : Bytes) : Type 0 where
  pub first : Bytes
  pub count : Bytes
  pub line : Ending
  pub entries : Bytes
  pub from : Spelt s.first first
  pub many : Spelt s.count count
  pub some : 1 ≤ s.count
  pub all : length s.rows ≡ s.count
  pub lists : RowBytes s.first s.rows entries
  pub is : xs ≡ first ++ (32 ∷ (count ++ (ending line ++ entries)))

-- subsections one behind another, ascending from the number `low` on, none over another
abbrev pub SubsBytes : ℕ → List Sub → Bytes → Type 0
SubsBytes low [] xs = xs ≡ []
SubsBytes low (s ∷ ss) xs =
    (low ≤ s.first) × (own : Bytes) × (rest : Bytes) × SubBytes s own × (xs ≡ own ++ rest) × SubsBytes (s.first + s.count) ss rest

-- a dictionary with these entries, its `<<` at the place p
pub record DictionaryAt (p : ℕ) (es : Entries) (xs : Bytes) : Type 0 where
  pub inside : Bytes
  pub opens : xs ≡ 60 ∷ 60 ∷ inside
  pub spelled : SpelledAt p xs (dict es) (p + length xs) []

-- The bytes of a section: `xref`, a line; one or more subsections; `trailer`; its dictionary, with white space and comments around it; a tail that gives the section's offset.
pub record SectionBytes (s : Section) (xs : Bytes) : Type 0 where
  pub line : Ending
  pub table : Bytes
  pub lead : Bytes
  pub dictionary : Bytes
  pub gap : Bytes
  pub last : Bytes
  pub some : 1 ≤ length s.subsections
  pub subsections : SubsBytes 0 s.subsections table
  pub leads : Gap lead
  pub marked : s.marked ≡ s.offset + length (codes "xref" ++ (ending line ++ (table ++ (codes "trailer" ++ lead))))
  pub trailer : DictionaryAt s.marked s.trailer dictionary
  pub follows : Gap gap
  pub tail : Tail s.offset last
  pub is : xs ≡ codes "xref" ++ (ending line ++ (table ++ (codes "trailer" ++ (lead ++ (dictionary ++ (gap ++ last))))))
