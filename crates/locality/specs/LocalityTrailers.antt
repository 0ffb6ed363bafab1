-- A trailer whose entries are copied reads back.
use Rattle.std.specs.Prelude.{◌≡◌, ℕ, suc, ◌+◌, ◌≤◌, true, false, [], ◌∷◌, ◌++◌, length, ℤ, pos, Some, None, codes, Option}
use Rattle.format.specs.Bytes.{Bytes, ok, is_regular}
use Rattle.format.specs.Chain.{Told, told}
use Rattle.format.specs.Objects.{Obj, integer, Entries, no_entries, more_entries, holds, entries, object_by}
use Rattle.format.specs.Sections.{trailer_at}
use Rattle.format.specs.Space.{skip}
use Rattle.format.specs.Strings.{turns}
use Rattle.format.specs.Tokens.{name, tok, token_at}
use Rattle.format.specs.Writing.{decimal, is_rewritten, copied, prev_bytes}
use Rattle.locality.specs.Locality.{stops}
use Rattle.locality.specs.LocalityObjects.{After}

-- The trailer's dictionary with its `<<` at s and the entries es, read from the place p, where the bytes are xs, up to the place q: the bytes that were taken, and how many of them stand before the `<<`.
-- Before any other bytes, from any place, the reader takes the same bytes and answers the same entries.
pub record LocalTrailer (p : ℕ) (xs : Bytes) (s : ℕ) (es : Entries) (q : ℕ) (rest : Bytes) : Type 0 where
  pub taken : Bytes
  pub lead : ℕ
  pub parts : xs ≡ taken ++ rest
  pub starts : s ≡ p + lead
  pub ends : q ≡ p + length taken
  pub again : (p' : ℕ) (ys : Bytes) → trailer_at (token_at p' (taken ++ ys)) ≡ ok (p' + lead, es) (p' + length taken) ys

-- what the reader of a trailer's dictionary took decides what it answers
abbrev pub TrailersAreLocal : Type 0
TrailersAreLocal = (p : ℕ) (xs : Bytes) (s : ℕ) (es : Entries) (q : ℕ) (rest : Bytes) → trailer_at (token_at p xs) ≡ ok (s, es) q rest → LocalTrailer p xs s es q rest

-- An entry that can be written again: its key's bytes are the name of that key before any byte that is not regular,
-- and its value's bytes, which begin with no white space or comment, are its value before LF and bytes that do not lengthen it.
pub record FitEntry (key key_bytes value_bytes : Bytes) (o : Obj) : Type 0 where
  pub names : (p : ℕ) (ys : Bytes) → stops is_regular ys ≡ true → token_at p (key_bytes ++ ys) ≡ tok (name key) p (key_bytes ++ ys) (p + length key_bytes) ys
  pub stands : (p : ℕ) (ys : Bytes) → skip false p (value_bytes ++ ys) ≡ (p, value_bytes ++ ys)
  pub reads : (p : ℕ) (ys : Bytes) → After o (10 ∷ ys) → object_by 31 p (value_bytes ++ (10 ∷ ys)) ≡ ok o (p + length value_bytes) (10 ∷ ys)

-- entries that can be written again, no key twice
abbrev pub FitEntries : Entries → Type 0
FitEntries no_entries = Unit {0}
FitEntries (more_entries k kb vb o es) = FitEntry k kb vb o × (holds k es ≡ false) × FitEntries es

unfoldable pub entry_count : Entries → ℕ
entry_count no_entries = 0
entry_count (more_entries k kb vb o es) = suc (entry_count es)

-- the entries that are copied: all but Size and Prev
unfoldable pub copied_entries : Entries → Entries
copied_entries no_entries = no_entries
copied_entries (more_entries k kb vb o es) = elim (is_rewritten k) [ true ↦ copied_entries es | false ↦ more_entries k kb vb o (copied_entries es) ]

-- entries, and others behind them
unfoldable pub joined_entries : Entries → Entries → Entries
joined_entries no_entries fs = fs
joined_entries (more_entries k kb vb o es) fs = more_entries k kb vb o (joined_entries es fs)

unfoldable pub prev_entry : Option ℕ → Entries
prev_entry None = no_entries
prev_entry (Some b) = more_entries (codes "Prev") (codes "/Prev") (decimal b) (integer (pos b)) no_entries

unfoldable pub size_entries : ℕ → Option ℕ → Entries
size_entries size prev = more_entries (codes "Size") (codes "/Size") (decimal size) (integer (pos size)) (prev_entry prev)

-- the entries of a trailer that is written: those copied, Size, and Prev where there is a previous section
unfoldable pub new_entries : Entries → ℕ → Option ℕ → Entries
new_entries es size prev = joined_entries (copied_entries es) (size_entries size prev)

-- a trailer as it is written, from behind the word `trailer` to its `>>`, and then what is given
abbrev pub new_trailer : Entries → ℕ → Option ℕ → Bytes → Bytes
new_trailer es size prev ys = codes "\n<<\n" ++ (copied es ++ (codes "/Size " ++ (decimal size ++ (codes "\n" ++ (prev_bytes prev ++ (codes ">>" ++ ys))))))

-- numbers that an integer token can be
abbrev pub SmallPrev : Option ℕ → Type 0
SmallPrev None = Unit {0}
SmallPrev (Some b) = b ≤ 2147483647

abbrev pub prev_told : Option ℕ → Option ℤ
prev_told None = None
prev_told (Some b) = Some (pos b)

pub record CopiedTrailersReadBack : Type 0 where
  -- entries that were read in a trailer can be written again, and are no more than the bytes that were read
  pub fit : (n p : ℕ) (xs : Bytes) (es : Entries) (q : ℕ) (rest : Bytes) → entries (object_by 31) n no_entries p xs ≡ ok es q rest → FitEntries es × (entry_count es ≤ length xs)
  -- the new trailer's entries can be written again too
  pub stay_fit : (es : Entries) (size : ℕ) (prev : Option ℕ) → FitEntries es → size ≤ 2147483647 → SmallPrev prev → FitEntries (new_entries es size prev)
  -- the new trailer reads back as its entries
  pub read_back : (p : ℕ) (es : Entries) (size : ℕ) (prev : Option ℕ) (ys : Bytes) → FitEntries es → entry_count es + 3 ≤ turns → size ≤ 2147483647 → SmallPrev prev →
      trailer_at (token_at p (new_trailer es size prev ys)) ≡ ok (suc p, new_entries es size prev) (p + length (new_trailer es size prev [])) ys
  -- the new trailer says its Size and Prev, and Root as before
  pub tell : (es : Entries) (size : ℕ) (prev : Option ℕ) (t : Told) → told es ≡ Some t →
      told (new_entries es size prev) ≡ Some (record { size = pos size; prev = prev_told prev; root = t.root; root_gen = t.root_gen })
