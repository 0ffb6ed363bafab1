-- A section as it is written, and what is read of it.
use Rattle.std.specs.Prelude.{◌≡◌, ℕ, suc, ◌+◌, ◌^◌, ◌<◌, ◌≤◌, Bool, true, false, List, [], ◌∷◌, ◌++◌, length, Some, None, codes, Option}
use Rattle.format.specs.Bytes.{Bytes, ok}
use Rattle.format.specs.Lines.{Slot}
use Rattle.format.specs.Objects.{Entries}
use Rattle.format.specs.Sections.{Listed, listed, Sub, Section, section, trailer_at}
use Rattle.format.specs.Tokens.{token_at}
use Rattle.format.specs.Writing.{Run, runs, runs_on, copied, decimal, prev_bytes, section_bytes}

-- an entry whose numbers fit their digits
abbrev pub Small : Slot → Type 0
Small s = (s.field < 10 ^ 10) × (s.gen < 10 ^ 5)

-- each entry that is listed is small
abbrev pub EachSmall : List (Option Slot) → Type 0
EachSmall [] = Unit {0}
EachSmall (None ∷ ls) = EachSmall ls
EachSmall (Some s ∷ ls) = Small s × EachSmall ls

-- some entry is listed
unfoldable pub any_listed : List (Option Slot) → Bool
any_listed [] = false
any_listed (None ∷ ls) = any_listed ls
any_listed (Some s ∷ ls) = true

-- the entries that are listed, with their numbers from n on
unfoldable pub listed_of : ℕ → List (Option Slot) → Listed
listed_of n [] = []
listed_of n (None ∷ ls) = listed_of (suc n) ls
listed_of n (Some s ∷ ls) = (n, s) ∷ listed_of (suc n) ls

-- entries with their numbers from n on
unfoldable pub numbered : ℕ → List Slot → Listed
numbered n [] = []
numbered n (s ∷ ss) = (n, s) ∷ numbered (suc n) ss

-- the subsection that a run is
abbrev pub sub_of : Run → Sub
sub_of r = record { first = r.0; count = length r.1; rows = numbered r.0 r.1 }

-- the subsections that runs are
unfoldable pub subs_of : List Run → List Sub
subs_of [] = []
subs_of (r ∷ rs) = sub_of r ∷ subs_of rs

-- what is written of a trailer behind its word, before other bytes
abbrev pub trailer_on : Entries → (size : ℕ) → (prev : Option ℕ) → Bytes → Bytes
trailer_on es size prev ys =
    codes "\n<<\n"
    ++ (copied es ++ (codes "/Size " ++ (decimal size ++ (codes "\n" ++ (prev_bytes prev ++ (codes ">>" ++ ys))))))

-- such a trailer reads as these entries, at any place and before any bytes
abbrev pub TrailerReads : Entries → (size : ℕ) → (prev : Option ℕ) → Entries → Type 0
TrailerReads es size prev es' =
    (p : ℕ) (ys : Bytes) →
    trailer_at (token_at p (trailer_on es size prev ys)) ≡ ok (suc p, es') (p + length (trailer_on es size prev [])) ys

-- the section that is read of what is written at an offset
abbrev pub section_of : (at : ℕ) → List Run → Entries → (size : ℕ) → (prev : Option ℕ) → Entries → Section
section_of at rs es size prev es' = record {
  offset = at;
  end = at + length (section_bytes at rs es size prev);
  subsections = subs_of rs;
  marked = at + length (codes "xref\n" ++ runs_on rs (codes "trailer\n"));
  trailer = es';
}

-- A section that lists up to 1000 numbers, as it is written, reads as that section, before any bytes.
-- Its subsections list exactly the numbers that are listed, with their entries, ascending.
abbrev pub WrittenSectionsReadBack : Type 0
WrittenSectionsReadBack =
    (ls : List (Option Slot)) (es : Entries) (size : ℕ) (prev : Option ℕ) (es' : Entries) (at : ℕ) (ys : Bytes) →
    length ls ≤ 1000 → EachSmall ls → any_listed ls ≡ true → at < 10 ^ 10 → TrailerReads es size prev es' →
    (section at (section_bytes at (runs 0 ls) es size prev ++ ys)
    ≡ ok (section_of at (runs 0 ls) es size prev es') (at + length (section_bytes at (runs 0 ls) es size prev)) ys)
    × (listed (subs_of (runs 0 ls)) ≡ listed_of 0 ls)
