-- A dictionary that has to stand next.
use Rattle.std.specs.Prelude.{◌≡◌, ℕ, ◌+◌, ◌<◌, ◌≤◌, length, drop, Some, None, Ok, Err, Result}
use Rattle.faults.specs.declared.fault.Fault.{Fault}
use Rattle.format.specs.Bytes.{Bytes, ok}
use Rattle.format.specs.Strings.{turns}
use Rattle.format.specs.Tokens.{token_at}
use Rattle.format.specs.Objects.{Entries, no_entries, entries, object_by}
use Rattle.format.specs.Sections.{no_dict, trailer_at}
use Rattle.objects.specs.declared.dictionary.Dictionary.{Dictionary}
use Rattle.objects.specs.Steps.{token_in, EndsAt}

-- a `<<` stands next, from one place to another, or why none does
abbrev pub Opening : Bytes → ℕ → Result (ℕ × ℕ) Fault → Type 0
Opening src p (Ok x) = (no_dict (token_in src p).from (token_in src p).kind ≡ None) × ((token_in src p).from ≡ x.0) × EndsAt src p x.1 × (p ≤ x.0) × (x.0 < x.1)
Opening src p (Err f) = no_dict (token_in src p).from (token_in src p).kind ≡ Some f

-- the places of a dictionary that is looked for from p on, one after the other, in bytes that end at n
pub record Laid (p n : ℕ) (d : Dictionary) : Type 0 where
  pub starts : p ≤ d.mark
  pub opens : d.mark < d.inside
  pub closes : d.inside < d.end
  pub ends : d.end ≤ n

-- the entries that stand between the marks of a dictionary
abbrev pub Holding : Bytes → Dictionary → Entries → Type 0
Holding src d es = entries (object_by 31) turns no_entries d.inside (drop d.inside src) ≡ ok es d.end (drop d.end src)

-- the dictionary that stands next from the place p of the bytes on, with its entries
pub record Opened (src : Bytes) (p : ℕ) (d : Dictionary) : Type 0 where
  pub tree : Entries
  pub trailer : trailer_at (token_in src p) ≡ ok (d.mark, tree) d.end (drop d.end src)
  pub inside : Holding src d tree
  pub laid : Laid p (length src) d

-- the same in bytes that start at the place b of the file; the places of the dictionary count in the bytes
pub record OpenedAt (b : ℕ) (src : Bytes) (p : ℕ) (d : Dictionary) : Type 0 where
  pub tree : Entries
  pub trailer : trailer_at (token_at (b + p) (drop p src)) ≡ ok (b + d.mark, tree) (b + d.end) (drop d.end src)
  pub inside : Holding src d tree
  pub laid : Laid p (length src) d
