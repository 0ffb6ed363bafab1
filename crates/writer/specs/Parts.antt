-- The pieces in their order are a section.
use Rattle.std.specs.Prelude.{◌≡◌, ℕ, true, false, List, [], ◌∷◌, ◌++◌, codes, Option}
use Rattle.format.specs.Bytes.{Bytes}
use Rattle.format.specs.Objects.{Entries, Obj, more_entries}
use Rattle.format.specs.Writing.{Run, run_on, runs_on, is_rewritten, copied, prev_bytes, section_bytes}
use Rattle.writer.specs.Pieces.{pair_bytes, size_bytes, close_bytes}

-- a section is its pieces, one behind the other
abbrev pub SectionParts : Type 0
SectionParts =
    (at : ℕ) (rs : List Run) (es : Entries) (size : ℕ) (prev : Option ℕ) →
    section_bytes at rs es size prev
    ≡ codes "xref\n"
    ++ (runs_on rs [] ++ (codes "trailer\n<<\n" ++ (copied es ++ (size_bytes size ++ (prev_bytes prev ++ close_bytes at)))))

-- runs are one behind the other
abbrev pub RunsParts : Type 0
RunsParts = (r : Run) (rs : List Run) → runs_on (r ∷ rs) [] ≡ run_on r [] ++ runs_on rs []

-- an entry of the previous trailer is copied, unless it is written anew
abbrev pub CopiedParts : Type 0
CopiedParts =
    (k kb vb : Bytes) (o : Obj) (es : Entries) →
    (is_rewritten k ≡ false → copied (more_entries k kb vb o es) ≡ pair_bytes kb vb ++ copied es)
    × (is_rewritten k ≡ true → copied (more_entries k kb vb o es) ≡ copied es)

abbrev pub Parts : Type 0
Parts = SectionParts × RunsParts × CopiedParts
