-- A section with what its trailer says, and the revision that it makes.
use Rattle.std.specs.Prelude.{ℕ, Bool, true, false, ◌&&◌, List, [], ◌∷◌, length, Some, None, Ok, Err}
use Rattle.faults.specs.declared.reason.Reason.TheVariants.{BadTrailer, ChainRule, FileBound}
use Rattle.format.specs.Book.{blank, newest_or}
use Rattle.format.specs.Bytes.{Bytes, ok, bad}
use Rattle.format.specs.Chain.{Answer, also, must, Told, told, in_bound, Link, section_in}
use Rattle.format.specs.Failures.{chain_fault, section_fault}
use Rattle.format.specs.Revisions.{State, Revision, highest, size_is, slots_fit, covered, overlaid, one_from_zero, root_fits, revision}
use Rattle.format.specs.Sections.{Sub, Listed, listed, Section}

-- a section whose numbers are in bound, with what its trailer says
unfoldable pub link_of : Section → Answer Link
link_of s =
    must (in_bound (listed s.subsections)) (chain_fault FileBound 0 0)
    (λ _. elim (told s.trailer) [ None ↦ Err (section_fault BadTrailer s.marked) | Some t ↦ Ok (record { sec = s; says = t }) ])

-- the same of the section at an offset
unfoldable pub link_at : Bytes → ℕ → Answer Link
link_at file off = elim (section_in file off) [ bad f ↦ Err f | ok s e rest ↦ link_of s ]

-- the first revision has nothing before it
unfoldable pub is_first : List Revision → Bool
is_first [] = true
is_first (r ∷ rs) = false

-- the revision that the section at an offset makes behind those of a history
unfoldable pub next_revision : Bytes → List Revision → ℕ → Answer Revision
next_revision file h off = also (link_at file off) (revision file (is_first h) (newest_or blank h).states)

-- whether the subsections may be those of the section
unfoldable pub subs_fit : (oldest : Bool) → List Sub → Bool
subs_fit true ss = one_from_zero ss
subs_fit false ss = true

-- the checks of what a section lists; the answer is the Size
unfoldable pub rows_checked : (fits : Bool) → (off : ℕ) → Told → Listed → List State → Answer ℕ
rows_checked fits off t new old =
    must fits (chain_fault ChainRule off 0)
    (λ _.
    also (slots_fit off t.size new)
    (λ _.
    must (size_is t.size (highest (length old) new) && covered (highest (length old) new) 0 new (length old)) (chain_fault ChainRule off 0)
    (λ _. must (root_fits t.root t.root_gen new old) (chain_fault ChainRule off t.root) (λ _. Ok (highest (length old) new)))))

-- the revision of a section, its Size and the states that it lists
abbrev pub revision_by : Link → ℕ → List (ℕ × State) → List State → Revision
revision_by l n ts old =
    record {
      offset = l.sec.offset;
      end = l.sec.end;
      size = n;
      root = l.says.root;
      root_gen = l.says.root_gen;
      trailer = l.sec.trailer;
      states = overlaid n 0 ts old;
    }
