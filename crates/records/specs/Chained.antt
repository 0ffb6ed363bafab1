-- The chain of sections, by the offsets of its sections.
use Rattle.std.specs.Prelude.{◌≡◌, ℕ, ◌<◌, ◌≤◌, Bool, true, List, [], ◌∷◌, ◌++◌, length, IfSome, Ok, Err, Option, Result, MatchResult, ◌==◌, nat_le}
use Rattle.faults.specs.declared.fault.Fault.{Fault}
use Rattle.format.specs.Bytes.{Bytes}
use Rattle.format.specs.Chain.{Link, link, walk}
use Rattle.format.specs.Revisions as format
use Rattle.entries.specs.declared.cell.Cell.{Cell}
use Rattle.entries.specs.declared.revision.Revision.{Revision}
use Rattle.entries.specs.Tables.{TablesOf}
use Rattle.records.specs.declared.chain.Ending.{Ending}
use Rattle.records.specs.declared.chain.Ending.TheVariants.{At, By}
use Rattle.records.specs.Links.{link_at}

-- whether a revision may end at a place
abbrev pub may_end : Ending → ℕ → Bool
may_end (At n) e = e == n
may_end (By n) e = nat_le e n

-- a link of the chain was read, with the offset of the one before, which is lower; or its fault
abbrev pub ReadsNext : Bytes → ℕ → Ending → Result (Option ℕ) Fault → Type 0
ReadsNext file off ending r =
    MatchResult r (λ b. ((l : Link) × (link_at file off ≡ Ok l) × (link file off (may_end ending) ≡ Ok (l, b))) × IfSome b (λ p. p < off)) (λ f. link file off (may_end ending) ≡ Err f)

-- The sections at offsets, which are held from the newest on: the oldest first, each one from the place on where the one before it starts, and none below a place.
abbrev pub LinkedFrom : Bytes → ℕ → List Link → List ℕ → Type 0
LinkedFrom file low [] offs = offs ≡ []
LinkedFrom file low (l ∷ ls) offs = (off : ℕ) × (newer : List ℕ) × (offs ≡ newer ++ off ∷ []) × (low ≤ off) × (link_at file off ≡ Ok l) × LinkedFrom file off ls newer

-- the offsets are those of the sections of a walk back from an offset, or its fault
abbrev pub Walked : Bytes → ℕ → Ending → List ℕ → Result (Unit {0}) Fault → Type 0
Walked file off ending offs r =
    MatchResult r (λ _. (ls : List Link) × (walk format.most_revisions file off (may_end ending) [] ≡ Ok ls) × LinkedFrom file 0 ls offs) (λ f. walk format.most_revisions file off (may_end ending) [] ≡ Err f)

-- the tables are those of the revisions that sections make, or the first fault met
abbrev pub RevisionsRead : Bytes → List Link → List Revision → List Cell → Result (Unit {0}) Fault → Type 0
RevisionsRead file ls revisions cells r =
    MatchResult r (λ _. (h : List format.Revision) × (format.revisions file true [] ls ≡ Ok h) × TablesOf file h revisions cells) (λ f. format.revisions file true [] ls ≡ Err f)

-- the tables are those of the file that was opened, and there are so many revisions; or the fault
abbrev pub Opens : Bytes → List Revision → List Cell → Result ℕ Fault → Type 0
Opens file revisions cells r =
    MatchResult r (λ k. (o : format.Opened) × (format.opens file ≡ Ok o) × (k ≡ length o.history) × TablesOf file o.history revisions cells) (λ f. format.opens file ≡ Err f)
