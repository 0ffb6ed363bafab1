-- The section at an offset, by what was read of it.
use Rattle.std.proofs.Common.{◌≡◌, ℕ, ◌+◌, ◌^◌, ◌<◌, ◌≤◌, true, false, length, take, drop, Some, None, Ok, Err, Option, Result, MatchResult, subst, sym, refl, ap, ◌∙◌, arith, length-take}
use Rattle.faults.specs.declared.reason.Reason.TheVariants.{BadTrailer, FileBound}
use Rattle.faults.specs.declared.fault.Fault.{Fault}
use Rattle.format.specs.Bytes.{Bytes, ok, bad}
use Rattle.format.specs.Sections.{section}
use Rattle.format.specs.Chain.{window_bytes, told, in_bound}
use Rattle.format.specs.Chain as format
use Rattle.format.specs.Failures.{chain_fault, section_fault}
use Rattle.format.specs.Objects.{Entries, no_entries, entries, object_by}
use Rattle.format.specs.Strings.{turns}
use Rattle.opening.specs.declared.section.Section.{Section}
use Rattle.opening.specs.declared.told.Told.{Told}
use Rattle.opening.specs.Held.{Rows, listed_by}
use Rattle.opening.specs.Sections.{SectionRead}
use Rattle.records.specs.Linked.{told_by, LinkRead}
use Rattle.records.specs.Links.{link_at}
use Rattle.records.specs.Trailers.{TrailerSeen, SectionSeen}
use Rattle.records.proofs.Checking.{section_here, link_high, link_untold, link_told}

-- a window is no longer than it may be
pub window_few : (file src : Bytes) (at : ℕ) → src ≡ take window_bytes (drop at file) → length src ≤ window_bytes
window_few file src at w = let q = ap length w ∙ length-take window_bytes (drop at file) in omega arith

-- the reader of the trailer's entries answers this of those in a window
abbrev pub Answers : Bytes → ℕ → Option format.Told → Type 0
Answers src inside t = (es : Entries) (q : ℕ) (ys : Bytes) → entries (object_by 31) turns no_entries inside (drop inside src) ≡ ok es q ys → t ≡ told es

-- what was read of a section in a window, whose bytes it is
pub section_seen : (file : Bytes) (off : ℕ) (src seen : Bytes) (rows : Rows) (r : Result Section Fault) → off ≤ length file → src ≡ take window_bytes (drop off file) → src ≡ seen →
    MatchResult r (λ s. SectionRead off src s rows) (λ f. section off src ≡ bad f) → SectionSeen file off seen rows r
section_seen file off src seen rows (Ok s) h w e k = (h, sym e ∙ w, subst (λ (t : Bytes). SectionRead off t s rows) e k)
section_seen file off src seen rows (Err f) h w e k = section_here file off src h w (bad f) k

module _ (file : Bytes) (off : ℕ) (src : Bytes) (s : Section) (rows : Rows) (h : off ≤ length file) (w : src ≡ take window_bytes (drop off file)) (r : SectionRead off src s rows) where
  pub read_high : in_bound (listed_by rows) ≡ false → link_at file off ≡ Err (chain_fault FileBound 0 0)
  read_high b = link_high file off src h w r.tree _ _ r.is (ap in_bound r.listed ∙ b)

  pub read_untold : (again : Bytes) (t : Option format.Told) → again ≡ src → t ≡ None → Answers again s.inside t → in_bound (listed_by rows) ≡ true → link_at file off ≡ Err (section_fault BadTrailer (off + s.mark))
  read_untold again t e n a b =
      link_untold file off src h w r.tree _ _ r.is (ap in_bound r.listed ∙ b) (sym (a _ _ _ (ap (λ (t : Bytes). entries (object_by 31) turns no_entries s.inside (drop s.inside t)) e ∙ r.trailer)) ∙ n)
      ∙ ap (λ (p : ℕ). Err (section_fault BadTrailer p)) r.marked

  pub read_told : (again : Bytes) (t : Told) → again ≡ src → Answers again s.inside (Some (told_by t)) → in_bound (listed_by rows) ≡ true →
      LinkRead file off rows (record { offset = off; end = off + s.end; one_from_zero = s.one_from_zero; told = t })
  read_told again t e a b = record {
    tree = record { sec = r.tree; says = told_by t };
    is = link_told file off src h w r.tree _ _ r.is (told_by t) (ap in_bound r.listed ∙ b) (sym (a _ _ _ (ap (λ (t : Bytes). entries (object_by 31) turns no_entries s.inside (drop s.inside t)) e ∙ r.trailer)));
    here = refl;
    offset = r.offset;
    ends = r.ends;
    says = refl;
    listing = r.listed;
    one = r.one;
    bound = b;
  }

  -- its places are counted in 64 bits
  pub read_places : off + length src < 2 ^ 64 → (off + s.mark < 2 ^ 64) × (off + s.end < 2 ^ 64)
  read_places k = (omega (arith, r.opens, r.inside, r.within), omega (arith, r.within))

  -- where its trailer's entries stand, in what the window shows
  pub trailer_seen : (seen : Bytes) → seen ≡ src → TrailerSeen file off seen s.inside
  trailer_seen seen e = record {
    sec = r.tree;
    end = _;
    rest = _;
    read = section_here file off src h w _ r.is;
    few = let l = ap length e in let m = window_few file src off w in omega arith;
    within = let l = ap length e in omega (arith, r.inside, r.within);
    closes = r.closes;
    behind = _;
    trailer = ap (λ (t : Bytes). entries (object_by 31) turns no_entries s.inside (drop s.inside t)) e ∙ r.trailer;
  }
