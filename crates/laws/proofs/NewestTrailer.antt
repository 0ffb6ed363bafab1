-- The trailer of the newest revision of a file that opens: its entries can be written again, and it says Root.
use Rattle.std.proofs.Common.{◌≡◌, ℕ, ◌+◌, ◌≤◌, Bool, true, false, leb, List, [], ◌∷◌, ◌++◌, reverse, length, take, drop, Some, None, Ok, codes, Option, sym, ap, ◌∙◌, subst, arith, length-append, length-take}
use mathlib.Core.List.{reverse-cons}
use Rattle.format.specs.Book.{newest_or, newest, blank}
use Rattle.format.specs.Bytes.{Bytes, ok, then}
use Rattle.format.specs.Chain.{Told, told, Link, window_bytes, section_in}
use Rattle.format.specs.Lines.{placed, exact, exact_line}
use Rattle.format.specs.Objects.{Entries, no_entries, entries, object_by}
use Rattle.format.specs.Revisions.{State, Revision, revision, revisions, Opened, opens}
use Rattle.format.specs.Sections.{all_subs, no_dict, trailer_at, tail, Section, section}
use Rattle.format.specs.Space.{skip}
use Rattle.format.specs.Strings.{turns}
use Rattle.format.specs.Tokens.{Kind, int, real, name, text, hex, mark, word, ended, flawed, token_at}
use Rattle.chains.proofs.Histories.{revisions_cut}
use Rattle.chains.proofs.Needs.{needed}
use Rattle.chains.proofs.Openings.{Opening, opens_chained, newest_opened}
use Rattle.chains.proofs.Steps.{answered, never_reading}
use Rattle.chains.proofs.Walks.{Read, chained_reads}
use Rattle.locality.specs.Locality.{Good}
use Rattle.locality.specs.LocalityTrailers.{FitEntries, entry_count}
use Rattle.locality.proofs.Fits.{entries_fit}
use Rattle.locality.proofs.Tokens.{tokens_are_local}
use Rattle.sections.proofs.LinesLocal.{exact_local, exact_line_local}
use Rattle.sections.proofs.Local.{then_ok, placed_ok}
use Rattle.sections.proofs.SectionLocal.{all_subs_local}
use Rattle.tables.proofs.SoundTables.{Accepted, accepted}
use Rattle.locality.proofs.Cases.{cases, cases_o}

-- what is left behind a front is no longer
rest_shorter : (xs pre rest : Bytes) → xs ≡ pre ++ rest → length rest ≤ length xs
rest_shorter xs pre rest e = let a = ap length e in let b = length-append pre rest in omega arith

some_none : {A P : Type 0} {a : A} → ◌≡◌ {A = Option A} (Some a) None → P
some_none e = let z : ◌≡◌ {A = ℕ} 0 1 = cc in absurd (omega arith)

-- a token that is the mark of a dictionary is a token
mark_good : (p : ℕ) (k : Kind) → no_dict p k ≡ None → Good k
unfolding no_dict Good
mark_good p (int u z) e = tt
mark_good p (real w) e = tt
mark_good p (name d) e = tt
mark_good p (text w) e = tt
mark_good p (hex w) e = tt
mark_good p (mark m) e = tt
mark_good p (word w) e = tt
mark_good p ended e = some_none e
mark_good p (flawed f) e = some_none e

-- entries that can be written again, and are at most so many
abbrev pub FitWithin : Entries → ℕ → Type 0
FitWithin es n = FitEntries es × (entry_count es ≤ n)

-- a trailer that was read
trailer_fits : (p : ℕ) (xs : Bytes) (t : ℕ × Entries) (q : ℕ) (rest : Bytes) → trailer_at (token_at p xs) ≡ ok t q rest → FitWithin t.1 (length xs)
unfolding trailer_at
trailer_fits p xs t q rest h =
    cases_o (no_dict (token_at p xs).from (token_at p xs).kind)
    (λ n. go (mark_good (token_at p xs).from (token_at p xs).kind n) (rw (n, trailer_at) at h))
    (λ f n. never_reading (rw (n, trailer_at) at h))
  where
    go : Good (token_at p xs).kind →
        then (entries (object_by 31) turns no_entries (token_at p xs).to (token_at p xs).rest) (λ es q ys. ok ((token_at p xs).from, es) q ys) ≡ ok t q rest → FitWithin t.1 (length xs)
    go g e =
        let l = tokens_are_local p xs g in
        let m = l.taken.parts in
        let a = ap length m in
        let b = length-append l.taken.gap (l.taken.core ++ (token_at p xs).rest) in
        let c = length-append l.taken.core (token_at p xs).rest in
        then_ok (entries (object_by 31) turns no_entries (token_at p xs).to (token_at p xs).rest) _ e
        (λ es p₁ xs₁ d f.
        let k : ◌≡◌ {A = ℕ × Entries} ((token_at p xs).from, es) t = cc in
        let w = entries_fit turns (token_at p xs).to (token_at p xs).rest es p₁ xs₁ d in
        let n = w.1 in
        subst (λ z. FitWithin z.1 (length xs)) k (w.0, omega arith))

-- the trailer of a section that was read
pub section_fits : (off : ℕ) (xs : Bytes) (s : Section) (e : ℕ) (rest : Bytes) → section off xs ≡ ok s e rest → FitWithin s.trailer (length xs)
unfolding section
section_fits off xs s e rest h =
    then_ok (placed off xs (exact_line (codes "xref") off xs)) _ h
    (λ u p₁ xs₁ a h₁.
    then_ok (all_subs p₁ xs₁) _ h₁
    (λ ss p₂ xs₂ b h₂.
    then_ok (placed p₂ xs₂ (exact (codes "trailer") p₂ xs₂)) _ h₂
    (λ v p₃ xs₃ c h₃.
    then_ok (trailer_at (token_at p₃ xs₃)) _ h₃
    (λ t p₄ xs₄ d h₄.
    then_ok (tail off (skip false p₄ xs₄).0 (skip false p₄ xs₄).1) _ h₄
    (λ w p₅ xs₅ f h₅.
    let l₁ = exact_line_local (codes "xref") off xs u p₁ xs₁ (placed_ok off xs (exact_line (codes "xref") off xs) a) in
    let l₂ = all_subs_local p₁ xs₁ ss p₂ xs₂ b in
    let l₃ = exact_local (codes "trailer") p₂ xs₂ v p₃ xs₃ (placed_ok p₂ xs₂ (exact (codes "trailer") p₂ xs₂) c) in
    let n₁ = rest_shorter xs l₁.pre xs₁ l₁.parts in
    let n₂ = rest_shorter xs₁ l₂.pre xs₂ l₂.parts in
    let n₃ = rest_shorter xs₂ l₃.pre xs₃ l₃.parts in
    let z = trailer_fits p₃ xs₃ t p₄ xs₄ d in
    let n₄ = z.1 in
    let k : ◌≡◌ {A = Section} (record { offset = off; end = p₅; subsections = ss; marked = t.0; trailer = t.1 }) s = cc in
    subst (λ x. FitWithin x.trailer (length xs)) k (z.0, omega arith))))))

-- the trailer of a section in a file
pub window_fits : (file : Bytes) (off : ℕ) (s : Section) (e : ℕ) (rest : Bytes) → section_in file off ≡ ok s e rest → FitWithin s.trailer window_bytes
unfolding section_in
window_fits file off s e rest h =
    cases (leb off (length file))
    (λ b.
    let w = section_fits off (take window_bytes (drop off file)) s e rest (rw (b, section_in) at h) in
    let n = w.1 in
    let m = length-take window_bytes (drop off file) in
    (w.0, omega arith))
    (λ b. never_reading (rw (b, section_in) at h))

-- the newest of the revisions is made of the last link
pub last_made : (file : Bytes) (oldest : Bool) (old : List State) (xs : List Link) (l : Link) (q : Revision) (rs : List Revision) → revisions file oldest old (xs ++ (l ∷ [])) ≡ Ok rs →
    (b : Bool) × (ss : List State) × (revision file b ss l ≡ Ok (newest_or q rs))
unfolding revisions newest_or
last_made file oldest old [] l q rs h =
    let c = revisions_cut file oldest old l [] rs h in
    let z : [] ≡ c.others = answered c.goes in
    let y : rs ≡ c.first ∷ [] = c.is ∙ ap {B = List Revision} (λ x. c.first ∷ x) (sym z) in
    (oldest, old, c.made ∙ ap (λ x. Ok (newest_or q x)) (sym y))
last_made file oldest old (x ∷ xs) l q rs h =
    let c = revisions_cut file oldest old x (xs ++ (l ∷ [])) rs h in
    let w = last_made file false c.first.states xs l c.first c.others c.goes in
    (w.0, w.1, w.2 ∙ ap (λ z. Ok (newest_or q z)) (sym c.is))

-- what is known of a revision's trailer: it can be written again, and says the revision's Root
pub record Trailing (r : Revision) : Type 0 where
  pub fit : FitEntries r.trailer
  pub few : entry_count r.trailer + 3 ≤ turns
  pub says : Told
  pub telling : told r.trailer ≡ Some says
  pub root : (says.root ≡ r.root) × (says.root_gen ≡ r.root_gen)

made_trailing : (file : Bytes) (old : List State) (l : Link) (r : Revision) → Accepted file old l r → Read file l → Trailing r
made_trailing file old l r a read =
    let f = window_fits file l.sec.offset l.sec l.sec.end read.rest read.read in
    let n = f.1 in
    let e : r.trailer ≡ l.sec.trailer = ap (λ x. x.trailer) a.is in
    record {
      fit = subst FitEntries (sym e) f.0;
      few = let k = ap entry_count e in omega arith;
      says = l.says;
      telling = ap told e ∙ read.telling;
      root = (ap (λ x. x.root) (sym a.is), ap (λ x. x.root_gen) (sym a.is));
    }

-- the trailer of the newest revision
pub newest_trailing : (file : Bytes) (o : Opened) → opens file ≡ Ok o → Trailing (newest file)
newest_trailing file o h = go (opens_chained needed file o h)
  where
    go : Opening file o → Trailing (newest file)
    go op =
        let w =
        last_made file true [] (reverse op.older) op.last blank o.history (subst (λ xs. revisions file true [] xs ≡ Ok o.history) (reverse-cons op.last op.older) op.made) in
        subst Trailing (sym (newest_opened file o h))
        (made_trailing file w.1 op.last (newest_or blank o.history) (accepted file w.0 w.1 op.last (newest_or blank o.history) w.2) (chained_reads file op.older op.last op.chained))
