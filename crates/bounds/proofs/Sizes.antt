-- Sizes stay within 1000, since every listed number is at most 999.
use Rattle.std.proofs.Common.{◌≡◌, ℕ, suc, ◌≤◌, max, Bool, true, false, leb, List, [], ◌∷◌, map, reverse, length, Ok, sym, ap, subst, arith}
use mathlib.Core.List.{reverse_aux}
use Rattle.std.proofs.lemmas.Bool.{and_parts, leb-true}
use Rattle.format.specs.Book.{newest_or}
use Rattle.format.specs.Bytes.{Bytes}
use Rattle.format.specs.Chain.{in_bound, Link}
use Rattle.format.specs.Revisions as format
use Rattle.format.specs.Revisions.{State, highest, revisions, Opened, opens}
use Rattle.format.specs.Sections.{Listed, listed}
use Rattle.chains.proofs.Histories.{revisions_cut}
use Rattle.chains.proofs.Needs.{needed}
use Rattle.chains.proofs.Openings.{opens_chained}
use Rattle.chains.proofs.Steps.{answered}
use Rattle.chains.proofs.Walks.{Chained}
use Rattle.tables.proofs.SoundTables.{Fits, accepted, nil_fits, revision_sound}
use Rattle.entries.specs.declared.cell.Cell.{Cell}
use Rattle.entries.specs.declared.revision.Revision.{Revision}
use Rattle.entries.specs.Tables.{bare, revision_in}
use Rattle.keeping.proofs.Parts.{nil_cons, same_head, same_tail}
use Rattle.records.specs.Tabled.{AllSmall}

highest_small : (m : ℕ) (rows : Listed) → m ≤ 1000 → in_bound rows ≡ true → highest m rows ≤ 1000
unfolding highest in_bound
highest_small m [] h b = h
highest_small m (r ∷ rs) h b =
    let w = and_parts (leb r.0 999) (in_bound rs) b in
    let l = leb-true r.0 999 w.0 in
    highest_small (max m (suc r.0)) rs (omega arith) w.1

-- the numbers of every link are in bound
abbrev AllInBound : List Link → Type 0
AllInBound [] = Unit {0}
AllInBound (l ∷ ls) = (in_bound (listed l.sec.subsections) ≡ true) × AllInBound ls

chained_bound : (file : Bytes) (ks : List Link) (l : Link) (acc : List Link) → Chained file ks l → AllInBound acc → AllInBound (reverse_aux (l ∷ ks) acc)
chained_bound file [] l acc c h = (c.0.bounded, h)
chained_bound file (k ∷ ks) l acc c h = chained_bound file ks k (l ∷ acc) c.0 (c.1.bounded, h)

abbrev pub EachSmall : List format.Revision → Type 0
EachSmall [] = Unit {0}
EachSmall (r ∷ rs) = (r.size ≤ 1000) × EachSmall rs

revisions_small : (file : Bytes) (oldest : Bool) (old : List State) (ls : List Link) (rs : List format.Revision) → Fits old → length old ≤ 1000 → AllInBound ls →
    revisions file oldest old ls ≡ Ok rs → EachSmall rs
unfolding revisions
revisions_small file oldest old [] rs F h b e = subst EachSmall (answered e) tt
revisions_small file oldest old (l ∷ ls) rs F h b e =
    let c = revisions_cut file oldest old l ls rs e in
    let S = revision_sound file oldest old l c.first F c.made in
    let s = ap (λ r. r.size) (accepted file oldest old l c.first c.made).is in
    let n = highest_small (length old) (listed l.sec.subsections) h b.0 in
    let m = S.long in
    subst EachSmall (sym c.is) (omega arith, revisions_small file false c.first.states ls c.others S.fits (omega arith) b.1 c.goes)

-- every Size of a file that opens
pub opened_small : (file : Bytes) (o : Opened) → opens file ≡ Ok o → EachSmall o.history
opened_small file o e =
    let op = opens_chained needed file o e in
    revisions_small file true [] (reverse (op.last ∷ op.older)) o.history nil_fits (omega arith)
    (chained_bound file op.older op.last [] op.chained tt) op.made

pub newest_small : (r : format.Revision) (h : List format.Revision) → r.size ≤ 1000 → EachSmall h → (newest_or r h).size ≤ 1000
unfolding newest_or
newest_small r [] l s = l
newest_small r (q ∷ h) l s = newest_small q h s.0 s.1

-- and of the rows that stand for its revisions
pub rows_small : (file : Bytes) (cs : List Cell) (h : List format.Revision) (rs : List Revision) → map bare h ≡ map (revision_in file cs) rs → EachSmall h → AllSmall rs
rows_small file cs h [] e s = tt
rows_small file cs [] (q ∷ rs) e s = nil_cons e
rows_small file cs (r ∷ h) (q ∷ rs) e s =
    let o : r.size ≡ q.size = ap (λ x. x.size) (same_head e) in
    let u = s.0 in
    (omega arith, rows_small file cs h rs (same_tail e) s.1)
