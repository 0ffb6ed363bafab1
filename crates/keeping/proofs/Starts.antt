-- Where the sections of an open file start.
use Rattle.std.proofs.Common.{◌≡◌, ℕ, ◌≤◌, List, [], ◌∷◌, map, length, Ok, ap, arith}
use Rattle.format.specs.Book.{blank, newest_or}
use Rattle.format.specs.Bytes.{Bytes}
use Rattle.format.specs.Revisions as format
use Rattle.format.specs.Revisions.{Opened, opens}
use Rattle.chains.specs.Stated.{Ascending}
use Rattle.chains.proofs.Ends.{ends_ascend}
use Rattle.chains.proofs.Needs.{needed}
use Rattle.chains.proofs.Openings.{newest_opened}
use Rattle.entries.specs.declared.cell.Cell.{Cell}
use Rattle.entries.specs.declared.revision.Revision.{Revision}
use Rattle.entries.specs.Tables.{bare, revision_in}
use Rattle.keeping.specs.Staying.{StartBy, SectionsStartWithin}
use Rattle.keeping.proofs.Parts.{nil_cons, same_head, same_tail}

newest_behind : (r : format.Revision) (h : List format.Revision) → Ascending r.end h → r.end ≤ (newest_or r h).end
unfolding newest_or
newest_behind r [] a = omega arith
newest_behind r (s ∷ h) a =
    let l = a.0 in
    let g = a.1 in
    let u = newest_behind s h a.2 in
    omega arith

starts : (file : Bytes) (cs : List Cell) (low limit : ℕ) (b : format.Revision) (h : List format.Revision) (rs : List Revision) →
    map bare h ≡ map (revision_in file cs) rs → Ascending low h → (newest_or b h).end ≤ limit → StartBy limit rs
unfolding newest_or
starts file cs low limit b h [] e a l = tt
starts file cs low limit b [] (q ∷ rs) e a l = nil_cons e
starts file cs low limit b (r ∷ h) (q ∷ rs) e a l =
    let o : r.offset ≡ q.offset = ap (λ x. x.offset) (same_head e) in
    let g = a.1 in
    let u = newest_behind r h a.2 in
    (omega arith, starts file cs r.end limit r h rs (same_tail e) a.2 l)

-- rows that stand for the revisions of an open file, in whatever file their bodies are
pub rows_start : (file : Bytes) (o : Opened) (bodies : Bytes) (rs : List Revision) (cs : List Cell) → opens file ≡ Ok o →
    map bare o.history ≡ map (revision_in bodies cs) rs → StartBy (length file) rs
rows_start file o bodies rs cs e t =
    let x = ends_ascend needed file o e in
    let n = x.newest_end in
    let w = ap (λ r. r.end) (newest_opened file o e) in
    starts bodies cs 0 (length file) blank o.history rs t x.ascending (omega arith)

pub sections_start : SectionsStartWithin
sections_start file o rs cs e t = rows_start file o file rs cs e t.is
