-- The tables of a file, with the revision that the section at an offset makes.
use Rattle.std.proofs.Common.{◌≡◌, ℕ, suc, ◌+◌, ◌≤◌, Bool, true, false, cond, eqb, List, [], ◌∷◌, ◌++◌, map, length, take, drop, ℤ, Ok, Err, sym, refl, ap, ◌∙◌, arith, length-append, length-drop, eq-eqb, ne_eqb}
use Rattle.std.proofs.lemmas.List.{drop_at, take_all, drop_all, map_push}
use Rattle.faults.specs.declared.fault.Fault.{Fault}
use Rattle.format.specs.Book.{blank, newest_or}
use Rattle.format.specs.Bytes.{Bytes}
use Rattle.format.specs.Chain.{Answer, also}
use Rattle.format.specs.Chain as Chain
use Rattle.format.specs.Objects.{no_entries}
use Rattle.format.specs.Revisions.{State, slots_fit, states_of, one_from_zero, revision, overlaid}
use Rattle.format.specs.Revisions as format
use Rattle.format.specs.Sections.{Sub, listed}
use Rattle.entries.specs.declared.cell.Cell.{Cell}
use Rattle.entries.specs.declared.entry.Row.{Row}
use Rattle.entries.specs.declared.revision.Revision.{Revision}
use Rattle.entries.specs.Cells.{states_in, AllEndBy}
use Rattle.entries.specs.Rows.{rows_of}
use Rattle.entries.specs.Tables.{bare, cells_of, revision_in, Stacked, Within, TablesOf}
use Rattle.opening.specs.Held.{Rows, rows_held}
use Rattle.records.specs.declared.link.Link.{Link}
use Rattle.records.specs.Laid.{laid, states_by}
use Rattle.records.specs.Linked.{told_by, LinkRead}
use Rattle.records.specs.Links.{link_at, is_first, next_revision, subs_fit, rows_checked, revision_by}
use Rattle.records.specs.Objects.{CellsOf}
use Rattle.records.specs.Tabled.{Tabled, last_first, newest_cells, held_as}
use Rattle.records.proofs.Growing.{all_later, laid_ends, laid_states, revisions_kept, within_kept}
use Rattle.records.proofs.Stepping.{revision_by_fact}
use Rattle.records.proofs.Tabling.{stacked_push, small_push}

-- the newest revision, in the tables
record NewestIs (file : Bytes) (h : List format.Revision) (revs : List Revision) (cells : List Cell) : Type 0 where
  pub states : (newest_or blank h).states ≡ states_in file (newest_cells revs cells)
  pub ends : AllEndBy (newest_or blank h).offset (newest_cells revs cells)
  pub first : is_first h ≡ eqb (length revs) 0

-- all the cells from a table's start on are its own, where it is the last
own_cells : (cells : List Cell) (r : Revision) → r.first + r.size ≡ length cells → cells_of cells r ≡ drop r.first cells
own_cells cells r e = take_all r.size (drop r.first cells) (simp length-drop (omega arith))

newest_in : (file : Bytes) (cells : List Cell) (s n : ℕ) (b : format.Revision) (h : List format.Revision) (r : Revision) (rs : List Revision) → map bare h ≡ map (revision_in file cells) (r ∷ rs) → Stacked s (length cells) (r ∷ rs) → Within cells (r ∷ rs) →
    ((newest_or b h).states ≡ states_in file (drop (last_first n (r ∷ rs)) cells)) × AllEndBy (newest_or b h).offset (drop (last_first n (r ∷ rs)) cells)
unfolding newest_or last_first
newest_in file cells s n b [] r rs e k w = absurd (let q = ap length e in omega arith)
newest_in file cells s n b (x ∷ []) r [] e k w =
    let z : bare x ≡ revision_in file cells r = cc in
    let o : x.offset ≡ r.offset = ap (λ (v : format.Revision). v.offset) z in
    let c : cells_of cells r ≡ drop r.first cells = own_cells cells r (omega (arith, k.0, k.1)) in
    (ap (λ (v : format.Revision). v.states) z ∙ ap (states_in file) c, rw (← c, o) w.0)
newest_in file cells s n b (x ∷ []) r (q ∷ rs) e k w = absurd (let z = ap length e in omega arith)
newest_in file cells s n b (x ∷ y ∷ h) r [] e k w = absurd (let z = ap length e in omega arith)
newest_in file cells s n b (x ∷ y ∷ h) r (q ∷ rs) e k w =
    let z : map bare (y ∷ h) ≡ map (revision_in file cells) (q ∷ rs) = cc in
    newest_in file cells (s + r.size) n b (y ∷ h) q rs z k.1 w.1

first_of : (h : List format.Revision) (n : ℕ) → length h ≡ n → is_first h ≡ eqb n 0
unfolding is_first
first_of [] n e = sym (eq-eqb n 0 (omega arith))
first_of (x ∷ h) n e = sym (ne_eqb n 0 (λ z. omega arith))

mapped_length : {A B : Type 0} (f : A → B) (xs : List A) → length (map f xs) ≡ length xs
mapped_length f [] = refl
mapped_length f (x ∷ xs) = ap suc (mapped_length f xs)

pub same_length : (file : Bytes) (h : List format.Revision) (revs : List Revision) (cells : List Cell) → TablesOf file h revs cells → length h ≡ length revs
same_length file h revs cells t = sym (mapped_length bare h) ∙ ap length t.is ∙ mapped_length (revision_in file cells) revs

newest_none : (file : Bytes) (h : List format.Revision) (cells : List Cell) → length h ≡ 0 → 0 ≡ length cells → ((newest_or blank h).states ≡ states_in file (drop (length cells) cells)) × AllEndBy (newest_or blank h).offset (drop (length cells) cells)
unfolding newest_or
newest_none file [] cells e k = let z : drop (length cells) cells ≡ [] = drop_all (length cells) cells (omega arith) in rw z (refl, tt)
newest_none file (x ∷ h) cells e k = absurd (omega arith)

newest_is : (file : Bytes) (h : List format.Revision) (revs : List Revision) (cells : List Cell) → TablesOf file h revs cells → NewestIs file h revs cells
unfolding last_first
newest_is file h [] cells t =
    let l = same_length file h [] cells t in
    let w = newest_none file h cells l t.stacked in
    record { states = w.0; ends = w.1; first = first_of h 0 l }
newest_is file h (r ∷ rs) cells t =
    let l = same_length file h (r ∷ rs) cells t in
    let w = newest_in file cells 0 (length cells) blank h r rs t.is t.stacked t.within in
    record { states = w.0; ends = w.1; first = first_of h (length (r ∷ rs)) l }

-- one revision more
tables_more : (file : Bytes) (h : List format.Revision) (revs after : List Revision) (cells whole : List Cell) → TablesOf file h revs cells → (new : format.Revision) (held : Revision) (more : List Cell) → after ≡ revs ++ held ∷ [] → whole ≡ cells ++ more →
    held.first ≡ length cells → length more ≡ held.size →
    bare new ≡ record { offset = held.offset; end = held.end; size = held.size; root = held.root; root_gen = held.root_generation; trailer = no_entries; states = states_in file more } → AllEndBy held.offset more →
    TablesOf file (h ++ new ∷ []) after whole
tables_more file h revs after cells whole t new held more a w f l b e =
    let c : cells_of (cells ++ more) held ≡ more = ap (λ (n : ℕ). take held.size (drop n (cells ++ more))) f ∙ ap (take held.size) (drop_at cells more (length cells) refl) ∙ take_all held.size more (omega arith) in
    rw (a, w) (record {
      is =
          map_push bare h new
          ∙ ap (λ (xs : List format.Revision). xs ++ bare new ∷ []) (t.is ∙ sym (revisions_kept file cells more 0 revs t.stacked))
          ∙ ap (λ (x : format.Revision). map (revision_in file (cells ++ more)) revs ++ x ∷ []) (b ∙ ap (λ (cs : List Cell). record { offset = held.offset; end = held.end; size = held.size; root = held.root; root_gen = held.root_generation; trailer = no_entries; states = states_in file cs }) (sym c))
          ∙ sym (map_push (revision_in file (cells ++ more)) revs held);
      stacked = (let z : length (cells ++ more) ≡ length cells + held.size = length-append cells more ∙ ap (λ (n : ℕ). length cells + n) l in rw z (stacked_push 0 (length cells) revs held t.stacked f));
      within = within_kept cells more 0 revs held t.stacked t.within (rw c e);
    })

-- whether the subsections may be those of the next section
fits_by : (first : Bool) (ss : List Sub) (one : Bool) → one_from_zero ss ≡ one → cond first one true ≡ subs_fit first ss
unfolding subs_fit
fits_by true ss one e = sym e
fits_by false ss one e = refl

module _ (file : Bytes) (h : List format.Revision) (revs : List Revision) (cells : List Cell) (t : TablesOf file h revs cells) (off : ℕ) where
  pub next_no_link : (f : Fault) → link_at file off ≡ Err f → next_revision file h off ≡ Err f
  unfolding next_revision
  next_no_link f e = rw e refl

  module _ (rows : Rows) (k : Link) (l : LinkRead file off rows k) (fits first : Bool) (listing : List Row) (old : List Cell)
      (f : fits ≡ cond first k.one_from_zero true) (g : first ≡ eqb (length revs) 0) (r : listing ≡ rows_held rows) (o : old ≡ newest_cells revs cells) where
    -- the code's checks are those of the next revision
    checked_is : rows_checked fits k.offset (told_by k.told) (rows_of listing) (states_in file old)
        ≡ rows_checked (subs_fit (is_first h) l.tree.sec.subsections) l.tree.sec.offset l.tree.says (listed l.tree.sec.subsections) (newest_or blank h).states
    checked_is =
        let n = newest_is file h revs cells t in
        let a : fits ≡ subs_fit (is_first h) l.tree.sec.subsections = f ∙ ap (λ (b : Bool). cond b k.one_from_zero true) (g ∙ sym n.first) ∙ fits_by (is_first h) l.tree.sec.subsections k.one_from_zero l.one in
        let b : rows_of listing ≡ listed l.tree.sec.subsections = ap rows_of r ∙ sym l.listing in
        let c : states_in file old ≡ (newest_or blank h).states = ap (states_in file) o ∙ sym n.states in
        let d : told_by k.told ≡ l.tree.says = sym l.says in
        let e : k.offset ≡ l.tree.sec.offset = l.here ∙ sym l.offset in
        (λ i. rows_checked (a i) (e i) (d i) (b i) (c i))

    next_by : next_revision file h off
        ≡ also (rows_checked fits k.offset (told_by k.told) (rows_of listing) (states_in file old))
        (λ n. also (states_of file off (rows_of listing)) (λ ts. Ok (revision_by l.tree n ts (newest_or blank h).states)))
    unfolding next_revision
    next_by =
        let b : listed l.tree.sec.subsections ≡ rows_of listing = l.listing ∙ sym (ap rows_of r) in
        ap (λ (a : Answer Chain.Link). also a (revision file (is_first h) (newest_or blank h).states)) l.is
        ∙ revision_by_fact file (is_first h) (newest_or blank h).states l.tree
        ∙ (λ i. also (sym checked_is i) (λ n. also (states_of file (l.offset i) (b i)) (λ ts. Ok (revision_by l.tree n ts (newest_or blank h).states))))

    pub next_no_rows : (x : Fault) → Err x ≡ rows_checked fits k.offset (told_by k.told) (rows_of listing) (states_in file old) → next_revision file h off ≡ Err x
    next_no_rows x e = next_by ∙ rw (← e) refl

    module _ (n : ℕ) (c : Ok n ≡ rows_checked fits k.offset (told_by k.told) (rows_of listing) (states_in file old)) where
      pub next_no_objects : (x : Fault) → states_of file off (rows_of listing) ≡ Err x → next_revision file h off ≡ Err x
      next_no_objects x e = next_by ∙ rw (← c, e) refl

      next_made : (ts : List (ℕ × State)) → states_of file off (rows_of listing) ≡ Ok ts → next_revision file h off ≡ Ok (revision_by l.tree n ts (newest_or blank h).states)
      next_made ts e = next_by ∙ rw (← c, e) refl

      -- the tables with the revision that was made
      pub revised : (size : ℤ) → slots_fit k.offset size (rows_of listing) ≡ Ok tt → (fresh : List (ℕ × Cell)) → CellsOf file off listing fresh → (after : List Revision) (whole : List Cell) →
          after ≡ revs ++ held_as k n (length cells) ∷ [] → whole ≡ cells ++ laid n 0 fresh (newest_cells revs cells) → length whole ≡ length cells + n → (newest_or blank h).offset ≤ off →
          (new : format.Revision) × (next_revision file h off ≡ Ok new) × (new.offset ≡ off) × TablesOf file (h ++ new ∷ []) after whole
      revised size fit fresh cs after whole a w len later =
          let m = newest_is file h revs cells t in
          let more = laid n 0 fresh (newest_cells revs cells) in
          let held = held_as k n (length cells) in
          let ts = states_by file fresh in
          let long : length more ≡ n = (let q = ap length w ∙ length-append cells more in omega arith) in
          let p : l.tree.sec.offset ≡ k.offset = l.offset ∙ sym l.here in
          let s : l.tree.says ≡ told_by k.told = l.says in
          let z : overlaid n 0 ts (newest_or blank h).states ≡ states_in file more = ap (overlaid n 0 ts) m.states ∙ sym (laid_states file n 0 fresh (newest_cells revs cells)) in
          let b : bare (revision_by l.tree n ts (newest_or blank h).states) ≡ record { offset = held.offset; end = held.end; size = held.size; root = held.root; root_gen = held.root_generation; trailer = no_entries; states = states_in file more } =
          (λ i. record { offset = p i; end = l.ends i; size = n; root = (s i).root; root_gen = (s i).root_gen; trailer = no_entries; states = z i }) in
          let ends : AllEndBy off more = laid_ends off n 0 fresh (newest_cells revs cells) (cs.ends size (rw l.here at fit)) (all_later (newest_or blank h).offset off (newest_cells revs cells) later m.ends) in
          (revision_by l.tree n ts (newest_or blank h).states, next_made ts cs.is, l.offset, tables_more file h revs after cells whole t (revision_by l.tree n ts (newest_or blank h).states) held more a w refl long b (rw l.here ends))

-- what was said of the same rows and cells
pub cells_as : (file : Bytes) (off : ℕ) (rows listing : List Row) (cells : List (ℕ × Cell)) → rows ≡ listing → CellsOf file off rows cells → CellsOf file off listing cells
cells_as file off rows listing cells e c = rw e at c

pub laid_as : (n : ℕ) (fresh new : List (ℕ × Cell)) (old cells whole : List Cell) → fresh ≡ new → whole ≡ cells ++ laid n 0 fresh old → whole ≡ cells ++ laid n 0 new old
laid_as n fresh new old cells whole e w = rw e at w

pub tabled_more : (revs after : List Revision) (cells whole : List Cell) (k : Link) (n : ℕ) → Tabled revs cells → n ≤ 1000 → after ≡ revs ++ held_as k n (length cells) ∷ [] → length whole ≡ length cells + n → Tabled after whole
tabled_more revs after cells whole k n t h a w =
    rw a (record {
      small = small_push revs (held_as k n (length cells)) t.small h;
      stacked = rw w (stacked_push 0 (length cells) revs (held_as k n (length cells)) t.stacked refl);
    })
