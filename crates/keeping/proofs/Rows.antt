-- Rows over files whose first bytes are the same, and over cells whose first ones are.
use Rattle.std.proofs.Common.{◌≡◌, ℕ, zero, suc, ◌+◌, ◌-◌, ◌<◌, ◌≤◌, List, [], ◌∷◌, ◌++◌, map, length, get_or, take, sym, refl, ap, ◌∙◌, subst, arith}
use Rattle.format.specs.Bytes.{Bytes}
use Rattle.format.specs.Revisions.{State, used}
use Rattle.format.specs.Objects.{no_entries}
use Rattle.entries.specs.declared.cell.Cell.{Cell}
use Rattle.entries.specs.declared.cell.Cell.TheVariants.{Used, Free}
use Rattle.entries.specs.declared.revision.Revision.{Revision}
use Rattle.entries.specs.Cells.{state_in, states_in, EndsBy, AllEndBy}
use Rattle.entries.specs.Tables.{cells_of, revision_in, Stacked, Within}
use Rattle.keeping.specs.Staying.{StartBy}
use Rattle.keeping.proofs.Parts.{part_alike}

module _ (file file' : Bytes) (m : ℕ) (same : take m file ≡ take m file') where
  state_alike : (limit : ℕ) (c : Cell) → limit ≤ m → EndsBy limit c → state_in file c ≡ state_in file' c
  state_alike limit (Used g s e) l h = let a = h.0 in let b = h.1 in ap {B = State} (λ bs. used g bs) (part_alike file file' m same s (e - s) (omega arith))
  state_alike limit (Free g n) l h = refl

  -- the states of cells whose bodies end within the first bytes
  pub states_alike : (limit : ℕ) (cs : List Cell) → limit ≤ m → AllEndBy limit cs → states_in file cs ≡ states_in file' cs
  states_alike limit [] l h = refl
  states_alike limit (c ∷ cs) l h =
      let a = state_alike limit c l h.0 in
      let b = states_alike limit cs l h.1 in
      λ i. a i ∷ b i

  -- the revisions of rows whose sections start there
  pub rows_over : (cs : List Cell) (rs : List Revision) → StartBy m rs → Within cs rs → map (revision_in file cs) rs ≡ map (revision_in file' cs) rs
  rows_over cs [] b w = refl
  rows_over cs (r ∷ rs) b w =
      let e = states_alike r.offset (cells_of cs r) b.0 w.0 in
      let f = rows_over cs rs b.1 w.1 in
      λ i. record { offset = r.offset; end = r.end; size = r.size; root = r.root; root_gen = r.root_generation; trailer = no_entries; states = e i } ∷ f i

-- the cells of a stack end behind its start
pub stacked_rises : (a b : ℕ) (rs : List Revision) → Stacked a b rs → a ≤ b
stacked_rises a b [] s = omega arith
stacked_rises a b (r ∷ rs) s = let u = stacked_rises (a + r.size) b rs s.1 in omega arith

module _ (cs cs' : List Cell) (b : ℕ) (same : take b cs ≡ take b cs') where
  cells_alike : (r : Revision) → r.first + r.size ≤ b → cells_of cs r ≡ cells_of cs' r
  cells_alike r h = part_alike cs cs' b same r.first r.size (omega arith)

  first_row : (a : ℕ) (r : Revision) (rs : List Revision) → Stacked a b (r ∷ rs) → r.first + r.size ≤ b
  first_row a r rs s = let u = stacked_rises (a + r.size) b rs s.1 in let f = s.0 in omega arith

  -- the bodies of a stack within the first cells
  pub within_alike : (a : ℕ) (rs : List Revision) → Stacked a b rs → Within cs rs → Within cs' rs
  within_alike a [] s w = tt
  within_alike a (r ∷ rs) s w =
      (subst (AllEndBy r.offset) (cells_alike r (first_row a r rs s)) w.0, within_alike (a + r.size) rs s.1 w.1)

  -- the revisions of such a stack
  pub rows_with : (file : Bytes) (a : ℕ) (rs : List Revision) → Stacked a b rs → map (revision_in file cs) rs ≡ map (revision_in file cs') rs
  rows_with file a [] s = refl
  rows_with file a (r ∷ rs) s =
      let e = ap (states_in file) (cells_alike r (first_row a r rs s)) in
      let f = rows_with file (a + r.size) rs s.1 in
      λ i. record { offset = r.offset; end = r.end; size = r.size; root = r.root; root_gen = r.root_generation; trailer = no_entries; states = e i } ∷ f i

-- one more row on a stack
pub stacked_more : (a b e : ℕ) (rs : List Revision) (q : Revision) → Stacked a b rs → q.first ≡ b → b + q.size ≡ e → Stacked a e (rs ++ (q ∷ []))
stacked_more a b e [] q s f z = (f ∙ sym s, ap (λ n. n + q.size) s ∙ z)
stacked_more a b e (r ∷ rs) q s f z = (s.0, stacked_more (a + r.size) b e rs q s.1 f z)

pub within_more : (cs : List Cell) (rs : List Revision) (q : Revision) → Within cs rs → AllEndBy q.offset (cells_of cs q) → Within cs (rs ++ (q ∷ []))
within_more cs [] q w h = (h, tt)
within_more cs (r ∷ rs) q w h = (w.0, within_more cs rs q w.1 h)

-- the first rows
pub within_first : (cs : List Cell) (k : ℕ) (rs : List Revision) → Within cs rs → Within cs (take k rs)
within_first cs zero rs w = tt
within_first cs (suc k) [] w = tt
within_first cs (suc k) (r ∷ rs) w = (w.0, within_first cs k rs w.1)

pub stacked_first : (a b : ℕ) (rs : List Revision) (i : ℕ) (q : Revision) → Stacked a b rs → i < length rs → q ≡ get_or rs i q → Stacked a (q.first + q.size) (take (suc i) rs)
stacked_first a b [] i q s l h = absurd (omega arith)
stacked_first a b (r ∷ rs) zero q s l h = (s.0, let f = s.0 in let u = ap (λ x. x.first) h in let v = ap (λ x. x.size) h in omega arith)
stacked_first a b (r ∷ rs) (suc i) q s l h = (s.0, stacked_first (a + r.size) b rs i q s.1 (omega arith) h)

-- where a row's cells end, and its bodies
pub row_ends : (a b : ℕ) (rs : List Revision) (i : ℕ) (q : Revision) → Stacked a b rs → i < length rs → q ≡ get_or rs i q → q.first + q.size ≤ b
row_ends a b [] i q s l h = absurd (omega arith)
row_ends a b (r ∷ rs) zero q s l h =
    let f = s.0 in
    let u = ap (λ x. x.first) h in
    let v = ap (λ x. x.size) h in
    let w = stacked_rises (a + r.size) b rs s.1 in
    omega arith
row_ends a b (r ∷ rs) (suc i) q s l h = row_ends (a + r.size) b rs i q s.1 (omega arith) h

pub row_before : (cs : List Cell) (rs : List Revision) (i : ℕ) (q : Revision) → Within cs rs → i < length rs → q ≡ get_or rs i q → AllEndBy q.offset (cells_of cs q)
row_before cs [] i q w l h = absurd (omega arith)
row_before cs (r ∷ rs) zero q w l h = subst (λ x. AllEndBy x.offset (cells_of cs x)) (sym h) w.0
row_before cs (r ∷ rs) (suc i) q w l h = row_before cs rs i q w.1 (omega arith) h
