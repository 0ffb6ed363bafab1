-- What a book keeps true has one proof at most, as the invariant of a type must.
use Rattle.std.specs.Prelude.{◌≡◌, ℕ, suc, ◌+◌, ◌⊎◌, List, [], ◌∷◌, map, length, Some, None, Option, Ok, Err, Result}
use Rattle.std.specs.Coded.{×_prop, →_prop, Unit-prop, le_prop, Coded, Coded-set, coded_ℕ, coded_bool, coded_list, coded×, coded⊎, code_by}
use mathlib.Core.Logic.{inl, inr}
use mathlib.Core.Path.{refl, sym, ap, subst, ◌∙◌, path_j, path_j', ∙_sym}
use mathlib.Core.HLevel.{⊥_prop, is_prop→PathP}
use Rattle.format.specs.Acceptable.{Acceptable, Ascends, Allowed, EachAllowed}
use Rattle.format.specs.Book.{Phase, shut, standing, updating, newest}
use Rattle.format.specs.Bytes.{Bytes}
use Rattle.format.specs.Frames.{body_fault}
use Rattle.format.specs.Objects.{Entries, no_entries, more_entries}
use Rattle.format.specs.Revisions as format
use Rattle.format.specs.Revisions.{State, used, free, opens}
use Rattle.format.specs.Updates.{Change, body, removed, Update}
use Rattle.format.specs.Writing.{new_size}
use Rattle.entries.specs.Cells.{EndsBy, AllEndBy}
use Rattle.entries.specs.Tables.{bare, cells_of, revision_in, Stacked, Within, TablesOf}
use Rattle.entries.specs.declared.cell.Cell.{Cell}
use Rattle.entries.specs.declared.cell.Cell.TheVariants.{Used, Free}
use Rattle.entries.specs.declared.revision.Revision.{Revision}
use Rattle.keeping.specs.Standing.{Stands, SoundIn}

-- an equation with x has one proof at most, where a fact that has one at most says as much
module _ {A : Type 0} (x : A) (Is : A → Type 0) (single : (y : A) → IsProp (Is y)) (same : Is x) (from : (y : A) → Is y → y ≡ x) where
  abbrev by_fact : (y : A) → y ≡ x → y ≡ x
  by_fact y p = from y (subst Is (sym p) same)

  straight : (y : A) (p : y ≡ x) → by_fact y p ∙ sym (by_fact x refl) ≡ p
  straight y p = path_j' (λ z q. by_fact z q ∙ sym (by_fact x refl) ≡ q) (∙_sym (by_fact x refl)) p

  pub equation-prop : (y : A) → IsProp (y ≡ x)
  equation-prop y p q = sym (straight y p) ∙ ap (λ e. from y e ∙ sym (by_fact x refl)) (single y (subst Is (sym p) same) (subst Is (sym q) same)) ∙ straight y q

-- an answer accepts one value at most
module _ {A E : Type 0} where
  abbrev pub Accepts : Result A E → Type 0
  Accepts r = (v : A) × (r ≡ Ok v)

  abbrev Lands : (v : A) (r : Result A E) → Ok v ≡ r → Type 0
  Lands v (Ok w) q = ◌≡◌ {A = Accepts (Ok v)} (v, refl) (w, q)
  Lands v (Err e) q = Unit {0}

  lands : (v : A) (r : Result A E) (q : Ok v ≡ r) → Lands v r q
  lands v r q = path_j (Lands v) refl q

  abbrev IsErr : Result A E → Type 0
  IsErr (Ok v) = ⊥
  IsErr (Err e) = Unit {0}

  pub Accepts-prop : (r : Result A E) → IsProp (Accepts r)
  Accepts-prop (Ok v) x y = sym (lands v (Ok x.0) x.1) ∙ lands v (Ok y.0) y.1
  Accepts-prop (Err e) x y = absurd (subst IsErr x.1 tt)

-- nothing is there
abbrev IsNone : {A : Type 0} → Option A → Type 0
IsNone None = Unit {0}
IsNone (Some x) = ⊥

IsNone-prop : {A : Type 0} (o : Option A) → IsProp (IsNone o)
IsNone-prop None = Unit-prop
IsNone-prop (Some x) = ⊥_prop

none_from : {A : Type 0} (o : Option A) → IsNone o → o ≡ None
none_from None h = refl
none_from (Some x) h = absurd h

none-prop : {A : Type 0} (o : Option A) → IsProp (o ≡ None)
none-prop o = equation-prop None IsNone IsNone-prop tt none_from o

-- the states of a revision's numbers
abbrev parts_of : State → (ℕ × List ℕ) ⊎ (ℕ × ℕ)
parts_of (used g b) = inl (g, b)
parts_of (free g n) = inr (g, n)

abbrev state_of : (ℕ × List ℕ) ⊎ (ℕ × ℕ) → State
state_of (inl p) = used p.0 p.1
state_of (inr p) = free p.0 p.1

state_back : (s : State) → state_of (parts_of s) ≡ s
state_back (used g b) = refl
state_back (free g n) = refl

abbrev coded_state : Coded State
coded_state = code_by ((ℕ × List ℕ) ⊎ (ℕ × ℕ)) (coded⊎ (coded× coded_ℕ (coded_list coded_ℕ)) (coded× coded_ℕ coded_ℕ)) parts_of state_of state_back

-- a trailer's entries that are none
abbrev IsBare : Entries → Type 0
IsBare no_entries = Unit {0}
IsBare (more_entries j k v o es) = ⊥

IsBare-prop : (es : Entries) → IsProp (IsBare es)
IsBare-prop no_entries = Unit-prop
IsBare-prop (more_entries j k v o es) = ⊥_prop

bare_from : (es : Entries) → IsBare es → es ≡ no_entries
bare_from no_entries h = refl
bare_from (more_entries j k v o es) h = absurd h

-- a revision with no entries that has the figures and the states of another
abbrev Figures : format.Revision → format.Revision → Type 0
Figures q y = (y.offset ≡ q.offset) × (y.end ≡ q.end) × (y.size ≡ q.size) × (y.root ≡ q.root) × (y.root_gen ≡ q.root_gen) × IsBare y.trailer × (y.states ≡ q.states)

Figures-prop : (q y : format.Revision) → IsProp (Figures q y)
Figures-prop q y f g = λ i. (
  Coded-set coded_ℕ y.offset q.offset f.0 g.0 i,
  Coded-set coded_ℕ y.end q.end f.1 g.1 i,
  Coded-set coded_ℕ y.size q.size f.2 g.2 i,
  Coded-set coded_ℕ y.root q.root f.3 g.3 i,
  Coded-set coded_ℕ y.root_gen q.root_gen f.4 g.4 i,
  IsBare-prop y.trailer f.5 g.5 i,
  Coded-set (coded_list coded_state) y.states q.states f.6 g.6 i,
)

-- what rows stand for, row by row
module _ (file : Bytes) (cells : List Cell) where
  abbrev AreFigures : List Revision → List format.Revision → Type 0
  AreFigures [] [] = Unit {0}
  AreFigures [] (y ∷ ys) = ⊥
  AreFigures (r ∷ rs) [] = ⊥
  AreFigures (r ∷ rs) (y ∷ ys) = Figures (revision_in file cells r) y × AreFigures rs ys

  AreFigures-prop : (rs : List Revision) (ys : List format.Revision) → IsProp (AreFigures rs ys)
  AreFigures-prop [] [] = Unit-prop
  AreFigures-prop [] (y ∷ ys) = ⊥_prop
  AreFigures-prop (r ∷ rs) [] = ⊥_prop
  AreFigures-prop (r ∷ rs) (y ∷ ys) = ×_prop (Figures-prop (revision_in file cells r) y) (AreFigures-prop rs ys)

  figures_same : (rs : List Revision) → AreFigures rs (map (revision_in file cells) rs)
  figures_same [] = tt
  figures_same (r ∷ rs) = ((refl, refl, refl, refl, refl, tt, refl), figures_same rs)

  figures_from_one : (r : Revision) (y : format.Revision) → Figures (revision_in file cells r) y → y ≡ revision_in file cells r
  figures_from_one r y f = λ i. record {
    offset = f.0 i;
    end = f.1 i;
    size = f.2 i;
    root = f.3 i;
    root_gen = f.4 i;
    trailer = bare_from y.trailer f.5 i;
    states = f.6 i;
  }

  figures_from : (rs : List Revision) (ys : List format.Revision) → AreFigures rs ys → ys ≡ map (revision_in file cells) rs
  figures_from [] [] h = refl
  figures_from [] (y ∷ ys) h = absurd h
  figures_from (r ∷ rs) [] h = absurd h
  figures_from (r ∷ rs) (y ∷ ys) h = λ i. figures_from_one r y h.0 i ∷ figures_from rs ys h.1 i

-- the tables
Stacked-prop : (start end : ℕ) (rs : List Revision) → IsProp (Stacked start end rs)
Stacked-prop start end [] = Coded-set coded_ℕ start end
Stacked-prop start end (r ∷ rs) = ×_prop (Coded-set coded_ℕ r.first start) (Stacked-prop (start + r.size) end rs)

EndsBy-prop : (limit : ℕ) (c : Cell) → IsProp (EndsBy limit c)
EndsBy-prop limit (Used g s e) = ×_prop le_prop le_prop
EndsBy-prop limit (Free g n) = Unit-prop

AllEndBy-prop : (limit : ℕ) (cs : List Cell) → IsProp (AllEndBy limit cs)
AllEndBy-prop limit [] = Unit-prop
AllEndBy-prop limit (c ∷ cs) = ×_prop (EndsBy-prop limit c) (AllEndBy-prop limit cs)

Within-prop : (cells : List Cell) (rs : List Revision) → IsProp (Within cells rs)
Within-prop cells [] = Unit-prop
Within-prop cells (r ∷ rs) = ×_prop (AllEndBy-prop r.offset (cells_of cells r)) (Within-prop cells rs)

TablesOf-prop : (file : Bytes) (history : List format.Revision) (rs : List Revision) (cs : List Cell) → IsProp (TablesOf file history rs cs)
TablesOf-prop file history rs cs a b = λ i. record {
  is = equation-prop (map (revision_in file cs) rs) (AreFigures file cs rs) (AreFigures-prop file cs rs) (figures_same file cs rs) (figures_from file cs rs) (map bare history) a.is b.is i;
  stacked = Stacked-prop 0 (length cs) rs a.stacked b.stacked i;
  within = Within-prop cs rs a.within b.within i;
}

Stands-prop : (file : Bytes) (rs : List Revision) (cs : List Cell) → IsProp (Stands file rs cs)
Stands-prop file rs cs a b =
    let e = Accepts-prop (opens file) (a.opened, a.accepted) (b.opened, b.accepted) in
    λ i. record {
      opened = (e i).0;
      accepted = (e i).1;
      tables = is_prop→PathP (λ j. TablesOf file ((e j).0).history rs cs) (λ j. TablesOf-prop file ((e j).0).history rs cs) a.tables b.tables i;
    }

-- an update that may be open
Ascends-prop : (low : ℕ) (u : Update) → IsProp (Ascends low u)
Ascends-prop low [] = Unit-prop
Ascends-prop low (c ∷ cs) = ×_prop le_prop (Ascends-prop (suc c.0) cs)

Allowed-prop : (r : format.Revision) (size n : ℕ) (c : Change) → IsProp (Allowed r size n c)
Allowed-prop r size n (body b) = λ f g i. (le_prop f.0 g.0 i, le_prop f.1 g.1 i, Coded-set coded_bool _ _ f.2 g.2 i, none-prop (body_fault b) f.3 g.3 i)
Allowed-prop r size n removed = ×_prop (Coded-set coded_bool _ _) (→_prop ⊥_prop)

EachAllowed-prop : (r : format.Revision) (size : ℕ) (u : Update) → IsProp (EachAllowed r size u)
EachAllowed-prop r size [] = Unit-prop
EachAllowed-prop r size (c ∷ cs) = ×_prop (Allowed-prop r size c.0 c.1) (EachAllowed-prop r size cs)

Acceptable-prop : (r : format.Revision) (u : Update) → IsProp (Acceptable r u)
Acceptable-prop r u a b = λ i. record {
  ascends = Ascends-prop 0 u a.ascends b.ascends i;
  allowed = EachAllowed-prop r (new_size r u) u a.allowed b.allowed i;
  few = le_prop a.few b.few i;
  small = le_prop a.small b.small i;
}

pub SoundIn-prop : (p : Phase) (file : Bytes) (rs : List Revision) (cs : List Cell) → IsProp (SoundIn p file rs cs)
SoundIn-prop shut file rs cs = Unit-prop
SoundIn-prop standing file rs cs = Stands-prop file rs cs
SoundIn-prop (updating u) file rs cs = ×_prop (Stands-prop file rs cs) (Acceptable-prop (newest file) u)
