-- Tables one behind the other.
use Rattle.std.proofs.Common.{◌≡◌, ℕ, suc, ◌+◌, ◌-◌, ◌*◌, ◌<◌, ◌≤◌, List, [], ◌∷◌, ◌++◌, length, get_or, Bor, MatchOption, Option, Some, None, sym, refl, ap, ◌∙◌, arith}
use Rattle.std.specs.Slice.{IsGetResult}
use Rattle.entries.specs.declared.cell.Cell.{Cell}
use Rattle.entries.specs.declared.revision.Revision.{Revision}
use Rattle.entries.specs.Tables.{Stacked}
use Rattle.records.specs.Tabled.{AllSmall, Tabled, last_first}

-- the tables end where they start or later
pub stacked_le : (s n : ℕ) (rs : List Revision) → Stacked s n rs → s ≤ n
stacked_le s n [] k = omega (arith, k)
stacked_le s n (r ∷ rs) k = let h = stacked_le (s + r.size) n rs k.1 in omega arith

-- the newest table starts within the cells, and is not too large
pub last_within : (s n : ℕ) (rs : List Revision) → Stacked s n rs → AllSmall rs → (last_first n rs ≤ n) × (n ≤ last_first n rs + 1000)
unfolding last_first
last_within s n [] k a = (omega arith, omega arith)
last_within s n (r ∷ []) k a = (omega (arith, k.0, k.1), omega (arith, k.0, k.1, a.0))
last_within s n (r ∷ q ∷ rs) k a = last_within (s + r.size) n (q ∷ rs) k.1 a.1

-- the cells are no more than the tables may have
pub stacked_total : (s n : ℕ) (rs : List Revision) → Stacked s n rs → AllSmall rs → n ≤ s + 1000 * length rs
stacked_total s n [] k a = omega arith
stacked_total s n (r ∷ rs) k a = let h = stacked_total (s + r.size) n rs k.1 a.1 in omega (arith, a.0)

-- one table more
pub stacked_push : (s n : ℕ) (rs : List Revision) (r : Revision) → Stacked s n rs → r.first ≡ n → Stacked s (n + r.size) (rs ++ r ∷ [])
stacked_push s n [] r k e = (e ∙ sym k, omega arith)
stacked_push s n (q ∷ rs) r k e = (k.0, stacked_push (s + q.size) n rs r k.1 e)

pub small_push : (rs : List Revision) (r : Revision) → AllSmall rs → r.size ≤ 1000 → AllSmall (rs ++ r ∷ [])
small_push [] r a h = (h, tt)
small_push (q ∷ rs) r a h = (a.0, small_push rs r a.1 h)

-- the last revision's start
last_none : (n : ℕ) (rs : List Revision) → length rs ≡ 0 → last_first n rs ≡ n
unfolding last_first
last_none n [] h = refl
last_none n (r ∷ rs) h = absurd (omega arith)

last_some : (n : ℕ) (rs : List Revision) (d : Revision) → 0 < length rs → last_first n rs ≡ (get_or rs (length rs - 1) d).first
unfolding last_first
last_some n [] d h = absurd (omega arith)
last_some n (r ∷ []) d h = refl
last_some n (r ∷ q ∷ rs) d h =
    let w = last_some n (q ∷ rs) d (omega arith) in
    let e : length (r ∷ q ∷ rs) - 1 ≡ suc (length (q ∷ rs) - 1) = omega arith in
    rw e w

last_read : (n : ℕ) (rs slice : List Revision) (x : Revision) → slice ≡ rs → 0 < length slice → ((d : Revision) → x ≡ get_or slice (length slice - 1) d) → x.first ≡ last_first n rs
last_read n rs slice x e h at = ap (λ (r : Revision). r.first) (at x) ∙ sym (last_some n slice x h) ∙ ap (last_first n) e

pub newest_told : (n len : ℕ) (rs slice : List Revision) (o : Option (Bor Revision)) (k : ℕ) → slice ≡ rs → IsGetResult slice 0 (length slice - 1) o → MatchOption o (k ≡ len) (λ x. k ≡ x.now.first) → len ≡ n → k ≡ last_first n rs
newest_told n len rs slice None k e i m h = m ∙ h ∙ sym (last_none n rs (let l = ap length e in omega (arith, i.3)))
newest_told n len rs slice (Some x) k e i m h = m ∙ last_read n rs slice x.now e i.3.0 i.3.1

-- no tables
pub tabled_none : (rs : List Revision) (cells : List Cell) → rs ≡ [] → cells ≡ [] → Tabled rs cells
tabled_none rs cells e f = rw (e, f) (record { small = tt; stacked = refl })
