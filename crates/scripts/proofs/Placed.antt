-- Changes in memory: their order, and one more.
use Rattle.std.proofs.Common.{◌≡◌, ℕ, suc, ◌^◌, ◌<◌, ◌≤◌, true, false, ◌&&◌, eqb, ltb, leb, List, [], ◌∷◌, is_some, sym, refl, ap, arith}
use Rattle.std.proofs.lemmas.Bool.{eqb-true, ne_eqb, ltb-true, lt-ltb, leb-true, le-leb, and_parts, and_from}
use Rattle.std.specs.BTreeMap.{insert_entry, is_at}
use Rattle.std.specs.Global.{Vec}
use Rattle.std.specs.Map.{lookup}
use Rattle.std.specs.Ordering.{nat_cmp}
use Rattle.format.specs.Acceptable.{Ascends}
use Rattle.format.specs.Revisions.{find}
use Rattle.format.specs.Updates as format
use Rattle.format.specs.Updates.{Update, with_change}
use Rattle.locality.proofs.Cases.{cases}
use Rattle.scripts.specs.declared.change.Change.{Change}
use Rattle.scripts.specs.Rows.{change_of, row_of, rows_of, in_order}
use Rattle.scripts.specs.Theorems.{Spellable}

-- rows in order ascend, and their numbers have at most ten digits
order_parts : (low : ℕ) (r : ℕ × format.Change) (rs : Update) → in_order low (r ∷ rs) ≡ true → (low ≤ r.0) × (r.0 < 10 ^ 10) × (in_order (suc r.0) rs ≡ true)
unfolding in_order
order_parts low r rs e =
    let p = and_parts (leb low r.0 && ltb r.0 10000000000) (in_order (suc r.0) rs) e in
    let q = and_parts (leb low r.0) (ltb r.0 10000000000) p.0 in
    let s = ltb-true r.0 10000000000 q.1 in
    (leb-true low r.0 q.0, omega arith, p.1)

pub order_ascends : (low : ℕ) (u : Update) → in_order low u ≡ true → Ascends low u
order_ascends low [] e = tt
order_ascends low (r ∷ rs) e = let p = order_parts low r rs e in (p.0, order_ascends (suc r.0) rs p.2)

pub order_spellable : (low : ℕ) (u : Update) → in_order low u ≡ true → Spellable u
order_spellable low [] e = tt
order_spellable low (r ∷ rs) e = let p = order_parts low r rs e in (p.1, order_spellable (suc r.0) rs p.2)

-- and the other way round
pub in_order_fact : (low : ℕ) (u : Update) → Ascends low u → Spellable u → in_order low u ≡ true
unfolding in_order
in_order_fact low [] a s = refl
in_order_fact low (r ∷ rs) a s =
    let l = s.0 in
    and_from (leb low r.0 && ltb r.0 10000000000) (in_order (suc r.0) rs)
    (and_from (leb low r.0) (ltb r.0 10000000000) (le-leb low r.0 a.0) (lt-ltb r.0 10000000000 (omega arith)))
    (in_order_fact (suc r.0) rs a.1 s.1)

-- no change yet
pub none_in_order : (rs : List (ℕ × Change (Vec ℕ))) → rs ≡ [] → in_order 0 (rows_of rs) ≡ true
unfolding in_order
none_in_order rs e = rw e refl

-- the change of a number among those in memory
pub found_among : (n : ℕ) (es : List (ℕ × Change (Vec ℕ))) → is_some (lookup (is_at (nat_cmp n)) es) ≡ is_some (find n (rows_of es))
unfolding find
found_among n [] = refl
found_among n (e ∷ es) =
    cases (ltb n e.0)
    (λ a.
    let l = ltb-true n e.0 a in
    let b : eqb n e.0 ≡ false = ne_eqb n e.0 (λ q. omega arith) in
    rw (a, b, find) (found_among n es))
    (λ a. cases (eqb n e.0) (λ b. rw (a, b, find) refl) (λ b. rw (a, b, find) (found_among n es)))

-- a change that is put among those in memory
pub with_entry : (n : ℕ) (c : Change (Vec ℕ)) (es : List (ℕ × Change (Vec ℕ))) → rows_of (insert_entry nat_cmp es n c) ≡ with_change n (change_of c) (rows_of es)
unfolding with_change
with_entry n c [] = refl
with_entry n c (e ∷ es) =
    cases (ltb n e.0)
    (λ a. rw (a, with_change) refl)
    (λ a.
    cases (eqb n e.0)
    (λ b. rw (a, b, with_change) (ap (λ (k : ℕ). (k, change_of c) ∷ rows_of es) (sym (eqb-true n e.0 b))))
    (λ b. rw (a, b, with_change) (ap {B = Update} (λ v. row_of e ∷ v) (with_entry n c es))))
