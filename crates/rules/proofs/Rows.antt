-- The rows of a section ascend, so that each number that it lists is found.
use Rattle.std.proofs.Common.{◌≡◌, ℕ, zero, suc, ◌+◌, ◌≤◌, eqb, List, [], ◌∷◌, ◌++◌, length, Some, None, Option, sym, ap, ◌∙◌, arith, eqb-true}
use borrow.Author.Tests.{eqb-false}
use Rattle.format.specs.Bytes.{Bytes}
use Rattle.format.specs.Lines.{Slot}
use Rattle.format.specs.Revisions.{find, nth}
use Rattle.format.specs.Sections.{Listed, Sub, listed, Section}
use Rattle.locality.proofs.Cases.{cases, cases_o}
use Rattle.tables.proofs.Finds.{some_none, find_here, find_past}
use Rattle.rules.specs.Forms.{RowBytes, SubsBytes}
use Rattle.rules.specs.Sections.{SectionAt, rows}

-- numbers ascend, from `low` up
abbrev pub Rising : ℕ → Listed → Type 0
Rising low [] = Unit {0}
Rising low (r ∷ rs) = (low ≤ r.0) × Rising (suc r.0) rs

pub rising_from : (low mid : ℕ) (rs : Listed) → low ≤ mid → Rising mid rs → Rising low rs
rising_from low mid [] h a = tt
rising_from low mid (r ∷ rs) h a = (let k : mid ≤ r.0 = a.0 in omega arith, a.1)

-- what is listed, from `low` up, is not below it
pub rising_above : (low : ℕ) (rs : Listed) → Rising low rs → (i n : ℕ) (e : Slot) → nth i rs ≡ Some (n, e) → low ≤ n
unfolding nth
rising_above low [] a zero n e h = some_none (sym h)
rising_above low [] a (suc i) n e h = some_none (sym h)
rising_above low (r ∷ rs) a zero n e h =
    let q : r ≡ (n, e) = cc in
    let v : r.0 ≡ n = ap (λ (z : ℕ × Slot). z.0) q in
    let k : low ≤ r.0 = a.0 in
    omega arith
rising_above low (r ∷ rs) a (suc i) n e h = let k : low ≤ r.0 = a.0 in let m = rising_above (suc r.0) rs a.1 i n e h in omega arith

-- a number that is listed is found with its entry
pub listed_found : (low : ℕ) (rs : Listed) → Rising low rs → (i n : ℕ) (e : Slot) → nth i rs ≡ Some (n, e) → find n rs ≡ Some e
unfolding nth
listed_found low [] a zero n e h = some_none (sym h)
listed_found low [] a (suc i) n e h = some_none (sym h)
listed_found low (r ∷ rs) a zero n e h =
    let q : r ≡ (n, e) = cc in
    find_here n r rs (ap (λ (z : ℕ × Slot). z.0) q) ∙ ap {B = Option Slot} (λ (z : ℕ × Slot). Some z.1) q
listed_found low (r ∷ rs) a (suc i) n e h =
    let m = rising_above (suc r.0) rs a.1 i n e h in
    find_past n r rs (λ q. absurd (omega arith)) ∙ listed_found (suc r.0) rs a.1 i n e h

-- what is found is listed
pub found_listed : (rs : Listed) (n : ℕ) (e : Slot) → find n rs ≡ Some e → (i : ℕ) × (nth i rs ≡ Some (n, e))
unfolding nth find
found_listed [] n e f = some_none (sym f)
found_listed (r ∷ rs) n e f =
    cases (eqb n r.0)
    (λ q.
    let u : r.0 ≡ n = sym (eqb-true n r.0 q) in
    let g : find n (r ∷ rs) ≡ Some r.1 = find_here n r rs u in
    let v : r.1 ≡ e = cc in
    (0, λ i. Some (u i, v i)))
    (λ q. let w = found_listed rs n e (sym (find_past n r rs (eqb-false n r.0 q)) ∙ f) in (suc w.0, w.1))

-- what is not found is not listed
pub unfound_unlisted : (rs : Listed) (n : ℕ) → find n rs ≡ None → (i : ℕ) (e : Slot) → nth i rs ≡ Some (n, e) → ⊥
unfolding nth
unfound_unlisted [] n f zero e h = some_none (sym h)
unfound_unlisted [] n f (suc i) e h = some_none (sym h)
unfound_unlisted (r ∷ rs) n f zero e h =
    let q : r ≡ (n, e) = cc in
    some_none (sym (find_here n r rs (ap (λ (z : ℕ × Slot). z.0) q)) ∙ f)
unfound_unlisted (r ∷ rs) n f (suc i) e h =
    cases (eqb n r.0)
    (λ q. some_none (sym (find_here n r rs (sym (eqb-true n r.0 q))) ∙ f))
    (λ q. unfound_unlisted rs n (sym (find_past n r rs (eqb-false n r.0 q)) ∙ f) i e h)

pub unlisted_unfound : (rs : Listed) (n : ℕ) → ((i : ℕ) (e : Slot) → nth i rs ≡ Some (n, e) → ⊥) → find n rs ≡ None
unlisted_unfound rs n k = cases_o (find n rs) (λ f. f) (λ e f. let w = found_listed rs n e f in absurd (k w.0 e w.1))

-- entries ascend, and what follows them may go on behind the last
rows_rise : (rs : Listed) (n : ℕ) (xs : Bytes) → RowBytes n rs xs → (more : Listed) → Rising (n + length rs) more → Rising n (rs ++ more)
rows_rise [] n xs b more a = rising_from n (n + 0) more (omega arith) a
rows_rise (r ∷ rs) n xs b more a =
    let q : r.0 ≡ n = b.0 in
    (omega arith, rising_from (suc r.0) (suc n) (rs ++ more) (omega arith) (rows_rise rs (suc n) b.2 b.5 more (rising_from (suc n + length rs) (n + suc (length rs)) more (omega arith) a)))

subs_rise : (ss : List Sub) (low : ℕ) (xs : Bytes) → SubsBytes low ss xs → Rising low (listed ss)
unfolding listed
subs_rise [] low xs b = tt
subs_rise (s ∷ ss) low xs b =
    let d = b.3 in
    let k = d.all in
    rising_from low s.first (listed (s ∷ ss)) b.0
    (rows_rise s.rows s.first d.entries d.lists (listed ss) (rising_from (s.first + length s.rows) (s.first + s.count) (listed ss) (omega arith) (subs_rise ss (s.first + s.count) b.2 b.5)))

-- what a section of a file lists, ascends
pub section_rising : (file : Bytes) (s : Section) → SectionAt file s → Rising 0 (rows s)
section_rising file s a = subs_rise s.subsections 0 a.form.table a.form.subsections
