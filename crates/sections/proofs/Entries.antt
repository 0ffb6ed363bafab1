-- Entries and runs that are written are read again.
use Rattle.std.proofs.Common.{◌≡◌, ℕ, zero, suc, ◌+◌, ◌*◌, ◌^◌, ◌<◌, ◌≤◌, Bool, true, false, eqb, leb, List, [], ◌∷◌, ◌++◌, length, Some, None, Option, refl, ap, ◌∙◌, append_assoc, arith, length-append}
use Rattle.std.proofs.lemmas.Bool.{le-leb, eqb-true, and_from}
use Rattle.format.specs.Bytes.{Bytes, ok, then, is_digit}
use Rattle.format.specs.Lines.{Slot, took, placed, exact, use_mark, slot_ends, slot_end, slot, sub_line}
use Rattle.format.specs.Sections.{Listed, slots, sub, subs, all_subs, listed, begins_digit}
use Rattle.format.specs.Strings.{turns}
use Rattle.format.specs.Writing.{decimal, padded, Run, ahead, runs, mark_of, slot_bytes, slots_on, run_on, runs_on}
use Rattle.sections.specs.Written.{Small, EachSmall, any_listed, listed_of, numbered, sub_of, subs_of}
use Rattle.sections.proofs.Tests.{clash}
use Rattle.sections.proofs.Digits.{took_at, padded_read, padded_++, padded_length, digits_read, decimal_begins}
use Rattle.sections.proofs.Ends.{lf, eol_taken}
use Rattle.sections.proofs.Tails.{ok_at}
use Rattle.locality.proofs.Cases.{cases}

slot_by : (u : Bool) (f g p : ℕ) (ys : Bytes) → f < 10 ^ 10 → g < 10 ^ 5 →
    slot p (padded 10 f (32 ∷ padded 5 g (32 ∷ mark_of u ∷ 32 ∷ 10 ∷ [])) ++ ys) ≡ took (record { in_use = u; field = f; gen = g }) (p + 20) ys
unfolding slot exact use_mark slot_ends slot_end mark_of
slot_by true f g p ys hf hg = simp (padded_++, padded_read, exact) (took_at (omega arith))
slot_by false f g p ys hf hg = simp (padded_++, padded_read, exact) (took_at (omega arith))

-- an entry that is written is read again
pub slot_read : (s : Slot) (p : ℕ) (ys : Bytes) → Small s → slot p (slot_bytes s ++ ys) ≡ took s (p + 20) ys
unfolding slot_bytes
slot_read s p ys h = slot_by s.in_use s.field s.gen p ys h.0 h.1

-- each entry is small
abbrev pub AllSmall : List Slot → Type 0
AllSmall [] = Unit {0}
AllSmall (s ∷ ss) = Small s × AllSmall ss

-- entries that are written are read again, with their numbers
pub slots_read : (ss : List Slot) (n p : ℕ) (ys : Bytes) → AllSmall ss → slots (length ss) n p (slots_on ss ys) ≡ ok (numbered n ss) (p + 20 * length ss) ys
unfolding slots slots_on numbered placed
slots_read [] n p ys h = ok_at (omega arith)
slots_read (s ∷ ss) n p ys h =
    rw (slot_read s p (slots_on ss ys) h.0)
    (rw (slots_read ss (suc n) (p + 20) ys h.1) (ok_at (omega arith)))

-- how many bytes a run is
unfoldable pub run_length : Run → ℕ
run_length r = length (decimal r.0) + (1 + (length (decimal (length r.1)) + (1 + 20 * length r.1)))

-- how many bytes runs are
unfoldable pub runs_length : List Run → ℕ
runs_length [] = 0
runs_length (r ∷ rs) = run_length r + runs_length rs

-- a run from `low` up of numbers below 1000, with at least one entry
pub record FitRun (low : ℕ) (r : Run) : Type 0 where
  pub above : low ≤ r.0
  pub some : 1 ≤ length r.1
  pub under : r.0 + length r.1 ≤ 1000
  pub all : AllSmall r.1

is_digit_space : is_digit 32 ≡ false
unfolding is_digit
is_digit_space = refl

is_digit_lf : is_digit 10 ≡ false
unfolding is_digit
is_digit_lf = refl

-- a subsection's line that is written is read again
pub sub_line_read : (n c p : ℕ) (ys : Bytes) → n < 10 ^ 10 → c < 10 ^ 10 →
    sub_line p (decimal n ++ (32 ∷ (decimal c ++ (10 ∷ ys)))) ≡ took (n, c) (p + (length (decimal n) + (1 + (length (decimal c) + 1)))) ys
unfolding sub_line exact
sub_line_read n c p ys a b =
    rw (digits_read p n 32 (decimal c ++ (10 ∷ ys)) a is_digit_space)
    (rw (digits_read (suc (p + length (decimal n))) c 10 ys b is_digit_lf)
    (rw (eol_taken lf (suc (p + length (decimal n)) + length (decimal c)) ys tt) (took_at (omega arith))))

-- a run that is written is read again as a subsection
pub sub_read : (r : Run) (low p : ℕ) (ys : Bytes) → FitRun low r → sub low p (run_on r ys) ≡ ok (sub_of r) (p + run_length r) ys
unfolding sub run_on run_length placed
sub_read r low p ys f =
    let m : ℕ = length (decimal r.0) + (1 + (length (decimal (length r.1)) + 1)) in
    let a : r.0 < 10 ^ 10 = omega (arith, f.under) in
    let b : length r.1 < 10 ^ 10 = omega (arith, f.under) in
    rw (sub_line_read r.0 (length r.1) p (slots_on r.1 ys) a b)
    (rw (and_from (leb low r.0) (leb 1 (length r.1)) (le-leb low r.0 f.above) (le-leb 1 (length r.1) f.some), then)
    (rw (slots_read r.1 r.0 (p + m) ys f.all) (ok_at (omega arith))))

-- runs from `low` up, none over another
abbrev pub FitRuns : ℕ → List Run → Type 0
FitRuns low [] = Unit {0}
FitRuns low (r ∷ rs) = FitRun low r × FitRuns (r.0 + length r.1) rs

-- runs that are written are read again, before bytes that begin with no digit
pub subs_read : (rs : List Run) (k low p : ℕ) (ys : Bytes) → length rs < k → FitRuns low rs → begins_digit ys ≡ false →
    subs k low p (runs_on rs ys) ≡ ok (subs_of rs) (p + runs_length rs) ys
unfolding subs runs_on runs_length subs_of
subs_read rs zero low p ys a f b = absurd (omega arith)
subs_read [] (suc k) low p ys a f b = rw (b, subs) (ok_at (omega arith))
subs_read (r ∷ rs) (suc k) low p ys a f b =
    let d : begins_digit (run_on r (runs_on rs ys)) ≡ true = unfold run_on in decimal_begins r.0 (32 ∷ (decimal (length r.1) ++ (10 ∷ slots_on r.1 (runs_on rs ys)))) (omega (arith, f.0.under)) in
    rw (d, subs)
    (rw (sub_read r low p (runs_on rs ys) f.0)
    (rw (subs_read rs k (r.0 + length r.1) (p + run_length r) ys (omega arith) f.1 b) (ok_at (omega arith))))

-- one run and more that are written are read again
pub all_subs_read : (r : Run) (rs : List Run) (p : ℕ) (ys : Bytes) → length rs ≤ 1000 → FitRuns 0 (r ∷ rs) → begins_digit ys ≡ false →
    all_subs p (runs_on (r ∷ rs) ys) ≡ ok (subs_of (r ∷ rs)) (p + runs_length (r ∷ rs)) ys
unfolding all_subs runs_on runs_length subs_of
all_subs_read r rs p ys h f b =
    rw (sub_read r 0 p (runs_on rs ys) f.0)
    (rw (subs_read rs turns (r.0 + length r.1) (p + run_length r) ys (omega arith) f.1 b) (ok_at (omega arith)))

lower : (a b : ℕ) (rs : List Run) → a ≤ b → FitRuns b rs → FitRuns a rs
lower a b [] h f = tt
lower a b (r ∷ rs) h f = (record { above = omega (arith, f.0.above); some = f.0.some; under = f.0.under; all = f.0.all }, f.1)

ahead_fit : (n : ℕ) (s : Slot) (rs : List Run) → n < 1000 → Small s → FitRuns (suc n) rs → FitRuns n (ahead n s rs)
unfolding ahead
ahead_fit n s [] h k f = (record { above = omega arith; some = omega arith; under = omega arith; all = (k, tt) }, tt)
ahead_fit n s (r ∷ rs) h k f =
    cases (eqb r.0 (suc n))
    (λ e. let q : r.0 ≡ suc n = eqb-true r.0 (suc n) e in
    rw (e, ahead) (
      record { above = omega arith; some = omega arith; under = omega (arith, f.0.under); all = (k, f.0.all) },
      lower (n + suc (length r.1)) (r.0 + length r.1) rs (omega arith) f.1,
    ))
    (λ e. rw (e, ahead) (record { above = omega arith; some = omega arith; under = omega arith; all = (k, tt) }, lower (n + 1) (suc n) (r ∷ rs) (omega arith) f))

-- the runs of what is listed ascend, none over another
pub runs_fit : (ls : List (Option Slot)) (n : ℕ) → n + length ls ≤ 1000 → EachSmall ls → FitRuns n (runs n ls)
unfolding runs
runs_fit [] n h k = tt
runs_fit (None ∷ ls) n h k = lower n (suc n) (runs (suc n) ls) (omega arith) (runs_fit ls (suc n) (omega arith) k)
runs_fit (Some s ∷ ls) n h k = ahead_fit n s (runs (suc n) ls) (omega arith) k.0 (runs_fit ls (suc n) (omega arith) k.1)

ahead_flat : (n : ℕ) (s : Slot) (rs : List Run) → listed (subs_of (ahead n s rs)) ≡ (n, s) ∷ listed (subs_of rs)
unfolding ahead listed subs_of numbered
ahead_flat n s [] = refl
ahead_flat n s (r ∷ rs) =
    cases (eqb r.0 (suc n))
    (λ e. let q : r.0 ≡ suc n = eqb-true r.0 (suc n) e in rw (e, ahead) (rw q refl))
    (λ e. rw (e, ahead) refl)

-- the runs list each listed number with its entry, ascending
pub runs_flat : (ls : List (Option Slot)) (n : ℕ) → listed (subs_of (runs n ls)) ≡ listed_of n ls
unfolding runs listed_of listed subs_of
runs_flat [] n = refl
runs_flat (None ∷ ls) n = runs_flat ls (suc n)
runs_flat (Some s ∷ ls) n = ahead_flat n s (runs (suc n) ls) ∙ ap {B = Listed} (λ r. (n, s) ∷ r) (runs_flat ls (suc n))

ahead_count : (n : ℕ) (s : Slot) (rs : List Run) → length (ahead n s rs) ≤ suc (length rs)
unfolding ahead
ahead_count n s [] = omega arith
ahead_count n s (r ∷ rs) = cases (eqb r.0 (suc n)) (λ e. rw (e, ahead) (omega arith)) (λ e. rw (e, ahead) (omega arith))

-- there are no more runs than entries
pub runs_count : (ls : List (Option Slot)) (n : ℕ) → length (runs n ls) ≤ length ls
unfolding runs
runs_count [] n = omega arith
runs_count (None ∷ ls) n = omega (arith, runs_count ls (suc n))
runs_count (Some s ∷ ls) n = omega (arith, ahead_count n s (runs (suc n) ls), runs_count ls (suc n))

ahead_some : (n : ℕ) (s : Slot) (rs : List Run) → 1 ≤ length (ahead n s rs)
unfolding ahead
ahead_some n s [] = omega arith
ahead_some n s (r ∷ rs) = cases (eqb r.0 (suc n)) (λ e. rw (e, ahead) (omega arith)) (λ e. rw (e, ahead) (omega arith))

-- there is a run where some entry is listed
pub runs_some : (ls : List (Option Slot)) (n : ℕ) → any_listed ls ≡ true → 1 ≤ length (runs n ls)
unfolding runs any_listed
runs_some [] n h = clash h refl
runs_some (None ∷ ls) n h = runs_some ls (suc n) h
runs_some (Some s ∷ ls) n h = ahead_some n s (runs (suc n) ls)

-- how many bytes an entry is
pub slot_length : (s : Slot) → length (slot_bytes s) ≡ 20
unfolding slot_bytes
slot_length s = rw (padded_length, padded_length) refl

-- how many bytes entries are, before others
pub slots_on_length : (ss : List Slot) (ys : Bytes) → length (slots_on ss ys) ≡ 20 * length ss + length ys
unfolding slots_on
slots_on_length [] ys = omega arith
slots_on_length (s ∷ ss) ys = rw (length-append, slot_length s, slots_on_length ss ys) (omega arith)

-- how many bytes a run is, before others
pub run_on_length : (r : Run) (ys : Bytes) → length (run_on r ys) ≡ run_length r + length ys
unfolding run_on run_length
run_on_length r ys =
    length-append (decimal r.0) (32 ∷ (decimal (length r.1) ++ (10 ∷ slots_on r.1 ys)))
    ∙ (let a = length-append (decimal (length r.1)) (10 ∷ slots_on r.1 ys) in let b = slots_on_length r.1 ys in omega arith)

-- how many bytes runs are, before others
pub runs_on_length : (rs : List Run) (ys : Bytes) → length (runs_on rs ys) ≡ runs_length rs + length ys
unfolding runs_on runs_length
runs_on_length [] ys = omega arith
runs_on_length (r ∷ rs) ys = rw (run_on_length r (runs_on rs ys), runs_on_length rs ys) (omega arith)

slots_on_++ : (ss : List Slot) (xs ys : Bytes) → slots_on ss xs ++ ys ≡ slots_on ss (xs ++ ys)
unfolding slots_on
slots_on_++ [] xs ys = refl
slots_on_++ (s ∷ ss) xs ys = append_assoc (slot_bytes s) (slots_on ss xs) ys ∙ ap (λ zs. slot_bytes s ++ zs) (slots_on_++ ss xs ys)

run_on_++ : (r : Run) (xs ys : Bytes) → run_on r xs ++ ys ≡ run_on r (xs ++ ys)
unfolding run_on
run_on_++ r xs ys = rw (append_assoc, append_assoc, slots_on_++) refl

-- what stands behind runs may be split
pub runs_on_++ : (rs : List Run) (xs ys : Bytes) → runs_on rs xs ++ ys ≡ runs_on rs (xs ++ ys)
unfolding runs_on
runs_on_++ [] xs ys = refl
runs_on_++ (r ∷ rs) xs ys = run_on_++ r (runs_on rs xs) ys ∙ ap (λ zs. run_on r zs) (runs_on_++ rs xs ys)
